-- Acts that are not calls keep what is sound.
use Rattle.std.proofs.Common.{◌≡◌, ◌≢◌, ◌↔◌, ◌⊎◌, inl, inr, ℕ, ◌+◌, ◌<◌, ◌≤◌, Bool, true, false, cond, List, [], ◌∷◌, ◌++◌, length, get_or, set, refl, sym, ap, ◌∙◌, subst, arith, Option, Some, None, is_some, sum_by}
use Rattle.std.proofs.lemmas.Bool.{cases_lt}
use Rattle.std.proofs.lemmas.List.{length-set, set-get_or, get_or_past}
use Rattle.std.proofs.lemmas.List.Sums.{sum_by-set, sum_by-cons, sum_by_push}
use Rattle.std.proofs.lemmas.Option.{slice_get_within}
use Rattle.std.specs.List.{slice_get}
use Rattle.gmp_base.specs.declared.ask.Ask.TheVariants as ask
use Rattle.gmp_base.specs.declared.ask.Woke.TheVariants as woke
use Rattle.gmp_base.specs.declared.number.GNo.{GNo}
use Rattle.gmp_base.specs.declared.number.MNo.{MNo}
use Rattle.gmp_base.specs.declared.number.PNo.{PNo}
use Rattle.gmp_base.specs.declared.number.Readiness.{Readiness}
use Rattle.gmp_base.specs.declared.refusal.Refusal.TheVariants.{Over, OutOfMemory}
use Rattle.gmp_seq.proofs.Sizes.{legal_sizes}
use Rattle.gmp_seq.specs.declared.call.Call.{Call}
use Rattle.gmp_seq.specs.declared.call.Call.TheVariants as call
use Rattle.gmp_seq.specs.declared.call.Limits.{Limits}
use Rattle.gmp_seq.specs.Machines.{Holds}
use Rattle.gmp_seq.specs.Needs.{WantsMemory}
use Rattle.gmp_seq.specs.State.{State}
use Rattle.gmp_seq.specs.Table.{IsRunning, IsCalling}
use Rattle.gmp_acts.specs.System.{BookRun}
use Rattle.gmp_driver.specs.declared.act.Act.{Act}
use Rattle.gmp_driver.specs.declared.act.Act.TheVariants as act
use Rattle.gmp_driver.specs.declared.act.Told.{Told}
use Rattle.gmp_driver.specs.declared.act.Told.TheVariants as told
use Rattle.gmp_driver.specs.declared.act.Tried.TheVariants as tried
use Rattle.gmp_driver.specs.declared.act.Value.{Value}
use Rattle.gmp_driver.specs.declared.act.Value.TheVariants as value
use Rattle.gmp_driver.specs.declared.place.Place.{Place}
use Rattle.gmp_driver.specs.declared.place.Place.TheVariants as place
use Rattle.gmp_driver.specs.declared.registers.CalledParts.{CalledParts}
use Rattle.gmp_driver.specs.declared.registers.HeldParts.{HeldParts}
use Rattle.gmp_driver.specs.declared.registers.ProcParts.{ProcParts}
use Rattle.gmp_driver.specs.declared.seen.Seen.{Seen}
use Rattle.gmp_driver.specs.Fits.{SuitsPlace, Runs}
use Rattle.gmp_driver.specs.Local.{MayCome, come_back, filled}
use Rattle.gmp_acts.specs.Hands.{PlainMachine}
use Rattle.gmp_driver.specs.Registers.{but, first_value, used}
use Rattle.gmp_driver.specs.Seen.{own_processor, number_of}
use Rattle.gmp_acts.specs.Hands.{PlainHand}
use Rattle.gmp_driver.specs.Seen.{seen, seen_of}
use Rattle.gmp_driver.specs.Hunt.{begun, victim_of}
use Rattle.gmp_driver.specs.Table.{after, next_act, next_place}
use Rattle.gmp_acts.specs.Hands.{hand_unmade}
use Rattle.gmp_acts.specs.declared.choice.Choice.{Choice}
use Rattle.gmp_acts.specs.declared.made.Made.{Made}
use Rattle.gmp_acts.specs.System.{System, Has, machine_at, no_machine, held_number, called_number, is_same, is_ticket, in_hand, in_queue}
use Rattle.gmp_acts.specs.Acts.{Answers, HasFewCases, Unmade, with_local, with_queue, queue_of, with_ticket, own_taken_from, stolen_from, stolen, pushed, given_back, DoesAct, Acts, ActsAll}
use Rattle.gmp_acts.specs.Sound.{Agrees, HasFewAt, IsEnd, IsSound}
use Rattle.gmp_acts.proofs.Kept.{at_machine, hands_set, turns_few, accepted_sound}
use Rattle.gmp_acts.proofs.Lands.{retold_some, some_of}
use Rattle.gmp_acts.proofs.Turning.{retold_number}
use Rattle.gmp_acts.proofs.Granted.{granted}
use Rattle.gmp_acts.proofs.Local.{FewTold, Finds, Leads, finds, leads, drained_fits, popped_back, pushed_fits, same_fits, stolen_back, ticket_fits, unmade_leads}

-- An act of m on what it alone holds and on local queues: the tickets stay as many
pub record Moves (k : System) (m : MNo) (queues : List (List Readiness)) (x : PlainMachine) : Type 0 where
  pub agrees : Agrees k.book m x
  pub long : length queues ≡ length k.queues
  pub at_most : (r : Readiness) → sum_by (in_queue r) queues + in_hand r x.hand ≤ sum_by (in_queue r) k.queues + in_hand r (machine_at k m).hand
  pub same : k.book.state.outcome ≡ None → (r : Readiness) → sum_by (in_queue r) queues + in_hand r x.hand ≡ sum_by (in_queue r) k.queues + in_hand r (machine_at k m).hand

pub moved_sound : (k : System) (m : MNo) (queues : List (List Readiness)) (x : PlainMachine) → m.0 < length k.machines → IsSound k → Moves k m queues x
    → IsSound (record k { queues = queues; machines = set k.machines m.0 x })
moved_sound k m queues x inside s moves = record {
  within = s.within;
  legal = s.legal;
  own = s.own;
  count = length-set k.machines m.0 x ∙ s.count;
  queues = moves.long ∙ s.queues;
  each = λ n there. (let there' : n.0 < length k.machines = (let l = length-set k.machines m.0 x in omega (arith, there, l)) in at_machine (Agrees k.book) k.machines m n x inside moves.agrees (λ _. s.each n there'));
  tickets = λ r. (let t = s.tickets r in let a = moves.at_most r in let h = hands_set k m x r inside in omega (arith, t, a, h));
  all_tickets = λ r goes. (let t = s.all_tickets r goes in let a = moves.same goes r in let h = hands_set k m x r inside in omega (arith, t, a, h));
}

-- the same values, but for tickets
pub record SameValues (hand hand' : PlainHand) : Type 0 where
  pub processor : own_processor hand' ≡ own_processor hand
  pub held : held_number hand'.held ≡ held_number hand.held
  pub called : called_number hand'.called ≡ called_number hand.called

same_values : (hand : PlainHand) → SameValues hand hand
same_values hand = record { processor = refl; held = refl; called = refl }

-- a machine that is told something, and holds the same but for tickets, still agrees with the book
agrees_told : (log : BookRun) (m : MNo) (x : PlainMachine) (what : Told) (hand : PlainHand) → Agrees log m x → SameValues x.hand hand
    → SuitsPlace (after (record x { hand = hand }) what).place hand
    → Leads x.place (next_place (seen_of x.procs x.fresh x.turns x.aside hand) x.place what) (slice_get log.state.machines.modes m.0)
    → Agrees log m (after (record x { hand = hand }) what)
agrees_told log m x what hand h same fits leads = record {
  driver = record {
    some_procs = h.driver.some_procs;
    few_procs = h.driver.few_procs;
    few_turns = turns_few (seen_of x.procs x.fresh x.turns x.aside hand) x.place what h.driver.few_turns;
    pass = h.driver.pass;
    fits = λ _. fits;
  };
  pass = h.pass;
  has_pass = h.has_pass;
  run = h.run;
  its = h.its;
  turn = h.turn;
  seen = h.seen;
  procs = h.procs;
  few = leads.few;
  ended = λ end. absurd (leads.ended end);
  sees = λ goes. (let old = h.sees goes in record {
    holds = λ p. subst (λ (o : Option PNo). (o ≡ Some p) ↔ Holds log.state.machines m p) (sym same.processor) (old.holds p);
    runs = λ g. subst (λ (o : Option GNo). (o ≡ Some g) ↔ IsRunning log.state.table g m) (sym same.held) (old.runs g);
    calls = λ g. subst (λ (o : Option GNo). (o ≡ Some g) ↔ IsCalling log.state.table g m) (sym same.called) (old.calls g);
    does = leads.does old.does;
    spinning = old.spinning ∙ leads.spinning;
  });
  has = record {
    holds = λ p e. h.has.holds p (sym same.processor ∙ e);
    runs = λ g e. h.has.runs g (sym same.held ∙ e);
    calls = λ g e. h.has.calls g (sym same.called ∙ e);
  };
}

-- Local queues, and the tickets in them

pub queue_within : (qs : List (List Readiness)) (p : ℕ) (t : Readiness) (rest : List Readiness) → get_or qs p [] ≡ t ∷ rest → p < length qs
queue_within qs p t rest h = elim (cases_lt p (length qs)) [ inl w ↦ w | inr w ↦ absurd (let no : [] ≡ t ∷ rest = sym (get_or_past qs p [] w) ∙ h in cc) ]

pub taken : (qs : List (List Readiness)) (p : ℕ) (t : Readiness) (rest : List Readiness) (r : Readiness) → get_or qs p [] ≡ t ∷ rest
    → sum_by (in_queue r) (set qs p rest) + is_ticket r (Some t) ≡ sum_by (in_queue r) qs
taken qs p t rest r h =
    let first : in_queue r (get_or qs p []) ≡ cond (is_same r t) 1 0 + in_queue r rest = ap (in_queue r) h ∙ sum_by-cons (λ (u : Readiness). cond (is_same r u) 1 0) t rest in
    let sum = sum_by-set (in_queue r) qs p rest [] (queue_within qs p t rest h) in
    omega (arith, first, sum)

pub put_last : (qs : List (List Readiness)) (p : ℕ) (t r : Readiness) → p < length qs → sum_by (in_queue r) (set qs p (get_or qs p [] ++ t ∷ [])) ≡ sum_by (in_queue r) qs + is_ticket r (Some t)
put_last qs p t r inside =
    let last : in_queue r (get_or qs p [] ++ t ∷ []) ≡ in_queue r (get_or qs p []) + cond (is_same r t) 1 0 = sum_by_push (λ (u : Readiness). cond (is_same r u) 1 0) (get_or qs p []) t in
    let sum = sum_by-set (in_queue r) qs p (get_or qs p [] ++ t ∷ []) [] inside in
    omega (arith, last, sum)

pub received_count : (t r : Readiness) (hand : PlainHand) (o : Option Readiness) → hand.to_claim ≡ o → hand.to_store ≡ None → in_hand r (with_ticket t hand o) ≡ in_hand r hand + is_ticket r (Some t)
received_count t r hand None claim store = (let a : is_ticket r hand.to_claim ≡ 0 = ap (is_ticket r) claim in let b : is_ticket r hand.to_store ≡ 0 = ap (is_ticket r) store in omega (arith, a, b))
received_count t r hand (Some u) claim store = (let a : is_ticket r hand.to_claim ≡ is_ticket r (Some u) = ap (is_ticket r) claim in let b : is_ticket r hand.to_store ≡ 0 = ap (is_ticket r) store in omega (arith, a, b))

received_same : (t : Readiness) (hand : PlainHand) (o : Option Readiness) → SameValues hand (with_ticket t hand o)
received_same t hand None = record { processor = refl; held = refl; called = refl }
received_same t hand (Some u) = record { processor = refl; held = refl; called = refl }

-- What is left after a value was given back

but_processor : (which : Value) (hand : PlainHand) (p : PNo) → own_processor (but (Some which) hand) ≡ Some p → own_processor hand ≡ Some p
but_processor value.Proc hand p e = absurd (let no : None ≡ Some p = e in cc)
but_processor value.Held hand p e = e
but_processor value.Called hand p e = e
but_processor value.ToClaim hand p e = e
but_processor value.ToStore hand p e = e

but_held : (which : Value) (hand : PlainHand) (g : GNo) → held_number (but (Some which) hand).held ≡ Some g → held_number hand.held ≡ Some g
but_held value.Held hand g e = absurd (let no : None ≡ Some g = e in cc)
but_held value.Proc hand g e = e
but_held value.Called hand g e = e
but_held value.ToClaim hand g e = e
but_held value.ToStore hand g e = e

but_called : (which : Value) (hand : PlainHand) (g : GNo) → called_number (but (Some which) hand).called ≡ Some g → called_number hand.called ≡ Some g
but_called value.Called hand g e = absurd (let no : None ≡ Some g = e in cc)
but_called value.Proc hand g e = e
but_called value.Held hand g e = e
but_called value.ToClaim hand g e = e
but_called value.ToStore hand g e = e

but_count : (which : Value) (hand : PlainHand) (r : Readiness) → in_hand r (but (Some which) hand) ≤ in_hand r hand
but_count value.Held hand r = omega arith
but_count value.Called hand r = omega arith
but_count value.Proc hand r = omega arith
but_count value.ToClaim hand r = omega arith
but_count value.ToStore hand r = omega arith

nothing_left : (p : Option (ProcParts Unit)) (h : Option (HeldParts Unit)) (c : Option (CalledParts Unit)) (t s : Option Readiness)
    → (let hand : PlainHand = record { processor = p; held = h; called = c; to_claim = t; to_store = s } in first_value hand ≡ None → SuitsPlace place.Done hand)
nothing_left None None None None None e = record { has_processor = refl; has_held = refl; has_called = refl; has_to_claim = refl; has_to_store = refl }
nothing_left p (Some h) c t s e = absurd (let no : Some value.Held ≡ None = e in cc)
nothing_left p None (Some c) t s e = absurd (let no : Some value.Called ≡ None = e in cc)
nothing_left p None None (Some t) s e = absurd (let no : Some value.ToClaim ≡ None = e in cc)
nothing_left p None None None (Some s) e = absurd (let no : Some value.ToStore ≡ None = e in cc)
nothing_left (Some p) None None None None e = absurd (let no : Some value.Proc ≡ None = e in cc)

-- once the run is over
ended_agrees : (log : BookRun) (m : MNo) (x : PlainMachine) (what : Told) (hand : PlainHand) → log.state.outcome ≢ None → Agrees log m x → SuitsPlace (after (record x { hand = hand }) what).place hand
    → (next_place (seen_of x.procs x.fresh x.turns x.aside hand) x.place what ≡ place.Over) ⊎ (next_place (seen_of x.procs x.fresh x.turns x.aside hand) x.place what ≡ place.Done) → Has log.state m hand
    → Agrees log m (after (record x { hand = hand }) what)
ended_agrees log m x what hand over h fits at has = record {
  driver = record {
    some_procs = h.driver.some_procs;
    few_procs = h.driver.few_procs;
    few_turns = turns_few (seen_of x.procs x.fresh x.turns x.aside hand) x.place what h.driver.few_turns;
    pass = h.driver.pass;
    fits = λ _. fits;
  };
  pass = h.pass;
  has_pass = h.has_pass;
  run = h.run;
  its = h.its;
  turn = h.turn;
  seen = h.seen;
  procs = h.procs;
  few = elim at [ inl e ↦ subst HasFewAt (sym e) tt | inr e ↦ subst HasFewAt (sym e) tt ];
  ended = λ _. over;
  sees = λ goes. absurd (over goes);
  has = has;
}

over_from : (s : Seen) (here : Place) → next_place s here (told.Refused Over) ≡ place.Over
over_from s here = refl

-- a make takes memory
pub memory_is : (limits : Limits) (asked : Call) (s : State) → WantsMemory limits asked s → (capacity : ℕ) × (asked ≡ call.Make capacity)
memory_is limits (call.Make capacity) s h = (capacity, refl)
memory_is limits _ s h = absurd h

-- Each act keeps what is sound.
module _ (k : System) (m : MNo) (inside : m.0 < length k.machines) (s : IsSound k) where
  abbrev mine : Agrees k.book m (machine_at k m)
  mine = s.each m inside

  abbrev X : PlainMachine
  X = machine_at k m

  fits : SuitsPlace (machine_at k m).place (machine_at k m).hand
  fits = mine.driver.fits (ap is_some mine.has_pass)

  pub found : (a : Act) → next_act (machine_at k m) ≡ a → Finds (seen (machine_at k m)) (machine_at k m).place (machine_at k m).hand a
  found a e = subst (Finds (seen X) X.place X.hand) e (finds (seen X) X.hand X.place fits)

  leads_to : (a : Act) (what : Told) (hand : PlainHand) → next_act (machine_at k m) ≡ a → MayCome a what → FewTold what
      → Leads (machine_at k m).place (next_place (seen_of (machine_at k m).procs (machine_at k m).fresh (machine_at k m).turns (machine_at k m).aside hand) (machine_at k m).place what) (slice_get k.book.state.machines.modes m.0)
  leads_to a what hand e may few =
      leads (slice_get k.book.state.machines.modes m.0) (seen X) (seen_of X.procs X.fresh X.turns X.aside hand) X.place what (subst (λ (b : Act). MayCome b what) (sym e) may) few

  -- told something, with the same tickets
  told_moves : (what : Told) (hand : PlainHand) → SameValues (machine_at k m).hand hand → ((r : Readiness) → in_hand r hand ≡ in_hand r (machine_at k m).hand)
      → SuitsPlace (after (record (machine_at k m) { hand = hand }) what).place hand
      → Leads (machine_at k m).place (next_place (seen_of (machine_at k m).procs (machine_at k m).fresh (machine_at k m).turns (machine_at k m).aside hand) (machine_at k m).place what) (slice_get k.book.state.machines.modes m.0)
      → Moves k m k.queues (after (record (machine_at k m) { hand = hand }) what)
  told_moves what hand same count there leads = record {
    agrees = agrees_told k.book m (machine_at k m) what hand mine same there leads;
    long = refl;
    at_most = λ r. (let e = count r in omega (arith, e));
    same = λ goes r. (let e = count r in omega (arith, e));
  }

  -- all that the act was handed comes back
  same_hand : (a : Act) (what : Told) → next_act (machine_at k m) ≡ a → MayCome a what → FewTold what
      → filled (used a (machine_at k m).hand) ≡ come_back what (is_some (machine_at k m).hand.to_claim) (filled (used a (machine_at k m).hand))
      → IsSound (record k { machines = set k.machines m.0 (after (machine_at k m) what) })
  same_hand a what e may few back =
      let there : SuitsPlace (after X what).place X.hand = same_fits X what fits (subst (λ (b : Act). MayCome b what) (sym e) may)
      (subst (λ (b : Act). filled (used b X.hand) ≡ come_back what (is_some X.hand.to_claim) (filled (used b X.hand))) (sym e) back) in
      moved_sound k m k.queues (after X what) inside s (told_moves what X.hand (same_values X.hand) (λ r. refl) there (leads_to a what X.hand e may few))

  -- a ticket is taken from queue p
  took : (a : Act) (p : ℕ) (t : Readiness) (rest : List Readiness) (what : Told) → next_act (machine_at k m) ≡ a → MayCome a what → FewTold what
      → get_or k.queues p [] ≡ t ∷ rest → (machine_at k m).hand.to_store ≡ None
      → filled (with_ticket t (used a (machine_at k m).hand) (machine_at k m).hand.to_claim) ≡ come_back what (is_some (machine_at k m).hand.to_claim) (filled (used a (machine_at k m).hand))
      → IsSound (record k { machines = set k.machines m.0 (after (record (machine_at k m) { hand = with_ticket t (machine_at k m).hand (machine_at k m).hand.to_claim }) what); queues = set k.queues p rest })
  took a p t rest what e may few is free back =
      let hand : PlainHand = with_ticket t (machine_at k m).hand (machine_at k m).hand.to_claim in
      let there : SuitsPlace (after (record X { hand = hand }) what).place hand = ticket_fits X what t fits (subst (λ (b : Act). MayCome b what) (sym e) may)
      (subst (λ (b : Act). filled (with_ticket t (used b X.hand) X.hand.to_claim) ≡ come_back what (is_some X.hand.to_claim) (filled (used b X.hand))) (sym e) back) in
      let count : (r : Readiness) → sum_by (in_queue r) (set k.queues p rest) + in_hand r hand ≡ sum_by (in_queue r) k.queues + in_hand r (machine_at k m).hand = (λ (r : Readiness).
      let a = taken k.queues p t rest r is in let b = received_count t r (machine_at k m).hand (machine_at k m).hand.to_claim refl free in omega (arith, a, b)) in
      moved_sound k m (set k.queues p rest) (after (record (machine_at k m) { hand = hand }) what) inside s (record {
        agrees = agrees_told k.book m (machine_at k m) what hand mine (received_same t (machine_at k m).hand (machine_at k m).hand.to_claim) there (leads_to a what hand e may few);
        long = length-set k.queues p rest;
        at_most = λ r. (let e = count r in omega (arith, e));
        same = λ goes r. count r;
      })

  pops : (o : Option PNo) (queue : List Readiness) → own_processor (machine_at k m).hand ≡ o → queue_of k.queues o ≡ queue → next_act (machine_at k m) ≡ act.Pop
      → IsSound (with_local k m (own_taken_from false (machine_at k m) k.queues queue))
  pops o [] own is e = same_hand act.Pop told.Empty e tt tt refl
  pops None (t ∷ rest) own is e = absurd (let no : [] ≡ t ∷ rest = is in cc)
  pops (Some p) (t ∷ rest) own is e =
      let free = found act.Pop e in
      let taken : with_ticket t X.hand X.hand.to_claim ≡ record X.hand { to_claim = Some t } = ap (with_ticket t X.hand) free.0 in
      subst (λ (q : Option PNo). IsSound (with_local k m (after (record X { hand = record X.hand { to_claim = Some t } }) told.Got, with_queue k.queues q rest))) (sym own)
      (subst (λ (h : PlainHand). IsSound (record k { machines = set k.machines m.0 (after (record X { hand = h }) told.Got); queues = set k.queues p.0 rest })) taken
      (took act.Pop p.0 t rest told.Got e tt tt is free.1 (popped_back t X.hand free.0)))

  drains : (o : Option PNo) (queue : List Readiness) → own_processor (machine_at k m).hand ≡ o → queue_of k.queues o ≡ queue → next_act (machine_at k m) ≡ act.Drain
      → IsSound (with_local k m (own_taken_from true (machine_at k m) k.queues queue))
  drains o [] own is e = same_hand act.Drain told.Empty e tt tt refl
  drains None (t ∷ rest) own is e = absurd (let no : [] ≡ t ∷ rest = is in cc)
  drains (Some p) (t ∷ rest) own is e =
      let free = found act.Drain e in
      let hand : PlainHand = record X.hand { to_store = Some t } in
      let count : (r : Readiness) → sum_by (in_queue r) (set k.queues p.0 rest) + in_hand r hand ≡ sum_by (in_queue r) k.queues + in_hand r X.hand = (λ (r : Readiness).
      let a = taken k.queues p.0 t rest r is in let b : is_ticket r X.hand.to_store ≡ 0 = ap (is_ticket r) free.1 in omega (arith, a, b)) in
      subst (λ (q : Option PNo). IsSound (with_local k m (after (record X { hand = hand }) told.Drained, with_queue k.queues q rest))) (sym own)
      (moved_sound k m (set k.queues p.0 rest) (after (record X { hand = hand }) told.Drained) inside s (record {
        agrees = agrees_told k.book m X told.Drained hand mine (record { processor = refl; held = refl; called = refl }) (drained_fits X t fits e) (leads_to act.Drain told.Drained hand e tt tt);
        long = length-set k.queues p.0 rest;
        at_most = λ r. (let c = count r in omega (arith, c));
        same = λ goes r. count r;
      }))

  steals : (v : PNo) (queue : List Readiness) → get_or k.queues v.0 [] ≡ queue → next_act (machine_at k m) ≡ act.Steal v → IsSound (with_local k m (stolen_from (machine_at k m) None k.queues v queue))
  steals v [] is e = same_hand (act.Steal v) (told.Tried tried.Empty) e tt tt refl
  steals v (t ∷ rest) is e =
      took (act.Steal v) v.0 t rest (told.Tried (tried.Got (length (t ∷ rest)))) e tt tt is (found (act.Steal v) e) (stolen_back t (used (act.Steal v) X.hand) X.hand.to_claim)

  steals_or : (v : PNo) (lost : Bool) → next_act (machine_at k m) ≡ act.Steal v → IsSound (with_local k m (stolen (machine_at k m) None k.queues v lost))
  steals_or v true e = same_hand (act.Steal v) (told.Tried tried.Unsure) e tt tt refl
  steals_or v false e = steals v (get_or k.queues v.0 []) refl e

  hunts : (word : ℕ) (v : PNo) (queue : List Readiness) → get_or k.queues v.0 [] ≡ queue → next_act (machine_at k m) ≡ act.Hunt → IsSound (with_local k m (stolen_from (machine_at k m) (Some word) k.queues v queue))
  hunts word v [] is e = same_hand act.Hunt (told.Drew word tried.Empty) e tt tt refl
  hunts word v (t ∷ rest) is e =
      took act.Hunt v.0 t rest (told.Drew word (tried.Got (length (t ∷ rest)))) e tt tt is (found act.Hunt e) (stolen_back t (used act.Hunt X.hand) X.hand.to_claim)

  hunts_or : (word : ℕ) (v : PNo) (lost : Bool) → next_act (machine_at k m) ≡ act.Hunt → IsSound (with_local k m (stolen (machine_at k m) (Some word) k.queues v lost))
  hunts_or word v true e = same_hand act.Hunt (told.Drew word tried.Unsure) e tt tt refl
  hunts_or word v false e = hunts word v (get_or k.queues v.0 []) refl e

  -- the machine holds its processor, whose queue there is
  pub own_within : (p : PNo) → own_processor (machine_at k m).hand ≡ Some p → p.0 < length k.queues
  own_within p e =
      let l : p.0 < length k.book.state.machines.holders = slice_get_within k.book.state.machines.holders p.0 (Some m) (mine.has.holds p e) in
      let sizes = legal_sizes k.book.limits k.book.bodies k.book.capacities k.book.history k.book.state s.within s.legal in
      let holders = sizes.holders in
      let queues = s.queues in
      omega (arith, l, holders, queues)

  pushes : (o : Option Readiness) (refused : Bool) → (machine_at k m).hand.to_store ≡ o → next_act (machine_at k m) ≡ act.Push → IsSound (with_local k m (pushed (machine_at k m) k.queues o refused))
  pushes None refused is e = subst (λ (ms : List PlainMachine). IsSound (record k { machines = ms })) (sym (set-get_or k.machines m.0 no_machine)) s
  pushes (Some t) true is e = same_hand act.Push told.PushRefused e tt tt refl
  pushes (Some t) false is e =
      let p = some_of X.hand.processor (found act.Push e).0 in
      let own : own_processor X.hand ≡ Some p.0.p = ap number_of p.1 in
      let hand : PlainHand = record X.hand { to_store = None } in
      let there : SuitsPlace (after (record X { hand = hand }) told.Pushed).place hand = pushed_fits X fits e in
      let count : (r : Readiness) → sum_by (in_queue r) (set k.queues p.0.p.0 (get_or k.queues p.0.p.0 [] ++ t ∷ [])) + in_hand r hand ≡ sum_by (in_queue r) k.queues + in_hand r X.hand = (λ (r : Readiness).
      let a = put_last k.queues p.0.p.0 t r (own_within p.0.p own) in let b : is_ticket r X.hand.to_store ≡ is_ticket r (Some t) = ap (is_ticket r) is in omega (arith, a, b)) in
      subst (λ (q : Option PNo). IsSound (with_local k m (after (record X { hand = hand }) told.Pushed, with_queue k.queues q (queue_of k.queues q ++ t ∷ [])))) (sym own)
      (moved_sound k m (set k.queues p.0.p.0 (get_or k.queues p.0.p.0 [] ++ t ∷ [])) (after (record X { hand = hand }) told.Pushed) inside s (record {
        agrees = agrees_told k.book m X told.Pushed hand mine (record { processor = refl; held = refl; called = refl }) there (leads_to act.Push told.Pushed hand e tt tt);
        long = length-set k.queues p.0.p.0 (get_or k.queues p.0.p.0 [] ++ t ∷ []);
        at_most = λ r. (let c = count r in omega (arith, c));
        same = λ goes r. count r;
      }))

  -- values are given back only at the end
  surrenders : (which : Option Value) → next_act (machine_at k m) ≡ act.Surrender which → IsSound (record k { machines = set k.machines m.0 (given_back (machine_at k m) which) })
  surrenders None e =
      let at = found (act.Surrender None) e in
      let over : k.book.state.outcome ≢ None = mine.ended (subst IsEnd (sym at.0) tt) in
      let done : next_place (seen_of X.procs X.fresh X.turns X.aside X.hand) X.place told.Nothing ≡ place.Done = ap (λ (p : Place). next_place (seen_of X.procs X.fresh X.turns X.aside X.hand) p told.Nothing) at.0 in
      moved_sound k m k.queues (after X told.Nothing) inside s (record {
        agrees = ended_agrees k.book m X told.Nothing X.hand over mine (subst (λ (p : Place). SuitsPlace p X.hand) (sym done) (nothing_left X.hand.processor X.hand.held X.hand.called X.hand.to_claim X.hand.to_store at.1)) (inr done) mine.has;
        long = refl;
        at_most = λ r. omega arith;
        same = λ goes r. refl;
      })
  surrenders (Some which) e =
      let at = found (act.Surrender (Some which)) e in
      let over : k.book.state.outcome ≢ None = mine.ended (subst IsEnd (sym at.0) tt) in
      let hand : PlainHand = but (Some which) X.hand in
      let still : next_place (seen_of X.procs X.fresh X.turns X.aside hand) X.place told.Surrendered ≡ place.Over = ap (λ (p : Place). next_place (seen_of X.procs X.fresh X.turns X.aside hand) p told.Surrendered) at.0 in
      moved_sound k m k.queues (after (record X { hand = hand }) told.Surrendered) inside s (record {
        agrees = ended_agrees k.book m X told.Surrendered hand over mine (subst (λ (p : Place). SuitsPlace p hand) (sym still) tt) (inl still) (record {
          holds = λ p q. mine.has.holds p (but_processor which X.hand p q);
          runs = λ g q. mine.has.runs g (but_held which X.hand g q);
          calls = λ g q. mine.has.calls g (but_called which X.hand g q);
        });
        long = refl;
        at_most = λ r. (let c = but_count which X.hand r in omega (arith, c));
        same = λ goes r. absurd (over goes);
      })

  -- a call that finds the run over
  stops : k.book.state.outcome ≢ None → IsSound (record k { machines = set k.machines m.0 (after (machine_at k m) (told.Refused Over)) })
  stops over =
      moved_sound k m k.queues (after X (told.Refused Over)) inside s (record {
        agrees = ended_agrees k.book m X (told.Refused Over) X.hand over mine
            (subst (λ (p : Place). SuitsPlace p X.hand) (sym (over_from (seen_of X.procs X.fresh X.turns X.aside X.hand) X.place)) tt) (inl (over_from (seen_of X.procs X.fresh X.turns X.aside X.hand) X.place)) mine.has;
        long = refl;
        at_most = λ r. omega arith;
        same = λ goes r. refl;
      })

  -- a make that wanted memory
  wants : (capacity : ℕ) → next_act (machine_at k m) ≡ act.Call (call.Make capacity)
      → IsSound (record k { machines = set k.machines m.0 (after (record (machine_at k m) { hand = hand_unmade (machine_at k m).hand }) (told.Refused OutOfMemory)) })
  wants capacity e =
      let at : X.place ≡ place.Do (ask.Make capacity) = found (act.Call (call.Make capacity)) e in
      let goes : next_place (seen_of X.procs X.fresh X.turns X.aside (hand_unmade X.hand)) X.place (told.Refused OutOfMemory) ≡ place.Run = ap (λ (p : Place). next_place (seen_of X.procs X.fresh X.turns X.aside (hand_unmade X.hand)) p (told.Refused OutOfMemory)) at in
      let was : Runs X.hand = subst (λ (p : Place). SuitsPlace p X.hand) at fits in
      moved_sound k m k.queues _ inside s (told_moves (told.Refused OutOfMemory) (hand_unmade X.hand)
      (record { processor = refl; held = retold_number woke.NoMemory X.hand.held; called = refl }) (λ r. refl)
      (subst (λ (p : Place). SuitsPlace p (hand_unmade X.hand)) (sym goes) (record { has_processor = was.has_processor; has_held = retold_some woke.NoMemory X.hand.held ∙ was.has_held; has_called = was.has_called; has_to_claim = was.has_to_claim; has_to_store = was.has_to_store }))
      (unmade_leads (slice_get k.book.state.machines.modes m.0) capacity X.place _ at goes))

  at_parts : (x x' : PlainMachine) (log log' : BookRun) (own own' : List Made) → x' ≡ x → log' ≡ log → own' ≡ own → IsSound (record k { book = log; machines = set k.machines m.0 x; own = own })
      → IsSound (record k { book = log'; machines = set k.machines m.0 x'; own = own' })
  at_parts x x' log log' own own' ex el eo h = rw (ex, el, eo) h

  unmade_sound : (asked : Call) (x' : PlainMachine) (log' : BookRun) (own' : List Made) → next_act (machine_at k m) ≡ act.Call asked → Unmade (machine_at k m) m asked k.book k.own x' log' own'
      → IsSound (record k { book = log'; machines = set k.machines m.0 x'; own = own' })
  unmade_sound asked x' log' own' e want =
      let memory = memory_is k.book.limits asked k.book.state want.makes in
      at_parts _ x' k.book log' k.own own' want.machine want.same want.none (wants memory.0 (e ∙ ap act.Call memory.1))

  -- whatever a call comes to
  answers : (asked : Call) (x' : PlainMachine) (log' : BookRun) (own' : List Made) → next_act (machine_at k m) ≡ act.Call asked → Answers (machine_at k m) m asked k.book k.own x' log' own'
      → IsSound (record k { book = log'; machines = set k.machines m.0 x'; own = own' })
  answers asked x' log' own' e (inl done) = accepted_sound k m asked x' log' own' inside s e done
  answers asked x' log' own' e (inr (inl stop)) = at_parts _ x' k.book log' k.own own' stop.machine stop.same stop.none (stops stop.over)
  answers asked x' log' own' e (inr (inr (inl want))) = unmade_sound asked x' log' own' e want
  answers asked x' log' own' e (inr (inr (inr declined))) = absurd (declined.unmet (granted k m asked inside s e declined.lasts))

  pub does : (a : Act) (choice : Choice) (k' : System) → HasFewCases choice.ask → next_act (machine_at k m) ≡ a → DoesAct a k m choice k' → IsSound k'
  does (act.Call asked) choice k' few e d = subst IsSound (sym d.4) (answers asked d.0 d.1 d.2 e d.3)
  does act.Pop choice k' few e d = subst IsSound (sym d) (pops (own_processor X.hand) (queue_of k.queues (own_processor X.hand)) refl refl e)
  does act.Drain choice k' few e d = subst IsSound (sym d) (drains (own_processor X.hand) (queue_of k.queues (own_processor X.hand)) refl refl e)
  does act.Push choice k' few e d = subst IsSound (sym d) (pushes X.hand.to_store choice.push_refused refl e)
  does act.Hunt choice k' few e d = subst IsSound (sym d) (hunts_or choice.word (victim_of X.procs (begun (seen X) choice.word)) choice.unsure e)
  does (act.Steal v) choice k' few e d = subst IsSound (sym d) (steals_or v choice.unsure e)
  does act.Resume choice k' few e d = subst IsSound (sym d) (same_hand act.Resume (told.Asked choice.ask) e tt few refl)
  does act.Block choice k' few e d = subst IsSound (sym d) (same_hand act.Block (told.Number choice.number) e tt tt refl)
  does (act.Clock deadline) choice k' few e d = subst IsSound (sym d) (same_hand (act.Clock deadline) (told.Moment choice.moment) e tt tt refl)
  does (act.Surrender which) choice k' few e d = subst IsSound (sym d) (surrenders which e)
  does act.Nothing choice k' few e d = subst IsSound (sym d) s

-- Every act keeps what is sound.
pub act_sound : (k : System) (m : MNo) (choice : Choice) (k' : System) → Acts k m choice k' → IsSound k → IsSound k'
act_sound k m choice k' acts s =
    elim (cases_lt m.0 (length k.machines)) [
      | inl inside ↦ does k m inside s (next_act (machine_at k m)) choice k' acts.few refl (acts.by_place inside)
      | inr past ↦ subst IsSound (sym (acts.else_none past)) s
    ]

pub all_sound : (moves : List (MNo × Choice)) (k k' : System) → ActsAll k moves k' → IsSound k → IsSound k'
all_sound [] k k' all s = subst IsSound (sym all) s
all_sound (move ∷ moves) k k' all s = all_sound moves all.0 k' all.2 (act_sound k move.0 move.1 all.0 all.1 s)
