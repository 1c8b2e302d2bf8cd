-- What acts leave as it was, and what a machine is told.
use Rattle.std.proofs.Common.{◌≡◌, ◌≢◌, ◌⊎◌, inl, inr, ℕ, ◌+◌, ◌<◌, Bool, true, false, List, [], ◌∷◌, ◌++◌, length, get_or, set, refl, sym, ap, ◌∙◌, subst, arith, Option, Some, None, sum_by, get_or-set_same, get_or-set_other, if◌then◌else◌, nat_le}
use Rattle.gmp_base.specs.declared.number.MNo.{MNo}
use Rattle.gmp_base.specs.declared.number.PNo.{PNo}
use Rattle.gmp_base.specs.declared.number.Readiness.{Readiness}
use Rattle.gmp_base.specs.declared.refusal.Refusal.TheVariants.{Over}
use Rattle.gmp_seq.specs.declared.call.Call.{Call}
use Rattle.gmp_seq.specs.declared.call.Reply.{Reply}
use Rattle.gmp_seq.specs.Needs.{WantsMemory}
use Rattle.gmp_driver.specs.declared.act.Act.{Act}
use Rattle.gmp_driver.specs.declared.act.Act.TheVariants as act
use Rattle.gmp_driver.specs.declared.act.Told.{Told}
use Rattle.gmp_driver.specs.declared.act.Told.TheVariants as told
use Rattle.gmp_driver.specs.declared.act.Value.{Value}
use Rattle.gmp_driver.specs.declared.place.Place.{Place}
use Rattle.gmp_driver.specs.declared.place.Place.TheVariants as place
use Rattle.gmp_driver.specs.Hunt.{begun, victim_of}
use Rattle.gmp_driver.specs.Registers.{but}
use Rattle.gmp_driver.specs.Seen.{number_of, own_processor, seen}
use Rattle.gmp_driver.specs.Table.{act_at, after, next_act, next_place}
use Rattle.gmp_acts.specs.declared.choice.Choice.{Choice}
use Rattle.gmp_acts.specs.declared.made.Made.{Made}
use Rattle.gmp_acts.specs.Acts.{Acts, Answers, DoesAct, given_back, own_taken_from, pushed, queue_of, stolen, stolen_from, with_local, with_queue, with_ticket}
use Rattle.gmp_acts.specs.Hands.{PlainMachine}
use Rattle.gmp_acts.specs.Kept.{IsLocal, KeepsAll}
use Rattle.gmp_acts.specs.Sound.{IsSound}
use Rattle.gmp_acts.specs.System.{BookRun, System, count_of, in_hand, in_queue, is_ticket, machine_at, no_machine}
use Rattle.gmp_acts.proofs.Granted.{granted}
use Rattle.gmp_acts.proofs.Kept.{hands_set}
use Rattle.gmp_acts.proofs.Lands.{some_of}
use Rattle.gmp_acts.proofs.Moving.{found, own_within, put_last, received_count, taken}

-- the machine reads what was written of it
at_m : (k : System) (m : MNo) (x : PlainMachine) → m.0 < length k.machines → get_or (set k.machines m.0 x) m.0 no_machine ≡ x
at_m k m x inside = get_or-set_same k.machines m.0 x no_machine inside

at_others : (k : System) (m n : MNo) (x : PlainMachine) → n ≢ m → get_or (set k.machines m.0 x) n.0 no_machine ≡ machine_at k n
at_others k m n x ne = get_or-set_other k.machines m.0 n.0 x no_machine (λ e. ne (ap (λ (i : ℕ). let y : MNo = record { 0 = i } in y) e))

module _ (k : System) (m : MNo) (inside : m.0 < length k.machines) where
  abbrev X : PlainMachine
  X = machine_at k m

  -- the same values, and each ticket as often
  keeps : (x : PlainMachine) (queues : List (List Readiness)) → own_processor x.hand ≡ own_processor (machine_at k m).hand → x.hand.held ≡ (machine_at k m).hand.held → x.hand.called ≡ (machine_at k m).hand.called
      → ((r : Readiness) → sum_by (in_queue r) queues + in_hand r x.hand ≡ sum_by (in_queue r) k.queues + in_hand r (machine_at k m).hand) → KeepsAll k m (with_local k m (x, queues))
  keeps x queues processor held called count = record {
    book = refl;
    own = refl;
    others = λ n ne. at_others k m n x ne;
    processor = ap (λ (y : PlainMachine). own_processor y.hand) (at_m k m x inside) ∙ processor;
    held = ap (λ (y : PlainMachine). y.hand.held) (at_m k m x inside) ∙ held;
    called = ap (λ (y : PlainMachine). y.hand.called) (at_m k m x inside) ∙ called;
    tickets = λ r. (let c = count r in let h = hands_set k m x r inside in omega (arith, c, h));
  }

  -- told something, and nothing else
  told_keeps : (what : Told) → KeepsAll k m (with_local k m (after (machine_at k m) what, k.queues))
  told_keeps what = keeps (after X what) k.queues refl refl refl (λ r. refl)

  took_keeps : (p : ℕ) (t : Readiness) (rest : List Readiness) (what : Told) (o : Option Readiness) → get_or k.queues p [] ≡ t ∷ rest → (machine_at k m).hand.to_store ≡ None → (machine_at k m).hand.to_claim ≡ o
      → KeepsAll k m (with_local k m (after (record (machine_at k m) { hand = with_ticket t (machine_at k m).hand o }) what, set k.queues p rest))
  took_keeps p t rest what o is free claim =
      let x : PlainMachine = after (record X { hand = with_ticket t X.hand o }) what in
      keeps x (set k.queues p rest) (same_processor o) (same_held o) (same_called o) (λ r. (let a = taken k.queues p t rest r is in let b = received_count t r X.hand o claim free in omega (arith, a, b))) where
        same_processor : (o : Option Readiness) → own_processor (with_ticket t (machine_at k m).hand o) ≡ own_processor (machine_at k m).hand
        same_processor None = refl
        same_processor (Some u) = refl

        same_held : (o : Option Readiness) → (with_ticket t (machine_at k m).hand o).held ≡ (machine_at k m).hand.held
        same_held None = refl
        same_held (Some u) = refl

        same_called : (o : Option Readiness) → (with_ticket t (machine_at k m).hand o).called ≡ (machine_at k m).hand.called
        same_called None = refl
        same_called (Some u) = refl

  module _ (s : IsSound k) where
    pops : (o : Option PNo) (queue : List Readiness) → own_processor (machine_at k m).hand ≡ o → queue_of k.queues o ≡ queue → next_act (machine_at k m) ≡ act.Pop
        → KeepsAll k m (with_local k m (own_taken_from false (machine_at k m) k.queues queue))
    pops o [] own is e = told_keeps told.Empty
    pops None (t ∷ rest) own is e = absurd (let no : [] ≡ t ∷ rest = is in cc)
    pops (Some p) (t ∷ rest) own is e =
        let free = found k m inside s act.Pop e in
        subst (λ (q : Option PNo). KeepsAll k m (with_local k m (after (record X { hand = record X.hand { to_claim = Some t } }) told.Got, with_queue k.queues q rest))) (sym own)
        (took_keeps p.0 t rest told.Got None is free.1 free.0)

    drains : (o : Option PNo) (queue : List Readiness) → own_processor (machine_at k m).hand ≡ o → queue_of k.queues o ≡ queue → next_act (machine_at k m) ≡ act.Drain
        → KeepsAll k m (with_local k m (own_taken_from true (machine_at k m) k.queues queue))
    drains o [] own is e = told_keeps told.Empty
    drains None (t ∷ rest) own is e = absurd (let no : [] ≡ t ∷ rest = is in cc)
    drains (Some p) (t ∷ rest) own is e =
        let free = found k m inside s act.Drain e in
        subst (λ (q : Option PNo). KeepsAll k m (with_local k m (after (record X { hand = record X.hand { to_store = Some t } }) told.Drained, with_queue k.queues q rest))) (sym own)
        (keeps (after (record X { hand = record X.hand { to_store = Some t } }) told.Drained) (set k.queues p.0 rest) refl refl refl (λ r.
        (let a = taken k.queues p.0 t rest r is in let b : is_ticket r X.hand.to_store ≡ 0 = ap (is_ticket r) free.1 in omega (arith, a, b))))

    steals : (drawn : Option ℕ) (v : PNo) (queue : List Readiness) → get_or k.queues v.0 [] ≡ queue → (machine_at k m).hand.to_store ≡ None → KeepsAll k m (with_local k m (stolen_from (machine_at k m) drawn k.queues v queue))
    steals drawn v [] is free = told_keeps _
    steals drawn v (t ∷ rest) is free = took_keeps v.0 t rest _ (machine_at k m).hand.to_claim is free refl

    steals_or : (drawn : Option ℕ) (v : PNo) (lost : Bool) → (machine_at k m).hand.to_store ≡ None → KeepsAll k m (with_local k m (stolen (machine_at k m) drawn k.queues v lost))
    steals_or drawn v true free = told_keeps _
    steals_or drawn v false free = steals drawn v (get_or k.queues v.0 []) refl free

    pushes : (o : Option Readiness) (refused : Bool) → (machine_at k m).hand.to_store ≡ o → next_act (machine_at k m) ≡ act.Push → KeepsAll k m (with_local k m (pushed (machine_at k m) k.queues o refused))
    pushes None refused is e = keeps X k.queues refl refl refl (λ r. refl)
    pushes (Some t) true is e = told_keeps told.PushRefused
    pushes (Some t) false is e =
        let p = some_of X.hand.processor (found k m inside s act.Push e).0 in
        let own : own_processor X.hand ≡ Some p.0.p = ap number_of p.1 in
        subst (λ (q : Option PNo). KeepsAll k m (with_local k m (after (record X { hand = record X.hand { to_store = None } }) told.Pushed, with_queue k.queues q (queue_of k.queues q ++ t ∷ [])))) (sym own)
        (keeps (after (record X { hand = record X.hand { to_store = None } }) told.Pushed) (set k.queues p.0.p.0 (get_or k.queues p.0.p.0 [] ++ t ∷ [])) refl refl refl (λ r.
        (let a = put_last k.queues p.0.p.0 t r (own_within k m inside s p.0.p own) in let b : is_ticket r X.hand.to_store ≡ is_ticket r (Some t) = ap (is_ticket r) is in omega (arith, a, b))))

    by_act : (a : Act) (choice : Choice) (k' : System) → IsLocal a → next_act (machine_at k m) ≡ a → DoesAct a k m choice k' → KeepsAll k m k'
    by_act act.Pop choice k' l e d = subst (KeepsAll k m) (sym d) (pops (own_processor X.hand) (queue_of k.queues (own_processor X.hand)) refl refl e)
    by_act act.Drain choice k' l e d = subst (KeepsAll k m) (sym d) (drains (own_processor X.hand) (queue_of k.queues (own_processor X.hand)) refl refl e)
    by_act act.Push choice k' l e d = subst (KeepsAll k m) (sym d) (pushes X.hand.to_store choice.push_refused refl e)
    by_act act.Hunt choice k' l e d = subst (KeepsAll k m) (sym d) (steals_or (Some choice.word) (victim_of X.procs (begun (seen X) choice.word)) choice.unsure (found k m inside s act.Hunt e))
    by_act (act.Steal v) choice k' l e d = subst (KeepsAll k m) (sym d) (steals_or None v choice.unsure (found k m inside s (act.Steal v) e))
    by_act act.Resume choice k' l e d = subst (KeepsAll k m) (sym d) (told_keeps (told.Asked choice.ask))
    by_act act.Block choice k' l e d = subst (KeepsAll k m) (sym d) (told_keeps (told.Number choice.number))
    by_act (act.Clock deadline) choice k' l e d = subst (KeepsAll k m) (sym d) (told_keeps (told.Moment choice.moment))
    by_act act.Nothing choice k' l e d = subst (KeepsAll k m) (sym d) (record { book = refl; own = refl; others = λ n ne. refl; processor = refl; held = refl; called = refl; tickets = λ r. refl })
    by_act (act.Call asked) choice k' l e d = absurd l
    by_act (act.Surrender which) choice k' l e d = absurd l

pub local_keeps : (k : System) (m : MNo) (choice : Choice) (k' : System) → IsSound k → m.0 < length k.machines → IsLocal (next_act (machine_at k m)) → Acts k m choice k' → KeepsAll k m k'
local_keeps k m choice k' s inside l acts = by_act k m inside s (next_act (machine_at k m)) choice k' l refl (acts.by_place inside)

-- Calls

abbrev IsStopped : System → MNo → System → Type 0
IsStopped k m k' = KeepsAll k m k' × ((machine_at k' m).hand ≡ (machine_at k m).hand) × ((machine_at k' m).place ≡ place.Over)

pub over_keeps : (k : System) (m : MNo) (choice : Choice) (c : Call) (k' : System) → IsSound k → m.0 < length k.machines → next_act (machine_at k m) ≡ act.Call c → k.book.state.outcome ≢ None → Acts k m choice k'
    → IsStopped k m k'
over_keeps k m choice c k' s inside e over acts =
    let d = subst (λ (a : Act). DoesAct a k m choice k') e (acts.by_place inside) in
    subst (IsStopped k m) (sym d.4) (by_answer d.0 d.1 d.2 d.3)
  where
    stopped : IsStopped k m (with_local k m (after (machine_at k m) (told.Refused Over), k.queues))
    stopped = (told_keeps k m inside (told.Refused Over), ap (λ (y : PlainMachine). y.hand) (at_m k m (after (machine_at k m) (told.Refused Over)) inside), ap (λ (y : PlainMachine). y.place) (at_m k m (after (machine_at k m) (told.Refused Over)) inside))

    at_parts : (x : PlainMachine) (book : BookRun) (own : List Made) → x ≡ after (machine_at k m) (told.Refused Over) → book ≡ k.book → own ≡ k.own → IsStopped k m (record k { book = book; machines = set k.machines m.0 x; own = own })
    at_parts x book own ex eb eo = rw (ex, eb, eo) stopped

    by_answer : (x : PlainMachine) (book : BookRun) (own : List Made) → Answers (machine_at k m) m c k.book k.own x book own → IsStopped k m (record k { book = book; machines = set k.machines m.0 x; own = own })
    by_answer x book own (inl done) = absurd (over done.step.0)
    by_answer x book own (inr (inl stop)) = at_parts x book own stop.machine stop.same stop.none
    by_answer x book own (inr (inr (inl want))) = absurd (over want.lasts)
    by_answer x book own (inr (inr (inr declined))) = absurd (over declined.lasts)

abbrev HasEntry : System → MNo → Call → BookRun → Type 0
HasEntry k m c book = ((answer : Reply) × (book.history ≡ k.book.history ++ record { m = m; k = count_of k.book m; call = c; reply = answer } ∷ [])) ⊎ (WantsMemory k.book.limits c k.book.state × (book ≡ k.book))

pub entry_or_memory : (k : System) (m : MNo) (choice : Choice) (c : Call) (k' : System) → IsSound k → m.0 < length k.machines → next_act (machine_at k m) ≡ act.Call c → k.book.state.outcome ≡ None → Acts k m choice k'
    → HasEntry k m c k'.book
entry_or_memory k m choice c k' s inside e goes acts =
    let d = subst (λ (a : Act). DoesAct a k m choice k') e (acts.by_place inside) in
    subst (HasEntry k m c) (sym (ap (λ (j : System). j.book) d.4)) (by_answer d.0 d.1 d.2 d.3)
  where
    by_answer : (x : PlainMachine) (book : BookRun) (own : List Made) → Answers (machine_at k m) m c k.book k.own x book own → HasEntry k m c book
    by_answer x book own (inl done) = inl (done.answer, done.entry)
    by_answer x book own (inr (inl stop)) = absurd (stop.over goes)
    by_answer x book own (inr (inr (inl want))) = inr (want.makes, want.same)
    by_answer x book own (inr (inr (inr declined))) = absurd (declined.unmet (granted k m c inside s e goes))

-- Values given back

pub surrender_gives : (k : System) (m : MNo) (choice : Choice) (which : Value) (k' : System) → m.0 < length k.machines → next_act (machine_at k m) ≡ act.Surrender (Some which) → Acts k m choice k'
    → ((machine_at k' m).hand ≡ but (Some which) (machine_at k m).hand) × (k'.book ≡ k.book) × (k'.queues ≡ k.queues)
surrender_gives k m choice which k' inside e acts =
    let d = subst (λ (a : Act). DoesAct a k m choice k') e (acts.by_place inside) in (
      ap (λ (j : System). (machine_at j m).hand) d ∙ ap (λ (y : PlainMachine). y.hand) (at_m k m (given_back (machine_at k m) (Some which)) inside),
      ap (λ (j : System). j.book) d,
      ap (λ (j : System). j.queues) d,
    )

-- What a machine is told

told_place : (k : System) (m : MNo) (choice : Choice) (k' : System) (here : Place) (what : Told) → m.0 < length k.machines → (machine_at k m).place ≡ here
    → k' ≡ with_local k m (after (machine_at k m) what, k.queues) → (machine_at k' m).place ≡ next_place (seen (machine_at k m)) here what
told_place k m choice k' here what inside at d =
    ap (λ (j : System). (machine_at j m).place) d ∙ ap (λ (y : PlainMachine). y.place) (at_m k m (after (machine_at k m) what) inside)
    ∙ ap (λ (p : Place). next_place (seen (machine_at k m)) p what) at

module _ (k : System) (m : MNo) (choice : Choice) (k' : System) (inside : m.0 < length k.machines) (acts : Acts k m choice k') where
  named : (here : Place) → (machine_at k m).place ≡ here → next_act (machine_at k m) ≡ act_at (seen (machine_at k m)) here
  named here at = ap (act_at (seen (machine_at k m))) at

  does : (here : Place) → (machine_at k m).place ≡ here → DoesAct (act_at (seen (machine_at k m)) here) k m choice k'
  does here at = subst (λ (a : Act). DoesAct a k m choice k') (named here at) (acts.by_place inside)

  pub asked_at : (machine_at k m).place ≡ place.Run → (machine_at k' m).place ≡ place.Do choice.ask
  asked_at at = told_place k m choice k' place.Run (told.Asked choice.ask) inside at (does place.Run at)

  pub number_at : (machine_at k m).place ≡ place.Block → (machine_at k' m).place ≡ place.Leave choice.number
  number_at at = told_place k m choice k' place.Block (told.Number choice.number) inside at (does place.Block at)

  pub moment_at : (machine_at k m).place ≡ place.Look → nat_le 16 (machine_at k m).turns ≡ true → (machine_at k' m).place ≡ place.Ticking choice.moment
  moment_at at full =
      let d = subst (λ (a : Act). DoesAct a k m choice k') (ap (λ (b : Bool). if b then act.Clock None else act.Pop) full) (does place.Look at) in
      told_place k m choice k' place.Look (told.Moment choice.moment) inside at d

  pub minded_at : (deadline : ℕ) → (machine_at k m).place ≡ place.Mind deadline → (machine_at k' m).place ≡ place.MindTick choice.moment
  minded_at deadline at = told_place k m choice k' (place.Mind deadline) (told.Moment choice.moment) inside at (does (place.Mind deadline) at)
