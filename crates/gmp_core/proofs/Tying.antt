-- One act at a machine's desk is that act of all machines together, and what the core keeps it keeps.
use Rattle.std.proofs.Common.{◌≡◌, ◌≢◌, ◌⊎◌, inl, inr, ◌+◌, ◌<◌, ◌≤◌, ◌++◌, [], ◌∷◌, ◌&&◌, ◌==◌, Bool, true, false, if◌then◌else◌, List, map, length, set, refl, sym, ap, ◌∙◌, subst, arith, Option, Some, None, is_some, Result, Ok, Err}
use Rattle.std.proofs.lemmas.Bool.{eq-eqb}
use Rattle.std.proofs.lemmas.List.{length-append, nil_from_length, map-set, set-get_or}
use Rattle.std.proofs.lemmas.Option.{get_or_from_slice_get, slice_get-map, slice_get_within}
use Rattle.std.specs.List.{slice_get}
use Rattle.std.specs.Option.{option_map}
use Rattle.gmp_base.specs.declared.number.MNo.{MNo}
use Rattle.gmp_base.specs.declared.number.PNo.{PNo}
use Rattle.gmp_base.specs.declared.number.Readiness.{Readiness}
use Rattle.gmp_base.specs.declared.refusal.Refusal.{Refusal}
use Rattle.gmp_seq.specs.declared.call.Call.{Call}
use Rattle.gmp_seq.specs.declared.call.Entry.{Entry}
use Rattle.gmp_seq.specs.declared.call.Outcome.{Outcome}
use Rattle.gmp_seq.specs.declared.call.Reply.{Reply}
use Rattle.gmp_seq.proofs.Counts.{legal_total}
use Rattle.gmp_seq.proofs.InOrder.{legal_in_order}
use Rattle.gmp_seq.specs.Needs.{IsOutstanding}
use Rattle.gmp_seq.specs.Table.{Table, is_outstanding}
use Rattle.gmp_book.specs.Book.{BookContents}
use Rattle.gmp_driver.specs.declared.act.Act.{Act}
use Rattle.gmp_driver.specs.declared.act.Act.TheVariants as act
use Rattle.gmp_driver.specs.declared.act.Told.{Told}
use Rattle.gmp_driver.specs.declared.act.Told.TheVariants as told
use Rattle.gmp_driver.specs.declared.act.Value.{Value}
use Rattle.gmp_driver.specs.declared.place.Place.TheVariants as place
use Rattle.gmp_driver.specs.declared.seen.Seen.{Seen}
use Rattle.gmp_driver.specs.Fits.{SuitsPlace}
use Rattle.gmp_driver.specs.Hunt.{begun, victim_of}
use Rattle.gmp_driver.specs.Machine.{Machine}
use Rattle.gmp_driver.specs.Seen.{seen}
use Rattle.gmp_driver.specs.Table.{act_at, after, next_act}
use Rattle.gmp_acts.specs.declared.choice.Choice.{Choice}
use Rattle.gmp_acts.specs.declared.made.Made.{Made}
use Rattle.gmp_acts.specs.Acts.{Acts, Answers, DoesAct, HasFewCases, IsGranted, MakesCall, MayCall, WithQueues, drained, given_back, popped, pushed, stolen, with_local}
use Rattle.gmp_acts.specs.Hands.{PlainMachine, plain, plain_machine}
use Rattle.gmp_acts.specs.Sound.{Agrees, IsEnd, IsSound}
use Rattle.gmp_acts.specs.System.{BookRun, System, count_of_all, in_hand, is_ticket, machine_at, no_machine}
use Rattle.gmp_acts.proofs.Granted.{granted, ticket_is_out}
use Rattle.gmp_acts.proofs.Local.{Finds, finds}
use Rattle.gmp_acts.proofs.Moving.{act_sound}
use Rattle.gmp_acts.proofs.Plain.{after_plain, fits_plain, plain_fits, seen_plain}
use Rattle.gmp_turn.specs.Acts.{run_of}
use Rattle.gmp_turn.specs.Surrenders.{Surrenders}
use Rattle.gmp_turn.specs.Turns.{Turns}
use Rattle.gmp_turn.proofs.Acting.{accepted}
use Rattle.gmp_turn.proofs.Giving.{given}
use Rattle.gmp_turn.proofs.Refusing.{stopped, unmade}
use Rattle.gmp_core.specs.Doing.{Desk, Does, Locally}
use Rattle.gmp_core.specs.Inside.{Parts, joined_system_of, system_of}
use Rattle.gmp_core.specs.Queues.{Rings}
use Rattle.gmp_core.specs.Whole.{HasRoom, IsKept, IsWhole, with_before}
use Rattle.gmp_core.proofs.Before.{acts_before, granted_here, own_left}

none_or_outcome : (o : Option Outcome) → (o ≡ None) ⊎ (o ≢ None)
none_or_outcome None = inl refl
none_or_outcome (Some x) = inr (λ e. (let no : Some x ≡ None = e in cc))

seen_of_plain : {T Q : Type 0} (x : Machine T Q) → seen (plain_machine x) ≡ seen x
seen_of_plain x = seen_plain x.procs x.fresh x.turns x.aside x.hand

pub next_plain : {T Q : Type 0} (x : Machine T Q) → next_act (plain_machine x) ≡ next_act x
next_plain x = ap (λ (s : Seen). act_at s x.place) (seen_of_plain x)

-- a ticket in hand, which is out

own_ticket : (r : Readiness) → is_ticket r (Some r) ≡ 1
own_ticket r = ap (λ (b : Bool). if b && (r.epoch == r.epoch) then 1 else 0) (eq-eqb r.g.0 r.g.0 refl) ∙ ap (λ (b : Bool). if b then 1 else 0) (eq-eqb r.epoch r.epoch refl)

in_hand_by : (r : Readiness) (t s : Option Readiness) → (t ≡ Some r) ⊎ (s ≡ Some r) → 1 ≤ is_ticket r t + is_ticket r s
in_hand_by r t s (inl e) = (let one = own_ticket r in let same : is_ticket r t ≡ is_ticket r (Some r) = ap (is_ticket r) e in omega (arith, one, same))
in_hand_by r t s (inr e) = (let one = own_ticket r in let same : is_ticket r s ≡ is_ticket r (Some r) = ap (is_ticket r) e in omega (arith, one, same))

is_out_outstanding : (t : Table) (r : Readiness) → IsOutstanding t r → is_outstanding t r ≡ true
is_out_outstanding t r out = rw out.1 (eq-eqb r.epoch r.epoch refl)

-- the core after an act of machine m
abbrev pub parts_after : {T : Type 0} → Parts T → MNo → Desk T → Parts T
parts_after c m now = record c { book = now.book; rings = now.rings; machines = set c.machines m.0 now.machine }

-- the calls that were made, with this one
abbrev with_made : List Made → Option Made → List Made
with_made calls None = calls
with_made calls (Some made) = calls ++ made ∷ []

-- a call that the book accepted is one that was made
abbrev made_by : MNo → Call → Result Reply Refusal → Option Made
made_by m asked (Ok answer) = Some (record { m = m; call = asked; reply = answer })
made_by m asked (Err why) = None

-- the call that an act made, if it made one
abbrev made_in : {T : Type 0} (a : Act) (m : MNo) (choice : Choice) (old now : Desk T) → Does a m choice old now → Option Made
made_in (act.Call asked) m choice old now d = made_by m asked d.0
made_in _ m choice old now d = None

-- what is done, and the call that was made
abbrev DoesBy : {T : Type 0} → Act → MNo → Choice → Desk T → Desk T → Option Made → Type 0
DoesBy a m choice old now made = (d : Does a m choice old now) × (made ≡ made_in a m choice old now d)

pub machine_is : {T : Type 0} (c : Parts T) (m : MNo) (x : Machine T Unit) → slice_get c.machines m.0 ≡ Some x → machine_at (system_of c) m ≡ plain_machine x
machine_is {T = T} c m x is = get_or_from_slice_get (map plain_machine c.machines) m.0 (plain_machine x) no_machine (slice_get-map plain_machine c.machines m.0 ∙ ap (λ (o : Option (Machine T Unit)). option_map plain_machine o) is)

pub is_there : {T : Type 0} (c : Parts T) (m : MNo) (x : Machine T Unit) → slice_get c.machines m.0 ≡ Some x → m.0 < length (system_of c).machines
is_there {T = T} c m x is = slice_get_within (map plain_machine c.machines) m.0 (plain_machine x) (slice_get-map plain_machine c.machines m.0 ∙ ap (λ (o : Option (Machine T Unit)). option_map plain_machine o) is)

pub agrees : {T : Type 0} (out : List Entry) (c : Parts T) (m : MNo) (x : Machine T Unit) → slice_get c.machines m.0 ≡ Some x → IsSound (joined_system_of out c)
    → Agrees (joined_system_of out c).book m (plain_machine x)
agrees out c m x is s = subst (Agrees (joined_system_of out c).book m) (machine_is c m x is) (s.each m (is_there c m x is))

module _ {T : Type 0} (out : List Entry) (c : Parts T) (s : IsSound (joined_system_of out c)) where
  -- all entries, those that were handed out and those that are left, are as many as calls were made
  pub joined_total : length (out ++ c.book.log.history) ≡ count_of_all (system_of c).book
  joined_total = let j = joined_system_of out c in sym (legal_total j.book.limits j.book.bodies j.book.capacities j.book.history j.book.state s.legal)

  -- where as many are left as calls were made none was handed out
  pub none_out : IsWhole (system_of c) → out ≡ []
  none_out whole = nil_from_length out (let total = joined_total in let all = length-append out c.book.log.history in omega (arith, total, all, whole))

  -- as long as the run lasts, and none was handed out, there is room for another one where there is as much room as entries
  pub kept_room : IsKept c.book.log.limits → IsWhole (system_of c) → HasRoom (system_of c)
  kept_room kept whole goes =
      let j = joined_system_of out c in
      let more = (legal_in_order j.book.limits j.book.bodies j.book.capacities j.book.history j.book.state s.within s.legal).together.ongoing goes in
      let same : c.book.log.limits.room ≡ c.book.log.limits.entries = kept in
      let left : count_of_all (system_of c).book ≡ length c.book.log.history = whole in
      omega (arith, more, same, left)

module _ {T : Type 0} (out : List Entry) (c : Parts T) (m : MNo) (x : Machine T Unit) (choice : Choice) (now : Desk T) (is : slice_get c.machines m.0 ≡ Some x) (s : IsSound (joined_system_of out c)) where
  abbrev k : System
  k = system_of c

  abbrev j : System
  j = joined_system_of out c

  abbrev old : Desk T
  old = record { machine = x; book = c.book; rings = c.rings }

  at : machine_at k m ≡ plain_machine x
  at = machine_is c m x is

  inside : m.0 < length k.machines
  inside = is_there c m x is

  mine : Agrees j.book m (plain_machine x)
  mine = agrees out c m x is s

  fits : SuitsPlace x.place x.hand
  fits = plain_fits x.hand x.place (mine.driver.fits (ap is_some mine.has_pass))

  -- the system with this run, these queues, this machine and these calls
  abbrev sys : BookRun → WithQueues → List Made → System
  sys b l o = record { book = b; queues = l.1; machines = set (map plain_machine c.machines) m.0 l.0; own = o }

  set_itself : set c.machines m.0 x ≡ c.machines
  set_itself = ap (set c.machines m.0) (sym (get_or_from_slice_get c.machines m.0 x x is)) ∙ set-get_or c.machines m.0 x

  -- Calls

  may : MayCall (plain_machine x) m k.book
  may = record { pass = mine.pass; has_pass = mine.has_pass; run = mine.run.1; its = mine.its; turn = mine.turn; seen = mine.seen }

  grants : (asked : Call) → next_act x ≡ act.Call asked → k.book.state.outcome ≡ None → IsGranted (plain_machine x) m asked k.book
  grants asked next goes = granted_here out (plain_machine x) m asked k.book (subst (λ (p : PlainMachine). IsGranted p m asked j.book) at (granted j m asked inside s (ap next_act at ∙ next_plain x ∙ next) goes))

  there : m.0 < c.book.log.limits.machines
  there = let l = inside in let e = s.count in omega (arith, l, e)

  module _ (goes_on : c.book.log.stopped ≡ false) (room : HasRoom k) where
    answers : (asked : Call) (result : Result Reply Refusal) → next_act x ≡ act.Call asked → Turns x c.book asked choice.word result now.machine now.book
        → Answers (plain_machine x) m asked k.book k.own (plain_machine now.machine) (run_of now.book.log) (with_made k.own (made_by m asked result))
    answers asked (Ok answer) next t =
        inl (accepted x now.machine c.book now.book m asked choice.word answer k.own next fits (grants asked next t.records.step.0) t)
    answers asked (Err why) next t = elim (none_or_outcome c.book.log.state.outcome) [
      | inl goes ↦ inr (inr (inl (unmade x now.machine c.book now.book m asked choice.word why k.own next fits mine.run.0 there may t goes goes_on (room goes) (grants asked next goes))))
      | inr over ↦ inr (inl (stopped x now.machine c.book now.book m asked choice.word why k.own next fits mine.run.0 there may t over))
    ]

  -- What is given back

  pub tickets : (r : Readiness) → (x.hand.to_claim ≡ Some r) ⊎ (x.hand.to_store ≡ Some r) → is_outstanding c.book.log.state.table r ≡ true
  tickets r has = is_out_outstanding c.book.log.state.table r (ticket_is_out j m r s inside (subst (λ (p : PlainMachine). 1 ≤ in_hand r p.hand) (sym at) (in_hand_by r x.hand.to_claim x.hand.to_store has)))

  pub over : (which : Option Value) → next_act x ≡ act.Surrender which → c.book.log.state.outcome ≢ None
  over which next =
      let found : (x.place ≡ place.Over) × ((seen (plain_machine x)).first ≡ which) = subst (Finds (seen (plain_machine x)) x.place (plain x.hand)) (next_plain x ∙ next) (finds (seen (plain_machine x)) (plain x.hand) x.place (fits_plain x.hand x.place fits)) in
      mine.ended (subst IsEnd (sym found.0) tt)

  -- The act, with the call that it made beside the others

  module _ (made : Option Made) where
    abbrev k' : System
    k' = record (system_of (parts_after c m now)) { own = with_made k.own made }

    after_is : k' ≡ sys (run_of now.book.log) (plain_machine now.machine, now.rings.queues) (with_made k.own made)
    after_is = ap (λ (l : List PlainMachine). let j : System = record { book = run_of now.book.log; queues = now.rings.queues; machines = l; own = with_made k.own made } in j) (map-set plain_machine c.machines m.0 now.machine)

    locally : (there : WithQueues) → Locally there old now → made ≡ None → k' ≡ sys k.book there k.own
    locally there l none = after_is ∙ ap (λ (b : BookContents T Unit). sys (run_of b.log) (plain_machine now.machine, now.rings.queues) (with_made k.own made)) l.book
        ∙ ap (λ (w : WithQueues). sys k.book w (with_made k.own made)) l.leads ∙ ap (λ (o : Option Made). sys k.book there (with_made k.own o)) none

    told_so : (what : Told) → now ≡ record old { machine = after x what } → made ≡ None → k' ≡ sys k.book (after (plain_machine x) what, k.queues) k.own
    told_so what e none = after_is ∙ ap (λ (d : Desk T). sys (run_of d.book.log) (plain_machine d.machine, d.rings.queues) (with_made k.own made)) e
        ∙ ap (λ (p : PlainMachine). sys k.book (p, k.queues) (with_made k.own made)) (after_plain x what) ∙ ap (λ (o : Option Made). sys k.book (after (plain_machine x) what, k.queues) (with_made k.own o)) none

    nothing_done : now ≡ old → made ≡ None → k' ≡ k
    nothing_done e none = ap (λ (d : Desk T). let j : System = record (system_of (parts_after c m d)) { own = with_made k.own made } in j) e
        ∙ ap (λ (o : Option Made). let j : System = record (system_of (parts_after c m old)) { own = with_made k.own o } in j) none
        ∙ ap (λ (l : List (Machine T Unit)). system_of (record c { machines = l })) set_itself

    calls : c.book.log.stopped ≡ false → HasRoom k → (asked : Call) → next_act x ≡ act.Call asked → DoesBy (act.Call asked) m choice old now made → MakesCall k m asked k'
    calls goes_on room asked next d =
        let own' = with_made k.own (made_by m asked d.0.0) in (
          plain_machine now.machine,
          run_of now.book.log,
          own',
          subst (λ (p : PlainMachine). Answers p m asked k.book k.own (plain_machine now.machine) (run_of now.book.log) own') (sym at) (answers goes_on room asked d.0.0 next d.0.1),
          after_is ∙ ap (λ (r : Rings). sys (run_of now.book.log) (plain_machine now.machine, r.queues) (with_made k.own made)) d.0.2
              ∙ ap (λ (o : Option Made). sys (run_of now.book.log) (plain_machine now.machine, k.queues) (with_made k.own o)) d.1,
        )

    module _ (goes_on : c.book.log.stopped ≡ false) (room : HasRoom k)
        (taken : (which : Option Value) (result : Result Unit Refusal) → next_act x ≡ act.Surrender which → Surrenders x c.book which result now.machine now.book → result ≡ Ok tt) where
      gives_back : (which : Option Value) → next_act x ≡ act.Surrender which → DoesBy (act.Surrender which) m choice old now made → k' ≡ sys k.book (given_back (plain_machine x) which, k.queues) k.own
      gives_back which next d =
          let g = given x now.machine c.book now.book which (subst (λ (r : Result Unit Refusal). Surrenders x c.book which r now.machine now.book) (taken which d.0.0 next d.0.1) d.0.1) in
          after_is ∙ ap (λ (p : PlainMachine). sys (run_of now.book.log) (p, now.rings.queues) (with_made k.own made)) g.0
          ∙ ap (λ (b : BookRun). sys b (given_back (plain_machine x) which, now.rings.queues) (with_made k.own made)) g.1
          ∙ ap (λ (r : Rings). sys k.book (given_back (plain_machine x) which, r.queues) (with_made k.own made)) d.0.2
          ∙ ap (λ (o : Option Made). sys k.book (given_back (plain_machine x) which, k.queues) (with_made k.own o)) d.1

      -- Each act

      first_is : victim_of (machine_at k m).procs (begun (seen (machine_at k m)) choice.word) ≡ victim_of x.procs (begun (seen x) choice.word)
      first_is = ap (λ (p : PlainMachine). victim_of p.procs (begun (seen p) choice.word)) at ∙ ap (λ (e : Seen). victim_of x.procs (begun e choice.word)) (seen_of_plain x)

      with_machine : (f : PlainMachine → System) → k' ≡ f (plain_machine x) → k' ≡ f (machine_at k m)
      with_machine f e = e ∙ ap f (sym at)

      does_act : (a : Act) → next_act x ≡ a → DoesBy a m choice old now made → DoesAct a k m choice k'
      does_act (act.Call asked) next d = calls goes_on room asked next d
      does_act act.Pop next d = with_machine (λ (p : PlainMachine). with_local k m (popped p k.queues)) (locally _ d.0 d.1)
      does_act act.Drain next d = with_machine (λ (p : PlainMachine). with_local k m (drained p k.queues)) (locally _ d.0 d.1)
      does_act act.Push next d = with_machine (λ (p : PlainMachine). with_local k m (pushed p k.queues p.hand.to_store choice.push_refused)) (locally _ d.0 d.1)
      does_act act.Hunt next d =
          with_machine (λ (p : PlainMachine). with_local k m (stolen p (Some choice.word) k.queues (victim_of (machine_at k m).procs (begun (seen (machine_at k m)) choice.word)) choice.unsure))
          (locally _ d.0 d.1 ∙ ap (λ (v : PNo). with_local k m (stolen (plain_machine x) (Some choice.word) k.queues v choice.unsure)) (sym first_is))
      does_act (act.Steal v) next d = with_machine (λ (p : PlainMachine). with_local k m (stolen p None k.queues v choice.unsure)) (locally _ d.0 d.1)
      does_act act.Resume next d = with_machine (λ (p : PlainMachine). sys k.book (after p (told.Asked choice.ask), k.queues) k.own) (told_so _ d.0 d.1)
      does_act act.Block next d = with_machine (λ (p : PlainMachine). sys k.book (after p (told.Number choice.number), k.queues) k.own) (told_so _ d.0 d.1)
      does_act (act.Clock minded) next d = with_machine (λ (p : PlainMachine). sys k.book (after p (told.Moment choice.moment), k.queues) k.own) (told_so _ d.0 d.1)
      does_act (act.Surrender which) next d = with_machine (λ (p : PlainMachine). sys k.book (given_back p which, k.queues) k.own) (gives_back which next d)
      does_act act.Nothing next d = nothing_done d.0 d.1

      does_so : HasFewCases choice.ask → DoesBy (next_act x) m choice old now made → Acts k m choice k'
      does_so few d = record {
        few = few;
        by_place = λ _. subst (λ (a : Act). DoesAct a k m choice k') (sym (ap next_act at ∙ next_plain x)) (does_act (next_act x) refl d);
        else_none = λ past. (let l = inside in absurd (omega (arith, l, past)));
      }

  -- The calls that were made are those of the history, after the act as before it.
  pub does : c.book.log.stopped ≡ false → HasRoom k
      → ((which : Option Value) (result : Result Unit Refusal) → next_act x ≡ act.Surrender which → Surrenders x c.book which result now.machine now.book → result ≡ Ok tt)
      → HasFewCases choice.ask → Does (next_act x) m choice old now → Acts k m choice (system_of (parts_after c m now))
  does goes_on room taken few d =
      let made : Option Made = made_in (next_act x) m choice old now d in
      let acts : Acts k m choice (k' made) = does_so made goes_on room taken few (d, refl) in
      let sound : IsSound (with_before out (k' made)) = act_sound j m choice (with_before out (k' made)) (acts_before out k m choice (k' made) acts) s in
      subst (λ (l : List Made). Acts k m choice (record (system_of (parts_after c m now)) { own = l })) (sym (own_left out (k' made) sound)) acts
