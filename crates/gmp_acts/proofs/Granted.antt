-- While the run lasts, what each call needs is met.
use Rattle.std.proofs.Common.{◌≡◌, ◌⊎◌, inl, inr, ℕ, ◌<◌, ◌≤◌, Bool, true, false, ◌&&◌, ◌==◌, if◌then◌else◌, nat_le, length, refl, sym, ap, ◌∙◌, subst, arith, Option, Some, None, is_some, sum_by}
use Rattle.std.proofs.lemmas.Bool.{eq-eqb, eqb-true, and_parts, false≢true, false_from_ne_true}
use Rattle.std.proofs.lemmas.List.Sums.{get_or-le-sum_by}
use Rattle.std.specs.List.{slice_get}
use Rattle.std.specs.Option.{option_map, option_map_or}
use Rattle.gmp_base.specs.declared.ask.Ask.TheVariants as ask
use Rattle.gmp_base.specs.declared.ask.Woke.{Woke}
use Rattle.gmp_base.specs.declared.number.GNo.{GNo}
use Rattle.gmp_base.specs.declared.number.MNo.{MNo}
use Rattle.gmp_base.specs.declared.number.PNo.{PNo}
use Rattle.gmp_base.specs.declared.number.Readiness.{Readiness}
use Rattle.gmp_seq.proofs.Needed.{some_place, held_from}
use Rattle.gmp_seq.specs.declared.call.Call.{Call}
use Rattle.gmp_seq.specs.declared.call.Call.TheVariants as call
use Rattle.gmp_seq.specs.declared.status.Goroutine.{Goroutine}
use Rattle.gmp_seq.specs.declared.status.Mode.{Mode}
use Rattle.gmp_seq.specs.declared.status.Mode.TheVariants as mode
use Rattle.gmp_seq.specs.declared.status.TicketPlace.TheVariants.{Shelf, Out}
use Rattle.gmp_seq.specs.declared.status.Status.{Status}
use Rattle.gmp_seq.specs.declared.status.Status.TheVariants as status
use Rattle.gmp_seq.specs.Machines.{Machines, Holds, has_processor, is_held_by, spins}
use Rattle.gmp_seq.specs.Needs.{CallsForSome, IsOutstanding, Needs, RunsSome}
use Rattle.gmp_seq.specs.State.{State}
use Rattle.gmp_seq.specs.Table.{Table, IsRunning, RunsNothing, is_out, is_running_on}
use Rattle.gmp_driver.specs.declared.act.Act.TheVariants as act
use Rattle.gmp_driver.specs.declared.place.Aside.{Aside}
use Rattle.gmp_driver.specs.declared.place.Place.{Place}
use Rattle.gmp_driver.specs.declared.place.Place.TheVariants as place
use Rattle.gmp_driver.specs.declared.registers.CalledParts.{CalledParts}
use Rattle.gmp_driver.specs.declared.registers.HeldParts.{HeldParts}
use Rattle.gmp_driver.specs.declared.registers.ProcParts.{ProcParts}
use Rattle.gmp_acts.specs.Hands.{PlainMachine}
use Rattle.gmp_driver.specs.Registers.{first_of}
use Rattle.gmp_driver.specs.Seen.{number_of, own_processor}
use Rattle.gmp_acts.specs.Hands.{PlainHand}
use Rattle.gmp_driver.specs.Seen.{seen_of}
use Rattle.gmp_driver.specs.Table.{act_at, next_act}
use Rattle.gmp_driver.specs.Uses.{Uses}
use Rattle.gmp_acts.specs.System.{System, machine_at, no_machine, held_number, called_number, is_ticket, in_hand, out}
use Rattle.gmp_acts.specs.Acts.{IsGranted}
use Rattle.gmp_acts.specs.Sound.{HasFewAt, ModeAt, spins_at, Sees, Agrees, IsSound}
use Rattle.gmp_driver.proofs.Uses.{call_is, look_calls, put_calls, claim_calls, uses}
use Rattle.gmp_acts.proofs.Lands.{some_of}

-- What a call asks of its machine's mode and of its spinning
abbrev pub CallState : Call → Option Mode → Bool → Type 0
CallState (call.Claim r) what spinning = (what ≡ Some mode.Awake) × (spinning ≡ false)
CallState call.Woken what spinning = (what ≡ Some mode.Awake) ⊎ (what ≡ Some mode.Parked)
CallState (call.Select cases has_default until) what spinning = (what ≡ Some mode.Awake) × (length cases ≤ 8)
CallState call.Declare what spinning = spinning ≡ false
CallState call.Bare what spinning = (what ≡ Some mode.Awake) × (spinning ≡ false)
CallState call.Park what spinning = (what ≡ Some mode.Awake) × (spinning ≡ false)
CallState (call.Leave number) what spinning = Unit {0}
CallState c what spinning = what ≡ Some mode.Awake

module _ (procs : ℕ) (fresh : Bool) (turns : ℕ) (aside : Option Aside) (hand : PlainHand) (what : Option Mode) where
  call_state : (here : Place) (c : Call) → act_at (seen_of procs fresh turns aside hand) here ≡ act.Call c → ModeAt here what → HasFewAt here → CallState c what (spins_at here)
  call_state place.Start c is d few = subst (λ (q : Call). CallState q what (spins_at place.Start)) (call_is call.Acquire c is) d
  call_state place.Look c is d few = absurd (look_calls (nat_le 16 turns) c is)
  call_state (place.Ticking now) c is d few = subst (λ (q : Call). CallState q what (spins_at (place.Ticking now))) (call_is (call.Tick now) c is) d
  call_state place.Keep c is d few = subst (λ (q : Call). CallState q what (spins_at place.Keep)) (call_is call.Keep c is) d
  call_state place.Glance c is d few = subst (λ (q : Call). CallState q what (spins_at place.Glance)) (call_is call.Take c is) d
  call_state (place.Peek v) c is d few = absurd (let no : ⊥ = cc in no)
  call_state place.Drain c is d few = absurd (let no : ⊥ = cc in no)
  call_state place.PutDrain c is d few = (let w = put_calls hand.to_store c is in subst (λ (q : Call). CallState q what (spins_at place.PutDrain)) w.2 d)
  call_state place.Global c is d few = subst (λ (q : Call). CallState q what (spins_at place.Global)) (call_is call.Take c is) d
  call_state place.Spin c is d few = subst (λ (q : Call). CallState q what (spins_at place.Spin)) (call_is call.Spin c is) d
  call_state (place.PutMore v goal) c is d few = (let w = put_calls hand.to_store c is in subst (λ (q : Call). CallState q what (spins_at (place.PutMore v goal))) w.2 d)
  call_state place.PutStore c is d few = (let w = put_calls hand.to_store c is in subst (λ (q : Call). CallState q what (spins_at place.PutStore)) w.2 d)
  call_state place.PutHave c is d few = (let w = put_calls hand.to_claim c is in subst (λ (q : Call). CallState q what (spins_at place.PutHave)) w.2 d)
  call_state place.Unspin c is d few = subst (λ (q : Call). CallState q what (spins_at place.Unspin)) (call_is call.Unspin c is) d
  call_state place.Claim c is d few = elim (claim_calls fresh hand.to_claim c is) [ inl w ↦ subst (λ (q : Call). CallState q what (spins_at place.Claim)) w d | inr w ↦ subst (λ (q : Call). CallState q what (spins_at place.Claim)) w.2 (d, refl) ]
  call_state (place.Do (ask.Go g)) c is d few = subst (λ (q : Call). CallState q what (spins_at (place.Do (ask.Go g)))) (call_is (call.Go g) c is) d
  call_state (place.Do ask.Spawn) c is d few = subst (λ (q : Call). CallState q what (spins_at (place.Do ask.Spawn))) (call_is call.Spawn c is) d
  call_state (place.Do (ask.Make capacity)) c is d few = subst (λ (q : Call). CallState q what (spins_at (place.Do (ask.Make capacity)))) (call_is (call.Make capacity) c is) d
  call_state (place.Do (ask.Send n v)) c is d few = subst (λ (q : Call). CallState q what (spins_at (place.Do (ask.Send n v)))) (call_is (call.Send n v) c is) d
  call_state (place.Do (ask.Recv n)) c is d few = subst (λ (q : Call). CallState q what (spins_at (place.Do (ask.Recv n)))) (call_is (call.Recv n) c is) d
  call_state (place.Do (ask.Close n)) c is d few = subst (λ (q : Call). CallState q what (spins_at (place.Do (ask.Close n)))) (call_is (call.Close n) c is) d
  call_state (place.Do (ask.Len n)) c is d few = subst (λ (q : Call). CallState q what (spins_at (place.Do (ask.Len n)))) (call_is (call.Len n) c is) d
  call_state (place.Do (ask.Cap n)) c is d few = subst (λ (q : Call). CallState q what (spins_at (place.Do (ask.Cap n)))) (call_is (call.Cap n) c is) d
  call_state (place.Do (ask.Select cases has_default until)) c is d few = subst (λ (q : Call). CallState q what (spins_at (place.Do (ask.Select cases has_default until)))) (call_is (call.Select cases has_default until) c is) (d, few)
  call_state (place.Do (ask.Sleep until)) c is d few = subst (λ (q : Call). CallState q what (spins_at (place.Do (ask.Sleep until)))) (call_is (call.Sleep until) c is) d
  call_state (place.Do (ask.Procs n)) c is d few = subst (λ (q : Call). CallState q what (spins_at (place.Do (ask.Procs n)))) (call_is (call.Procs n) c is) d
  call_state (place.Do ask.Park) c is d few = subst (λ (q : Call). CallState q what (spins_at (place.Do ask.Park))) (call_is call.Gopark c is) d
  call_state (place.Do (ask.Ready g)) c is d few = subst (λ (q : Call). CallState q what (spins_at (place.Do (ask.Ready g)))) (call_is (call.Ready g) c is) d
  call_state (place.Do ask.Yield) c is d few = subst (λ (q : Call). CallState q what (spins_at (place.Do ask.Yield))) (call_is call.Yield c is) d
  call_state (place.Do ask.Exit) c is d few = subst (λ (q : Call). CallState q what (spins_at (place.Do ask.Exit))) (call_is call.Exit c is) d
  call_state (place.Do ask.Block) c is d few = subst (λ (q : Call). CallState q what (spins_at (place.Do ask.Block))) (call_is call.Enter c is) d
  call_state place.Poke c is d few = subst (λ (q : Call). CallState q what (spins_at place.Poke)) (call_is call.Poke c is) d
  call_state (place.Leave number) c is d few = subst (λ (q : Call). CallState q what (spins_at (place.Leave number))) (call_is (call.Leave number) c is) tt
  call_state place.Drop c is d few = subst (λ (q : Call). CallState q what (spins_at place.Drop)) (call_is call.Declare c is) refl
  call_state place.Bare c is d few = subst (λ (q : Call). CallState q what (spins_at place.Bare)) (call_is call.Bare c is) (d, refl)
  call_state place.Have c is d few = subst (λ (q : Call). CallState q what (spins_at place.Have)) (call_is call.Acquire c is) d
  call_state place.Park c is d few = subst (λ (q : Call). CallState q what (spins_at place.Park)) (call_is call.Park c is) (d, refl)
  call_state place.Rest c is d few = subst (λ (q : Call). CallState q what (spins_at place.Rest)) (call_is call.Woken c is) d
  call_state (place.MindTick now) c is d few = subst (λ (q : Call). CallState q what (spins_at (place.MindTick now))) (call_is (call.Tick now) c is) d
  call_state (place.Hunt None) c is d few = absurd (let no : ⊥ = cc in no)
  call_state (place.Hunt (Some r)) c is d few = absurd (let no : ⊥ = cc in no)
  call_state (place.More v goal) c is d few = absurd (let no : ⊥ = cc in no)
  call_state (place.StoreMore v goal) c is d few = absurd (let no : ⊥ = cc in no)
  call_state place.Run c is d few = absurd (let no : ⊥ = cc in no)
  call_state place.Store c is d few = absurd (let no : ⊥ = cc in no)
  call_state place.Block c is d few = absurd (let no : ⊥ = cc in no)
  call_state (place.Scan v) c is d few = absurd (let no : ⊥ = cc in no)
  call_state (place.Mind deadline) c is d few = absurd (let no : ⊥ = cc in no)
  call_state place.Over c is d few = absurd (let no : ⊥ = cc in no)
  call_state place.Done c is d few = absurd (let no : ⊥ = cc in no)

-- What a machine doesn't have, the book doesn't say that it has

held_is : (m : MNo) (o : Option MNo) → is_held_by m o ≡ true → o ≡ Some m
held_is m None h = absurd (false≢true h)
held_is m (Some n) h = ap (λ (k : ℕ). Some (let x : MNo = record { 0 = k } in x)) (sym (eqb-true m.0 n.0 h))

bare_from : (w : Machines) (m : MNo) → ((p : PNo) → Holds w m p → ⊥) → has_processor w m ≡ false
bare_from w m none =
    false_from_ne_true _ (λ e.
    let place = some_place (is_held_by m) w.holders e in
    none (record { 0 = place.0 }) (place.2 ∙ ap Some (held_is m place.1 place.3)))

running_is : (m : MNo) (s : Status) → is_running_on m s ≡ true → s ≡ status.Running m
running_is m (status.Running n) h = ap (λ (k : ℕ). status.Running (let x : MNo = record { 0 = k } in x)) (sym (eqb-true m.0 n.0 h))
running_is m _ h = absurd (false≢true h)

idle_from : (t : Table) (m : MNo) → ((g : GNo) → IsRunning t g m → ⊥) → RunsNothing t m
idle_from t m none =
    false_from_ne_true _ (λ e.
    let place = some_place (λ (x : Goroutine). is_running_on m x.status) t.goroutines e in
    none (record { 0 = place.0 }) (ap (λ (o : Option Goroutine). option_map (λ (x : Goroutine). x.status) o) place.2 ∙ ap Some (running_is m place.1.status place.3)))

-- a ticket that counts as out is out
out_row : (x : Goroutine) (epoch : ℕ) → is_out x.status ≡ true → x.epoch ≡ epoch → (a : Woke) × (x ≡ record { status = status.Ready Out a; epoch = epoch })
out_row x epoch h same = by_status x.status refl h where
  by_status : (s : Status) → x.status ≡ s → is_out s ≡ true → (a : Woke) × (x ≡ record { status = status.Ready Out a; epoch = epoch })
  by_status (status.Ready Out a) is e = (a, ap (λ (z : Status). let y : Goroutine = record { status = z; epoch = x.epoch } in y) is ∙ ap (λ (n : ℕ). let y : Goroutine = record { status = status.Ready Out a; epoch = n } in y) same)
  by_status (status.Ready Shelf a) is e = absurd (false≢true e)
  by_status _ is e = absurd (false≢true e)

one_is : (b : Bool) → 1 ≤ (if b then 1 else 0) → b ≡ true
one_is true h = refl
one_is false h = absurd (omega arith)

pub is_out_by : (t : Table) (r : Readiness) → 1 ≤ out r t → IsOutstanding t r
is_out_by t r h = by_row (slice_get t.goroutines r.g.0) refl h where
  by_row : (o : Option Goroutine) → slice_get t.goroutines r.g.0 ≡ o → 1 ≤ (if option_map_or (λ (x : Goroutine). is_out x.status && (x.epoch == r.epoch)) o false then 1 else 0) → IsOutstanding t r
  by_row None at e = absurd (omega arith)
  by_row (Some x) at e =
      let parts = and_parts _ _ (one_is _ e) in
      let row = out_row x r.epoch parts.0 (eqb-true x.epoch r.epoch parts.1) in
      (row.0, at ∙ ap Some row.1)

own_ticket : (r : Readiness) → is_ticket r (Some r) ≡ 1
own_ticket r = ap (λ (b : Bool). if b && (r.epoch == r.epoch) then 1 else 0) (eq-eqb r.g.0 r.g.0 refl) ∙ ap (λ (b : Bool). if b then 1 else 0) (eq-eqb r.epoch r.epoch refl)

put_in_hand : (r : Readiness) (p : Option (ProcParts Unit)) (h : Option (HeldParts Unit)) (c : Option (CalledParts Unit)) (t s : Option Readiness) → first_of s t ≡ Some r
    → (let hand : PlainHand = record { processor = p; held = h; called = c; to_claim = t; to_store = s } in 1 ≤ in_hand r hand)
put_in_hand r p h c t None e = (let same : is_ticket r t ≡ is_ticket r (Some r) = ap (is_ticket r) e in let one = own_ticket r in omega (arith, same, one))
put_in_hand r p h c t (Some s) e = (let same : is_ticket r (Some s) ≡ is_ticket r (Some r) = ap (is_ticket r) e in let one = own_ticket r in omega (arith, same, one))

claim_in_hand : (r : Readiness) (hand : PlainHand) → hand.to_claim ≡ Some r → 1 ≤ in_hand r hand
claim_in_hand r hand e = (let same : is_ticket r hand.to_claim ≡ is_ticket r (Some r) = ap (is_ticket r) e in let one = own_ticket r in omega (arith, same, one))

-- What the scheduler needs for a call, by what the machine holds
module _ (s : State) (m : MNo) (x : PlainMachine) (sees : Sees s m x) (tickets : (r : Readiness) → 1 ≤ in_hand r x.hand → IsOutstanding s.table r) where
  free_of_processor : x.hand.processor ≡ None → has_processor s.machines m ≡ false
  free_of_processor none = bare_from s.machines m (λ p h. let own : own_processor x.hand ≡ Some p = (sees.holds p).1 h in let no : None ≡ Some p = sym (ap number_of none) ∙ own in cc)

  holds_processor : is_some x.hand.processor ≡ true → has_processor s.machines m ≡ true
  holds_processor h = let p = some_of x.hand.processor h in held_from s.machines m p.0.p ((sees.holds p.0.p).0 (ap number_of p.1))

  idle : x.hand.held ≡ None → RunsNothing s.table m
  idle none = idle_from s.table m (λ g h. let own : held_number x.hand.held ≡ Some g = (sees.runs g).1 h in let no : None ≡ Some g = sym (ap held_number none) ∙ own in cc)

  runs_it : is_some x.hand.held ≡ true → RunsSome s m
  runs_it e = let h = some_of x.hand.held e in (h.0.g, (sees.runs h.0.g).0 (ap held_number h.1))

  calls_it : is_some x.hand.called ≡ true → CallsForSome s m
  calls_it e = let c = some_of x.hand.called e in (c.0.g, (sees.calls c.0.g).0 (ap called_number c.1))

  pub needs : (c : Call) → Uses c x.hand → CallState c (slice_get s.machines.modes m.0) (spins s.machines m) → Needs m c s
  needs call.Acquire u d = (d, free_of_processor u)
  needs call.Take u d = d
  needs (call.Put r) u d = (d, tickets r (put_in_hand r x.hand.processor x.hand.held x.hand.called x.hand.to_claim x.hand.to_store u))
  needs (call.Claim r) u d = ((d.0, idle u.1, d.1), holds_processor u.3, tickets r (claim_in_hand r x.hand u.0))
  needs (call.Select cases has_default until) u d = (d.1, runs_it u.0)
  needs call.Enter u d = (runs_it u.0, holds_processor u.1)
  needs (call.Leave number) u d = calls_it u.0
  needs call.Declare u d = (idle u.0, d, holds_processor u.2)
  needs call.Spin u d = (d, idle u.0)
  needs call.Woken u d = d
  needs call.Keep u d = (d, holds_processor u)
  needs call.Unspin u d = d
  needs call.Poke u d = d
  needs call.Bare u d = (d.0, free_of_processor u, d.1)
  needs call.Park u d = (d.0, free_of_processor u, d.1)
  needs (call.Tick moment) u d = d
  -- every other call is of the goroutine that the machine runs
  needs _ u d = runs_it u.0

-- at any time a ticket in a machine's hand is out
pub ticket_is_out : (k : System) (m : MNo) (r : Readiness) → IsSound k → m.0 < length k.machines → 1 ≤ in_hand r (machine_at k m).hand → IsOutstanding k.book.state.table r
ticket_is_out k m r s inside some =
    let part : in_hand r (machine_at k m).hand ≤ sum_by (λ (x : PlainMachine). in_hand r x.hand) k.machines = get_or-le-sum_by (λ (x : PlainMachine). in_hand r x.hand) k.machines m.0 no_machine inside in
    let most = s.tickets r in
    is_out_by k.book.state.table r (omega (arith, part, most, some))

-- While the run lasts, each call is granted.
pub granted : (k : System) (m : MNo) (c : Call) → m.0 < length k.machines → IsSound k → next_act (machine_at k m) ≡ act.Call c → k.book.state.outcome ≡ None → IsGranted (machine_at k m) m c k.book
granted k m c inside s acts goes =
    let mine : Agrees k.book m (machine_at k m) = s.each m inside in
    let sees : Sees k.book.state m (machine_at k m) = mine.sees goes in
    let state : CallState c (slice_get k.book.state.machines.modes m.0) (spins k.book.state.machines m) =
    subst (CallState c (slice_get k.book.state.machines.modes m.0)) (sym sees.spinning)
    (call_state (machine_at k m).procs (machine_at k m).fresh (machine_at k m).turns (machine_at k m).aside (machine_at k m).hand (slice_get k.book.state.machines.modes m.0) (machine_at k m).place c acts sees.does mine.few) in
    record {
      may = record { pass = mine.pass; has_pass = mine.has_pass; run = mine.run.1; its = mine.its; turn = mine.turn; seen = mine.seen };
      needs = needs k.book.state m (machine_at k m) sees (λ r some. ticket_is_out k m r s inside some) c (uses (machine_at k m) c acts (mine.driver.fits (ap is_some mine.has_pass))) state;
      has = mine.has;
    }
