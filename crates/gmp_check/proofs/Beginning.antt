-- A replay along the entries of a run.
use Rattle.std.proofs.Common.{◌≡◌, ℕ, zero, suc, map, ◌+◌, ◌<◌, ◌^◌, Bool, true, false, Option, None, Some, List, [], ◌∷◌, take, length, refl, sym, ap, subst, ◌∙◌, arith, ◌⊎◌, ◌↔◌, inl, inr, below_more, Result, Ok, Err, is_some}
use Rattle.std.proofs.lemmas.Bool.{false≢true}
use Rattle.std.specs.List.{slice_get}
use Rattle.std.specs.Result.{IfOk}
use Rattle.gmp_seq.specs.declared.call.Outcome.{Outcome}
use Rattle.gmp_start.specs.declared.start.Start.{Start}
use Rattle.gmp_start.proofs.Fitting.{fitting}
use Rattle.gmp_start.specs.Fit.{fits}
use Rattle.gmp_start.specs.Start.{state_of}
use Rattle.gmp_base.specs.declared.number.GNo.{GNo}
use Rattle.gmp_base.specs.declared.number.MNo.{MNo}
use Rattle.std.proofs.lemmas.Option.{slice_get_within}
use Rattle.gmp_seq.proofs.OneEach.{row_at}
use Rattle.gmp_seq.proofs.Runs.{run_join}
use Rattle.gmp_seq.proofs.Sizes.{legal_sizes, step_sizes}
use Rattle.gmp_seq.specs.Fits.{AreLimits}
use Rattle.gmp_seq.specs.Laws.{HasSizes}
use Rattle.gmp_seq.specs.declared.call.Entry.{Entry}
use Rattle.gmp_seq.specs.declared.call.Limits.{Limits}
use Rattle.gmp_seq.specs.declared.status.Goroutine.{Goroutine}
use Rattle.gmp_seq.specs.Run.{IsStep, Run}
use Rattle.gmp_seq.specs.State.{State, opening}
use Rattle.gmp_seq.specs.Table.{Table, IsHeld, status_at}
use Rattle.gmp_trace.specs.Text.{Begins}
use Rattle.gmp_trace.specs.Text.Begins.{AtOpening, AtState}
use Rattle.gmp_check.proofs.Checking.{split}
use Rattle.gmp_check.specs.Checked.{MayGoOn, MayStart, start_at}
use Rattle.gmp_check.proofs.Keeping.{opening_consistent, run_fixed, step_keeps}
use Rattle.gmp_check.proofs.Replaying.{one_entry_more}
use Rattle.gmp_check.specs.Consistent.{IsConsistentUnder, MayBegin}
use Rattle.gmp_check.specs.Decides.{Decides}
use Rattle.gmp_check.proofs.Last.{at_held, held_at, is_at}
use Rattle.gmp_check.specs.Last.{IsAt}

-- an entry of a run is taken
pub step_taken : (limits : Limits) (start s old new : State) (h : List Entry) (i : ℕ) (e : Entry) (b : Bool) → IsConsistentUnder limits start → Run limits start h s
    → slice_get h i ≡ Some e → Run limits start (take i h) old → Decides (IsStep limits e) old new b → Run limits start (take (i + 1) h) new
step_taken limits start s old new h i e true is run at led step =
    subst (λ (l : List Entry). Run limits start l new) (sym (one_entry_more h i e at)) (run_join limits start old new (take i h) (e ∷ []) led (new, step, refl))
step_taken limits start s old new h i e false is run at led stays =
    let parts = split limits start s h i e run at in
    let same : parts.0 ≡ old = run_fixed limits start parts.0 old (take i h) is parts.1 led in
    absurd (stays.1 parts.2.0 (subst (λ (x : State). IsStep limits e x parts.2.0) same parts.2.1))

pub without_outcome : (s : State) → s.outcome ≡ None → record s { outcome = None } ≡ s
without_outcome s none = ap (λ (o : _). let x : State = record s { outcome = o } in x) (sym none)

-- who is at a machine, where goroutine g is looked at
pub last_next : (t : Table) (old new : List GNo) (g : ℕ) (row : Goroutine) (gno : GNo)
    → ((m : MNo) (a b : GNo) → IsHeld t a m → IsHeld t b m → a ≡ b) → gno.0 ≡ g → slice_get t.goroutines g ≡ Some row
    → ((m : MNo) → IsAt m row.status → slice_get new m.0 ≡ Some gno) → ((m : MNo) → (IsAt m row.status → ⊥) → slice_get new m.0 ≡ slice_get old m.0)
    → ((m : MNo) (h : GNo) → h.0 < g → IsHeld t h m → slice_get old m.0 ≡ Some h)
    → (m : MNo) (h : GNo) → h.0 < g + 1 → IsHeld t h m → slice_get new m.0 ≡ Some h
last_next t old new g row gno one is at here there before m h less held =
    below_more (λ (k : ℕ). (h : GNo) → h.0 ≡ k → IsHeld t h m → slice_get new m.0 ≡ Some h) g
    (λ k lt h e held. by_place h held (is_at m row.status) (λ same. absurd (omega (arith, lt, e, same))) (omega (arith, lt, e)))
    (λ h e held. at_last h e held (is_at m row.status))
    h.0 less h refl held
  where
    row_status : (x : GNo) → x.0 ≡ g → status_at t x ≡ Some row.status
    row_status x e = rw (e, at) refl

    moved : (h : GNo) → IsHeld t h m → IsAt m row.status → slice_get new m.0 ≡ Some h
    moved h held comes =
        let same : h ≡ gno = one m h gno held (at_held t gno m row.status (row_status gno is) comes) in
        here m comes ∙ ap Some (sym same)

    by_place : (h : GNo) → IsHeld t h m → (IsAt m row.status ⊎ (IsAt m row.status → ⊥)) → (h.0 ≡ g → ⊥) → h.0 < g → slice_get new m.0 ≡ Some h
    by_place h held (inl comes) not lt = moved h held comes
    by_place h held (inr stays) not lt = there m stays ∙ before m h lt held

    at_last : (h : GNo) → h.0 ≡ g → IsHeld t h m → (IsAt m row.status ⊎ (IsAt m row.status → ⊥)) → slice_get new m.0 ≡ Some h
    at_last h e held (inl comes) = moved h held comes
    at_last h e held (inr stays) =
        let (does, was, is_there) = held_at t h m held in
        let same : Some row.status ≡ Some does = sym (row_status h e) ∙ was in
        let status_is : row.status ≡ does = cc in
        absurd (stays (subst (IsAt m) (sym status_is) is_there))

pub mapped_at : {A B : Type 0} (f : A → B) (xs : List A) (k : ℕ) (x : A) → slice_get xs k ≡ Some x → slice_get (map f xs) k ≡ Some (f x)
mapped_at f [] k x at = absurd cc
mapped_at f (y ∷ xs) zero x at = let same : y ≡ x = cc in ap (λ z. Some (f z)) same
mapped_at f (y ∷ xs) (suc k) x at = mapped_at f xs k x at

-- who is held is in the table
pub held_within : (t : Table) (g : GNo) (m : MNo) → IsHeld t g m → g.0 < length t.goroutines
held_within t g m held =
    let (does, was, there) = held_at t g m held in
    let row = row_at t g does was in
    slice_get_within t.goroutines g.0 row.0 row.1

-- the same under limits that are equal
pub led_on : (limits l : Limits) (start old new : State) (h : List Entry) (i : ℕ) (e : Entry) (b : Bool) → MayBegin limits start → (x : State) × Run limits start h x
    → slice_get h i ≡ Some e → l ≡ limits → Run limits start (take i h) old → Decides (IsStep l e) old new b → Run limits start (take (i + 1) h) new
led_on limits l start old new h i e b begins run at same led d =
    step_taken limits start run.0 old new h i e b begins.consistent run.1 at led (subst (λ (x : Limits). Decides (IsStep x e) old new b) same d)

pub copied_led : {E : Type 0} (r : Result Start E) (limits : Limits) (start old : State) (h : List Entry) → IfOk r (λ (x : Start). state_of x ≡ record old { outcome = None })
    → old.outcome ≡ None → Run limits start h old → IfOk r (λ (x : Start). Run limits start h (state_of x))
copied_led (Ok x) limits start old h is none led = subst (λ (y : State). Run limits start h y) (sym (is ∙ without_outcome old none)) led
copied_led (Err e) limits start old h is none led = tt

-- a run that ended doesn't lead to a state that lasts
pub ended_not : (limits : Limits) (start old second : State) (h : List Entry) (o : Option Outcome) → MayBegin limits start → Run limits start h old → o ≡ old.outcome
    → is_some o ≡ true → second.outcome ≡ None → Run limits start h second → ⊥
ended_not limits start old second h o begins led told some none run =
    let same : old ≡ second = run_fixed limits start old second h begins.consistent led run in
    let none_too : o ≡ None = told ∙ ap (λ (x : State). x.outcome) same ∙ none in
    false≢true (ap (λ (x : Option Outcome). is_some x) (sym none_too) ∙ some)

pub none_is : (o : Option Outcome) → is_some o ≡ false → o ≡ None
none_is None e = refl
none_is (Some x) e = absurd (false≢true (sym e))

-- Where a replay may begin

begins_next : (limits : Limits) (e : Entry) (old new : State) → MayBegin limits old → IsStep limits e old new → MayBegin limits new
begins_next limits e old new begins step =
    let sizes : HasSizes limits (length old.table.goroutines) new = step_sizes limits (length old.table.goroutines) e old new begins.sizes step in
    record {
      few = subst (λ (n : ℕ). n < 2 ^ 16) (sym sizes.goroutines) begins.few;
      sizes = subst (λ (n : ℕ). HasSizes limits n new) (sym sizes.goroutines) sizes;
      consistent = step_keeps limits e old new begins.consistent step;
    }

pub begins_on : (limits : Limits) (old new : State) (h : List Entry) → MayBegin limits old → Run limits old h new → MayBegin limits new
begins_on limits old new [] begins run = subst (MayBegin limits) (sym run) begins
begins_on limits old new (e ∷ h) begins (mid, step, rest) = begins_on limits mid new h (begins_next limits e old mid begins step) rest

pub opening_begins : (limits : Limits) (bodies : ℕ) (capacities : List ℕ) → AreLimits limits bodies capacities → MayBegin limits (opening limits bodies capacities)
opening_begins limits bodies capacities within =
    let start : State = opening limits bodies capacities in
    let sizes : HasSizes limits bodies start = legal_sizes limits bodies capacities [] start within refl in
    record {
      few = omega (arith, sizes.goroutines, within.stock.1);
      sizes = subst (λ (n : ℕ). HasSizes limits n start) (sym sizes.goroutines) sizes;
      consistent = opening_consistent limits bodies capacities within;
    }

pub state_begins : (limits : Limits) (bodies : ℕ) (s : State) → AreLimits limits bodies [] → MayGoOn limits bodies s → MayBegin limits s
state_begins limits bodies s within may =
    record {
      few = omega (arith, may.sizes.goroutines, within.stock.1);
      sizes = subst (λ (n : ℕ). HasSizes limits n s) (sym may.sizes.goroutines) may.sizes;
      consistent = record { limit = within.entries.1; together = may.together };
    }

pub starts_begin : (limits : Limits) (bodies : ℕ) (b : Begins) → MayStart limits bodies b → MayBegin limits (start_at limits bodies b)
starts_begin limits bodies (AtOpening capacities) may = opening_begins limits bodies capacities may
starts_begin limits bodies (AtState s) may = state_begins limits bodies s may.0 may.1

-- the test of a state is that of its sizes and its parts
pub may_go_on : (limits : Limits) (bodies : ℕ) (s : State) → s.outcome ≡ None → HasSizes limits bodies s → (fits limits s ≡ true) ↔ MayGoOn limits bodies s
may_go_on limits bodies s none sizes =
    let test = fitting limits s none in
    ((λ yes. record { sizes = sizes; together = test.0 yes; lasts = none }), (λ may. test.1 may.together))
