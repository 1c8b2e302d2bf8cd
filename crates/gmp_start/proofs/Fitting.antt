-- The test is passed exactly where the parts fit together.
use Rattle.std.proofs.Common.{◌≡◌, ◌↔◌, ℕ, zero, suc, ◌+◌, ◌≤◌, ◌<◌, ◌==◌, Bool, true, false, not, ◌⊎◌, ◌&&◌, ◌||◌, nat_le, nat_lt, if◌then◌else◌, Option, None, Some, List, [], ◌∷◌, sum, refl, sym, ap, subst, ◌∙◌, arith, inl, inr}
use Rattle.std.proofs.lemmas.Bool.{and_parts, or_left, or_right, not-true, eqb-true, eq-eqb, false≢true, false_from_ne_true, le-leb, leb-true, lt-ltb, ltb-true}
use Rattle.std.specs.Option.{option_map_or, unwrap_or}
use Rattle.std.specs.List.{AllPairs, slice_get, list_any, list_all}
use Rattle.gmp_base.specs.declared.number.GNo.{GNo}
use Rattle.gmp_base.specs.declared.number.MNo.{MNo}
use Rattle.gmp_base.specs.declared.number.PNo.{PNo}
use Rattle.gmp_seq.proofs.Arranged.{pairs_rise, rise_pairs}
use Rattle.gmp_seq.proofs.Asleep.{fails_at}
use Rattle.gmp_seq.proofs.Changes.{RisesFrom}
use Rattle.gmp_seq.proofs.Epochs.{epoch_of}
use Rattle.gmp_seq.proofs.Needed.{some_place}
use Rattle.gmp_seq.proofs.OneEach.{row_at}
use Rattle.gmp_seq.specs.declared.call.Limits.{Limits}
use Rattle.gmp_seq.specs.declared.call.Outcome.TheVariants.{BookFull}
use Rattle.gmp_seq.specs.declared.status.Goroutine.{Goroutine}
use Rattle.gmp_seq.specs.declared.status.Mode.{Mode}
use Rattle.gmp_seq.specs.declared.status.Mode.TheVariants as mode
use Rattle.gmp_seq.specs.declared.status.Offer.{Offer}
use Rattle.gmp_seq.specs.declared.status.Status.{Status}
use Rattle.gmp_seq.specs.declared.status.Status.TheVariants as status
use Rattle.gmp_seq.specs.declared.status.Wait.{Wait}
use Rattle.gmp_seq.specs.Laws.{FitsTogether, IsEarlierCase}
use Rattle.gmp_seq.specs.Machines.{is_awake_mode, is_calling_mode}
use Rattle.gmp_seq.specs.State.{State}
use Rattle.gmp_seq.specs.Table.{Table, IsCalling, IsHeld, epoch_at, is_calling_on, is_dormant, some_status, status_at}
use Rattle.gmp_start.specs.Fit.{arrival_of, awake_at, callers_from, channel_fits, clash, epoch_fits, fits, flagged_from, holder_fits, machine_fits, machine_of, pairs_apart, rise_from, row_fits, same_arrival, same_machine, spinner_fits, wait_fits}

-- Tests of lists

both : (a b : Bool) → a ≡ true → b ≡ true → (a && b) ≡ true
both a b p q = rw (p, q) refl

all_at : {A : Type 0} (p : A → Bool) (xs : List A) (i : ℕ) (x : A) → list_all p xs ≡ true → slice_get xs i ≡ Some x → p x ≡ true
all_at p [] i x all at = absurd cc
all_at p (y ∷ xs) zero x all at = let same : y ≡ x = cc in ap p (sym same) ∙ (and_parts _ _ all).0
all_at p (y ∷ xs) (suc i) x all at = all_at p xs i x (and_parts _ _ all).1 at

all_from : {A : Type 0} (p : A → Bool) (xs : List A) → ((i : ℕ) (x : A) → slice_get xs i ≡ Some x → p x ≡ true) → list_all p xs ≡ true
all_from p [] h = refl
all_from p (x ∷ xs) h = both (p x) (list_all p xs) (h 0 x refl) (all_from p xs (λ i. h (suc i)))

any_from : {A : Type 0} (p : A → Bool) (xs : List A) (i : ℕ) (x : A) → slice_get xs i ≡ Some x → p x ≡ true → list_any p xs ≡ true
any_from p [] i x at pass = absurd cc
any_from p (y ∷ xs) zero x at pass = let same : y ≡ x = cc in or_left (p y) (list_any p xs) (ap p same ∙ pass)
any_from p (y ∷ xs) (suc i) x at pass = or_right (p y) (list_any p xs) (any_from p xs i x at pass)

none_from : {A : Type 0} (p : A → Bool) (xs : List A) → ((i : ℕ) (x : A) → slice_get xs i ≡ Some x → p x ≡ false) → list_any p xs ≡ false
none_from p [] fails = refl
none_from p (x ∷ xs) fails = rw (fails 0 x refl) (none_from p xs (λ i. fails (suc i)))

apart_at : {A : Type 0} (R : A → A → Bool) (xs : List A) → pairs_apart R xs ≡ true → (i j : ℕ) (x y : A) → slice_get xs i ≡ Some x → slice_get xs j ≡ Some y
    → R x y ≡ true → R y x ≡ true → i ≡ j
apart_at R [] h i j x y at_i at_j one two = absurd cc
apart_at R (z ∷ zs) h zero zero x y at_i at_j one two = refl
apart_at R (z ∷ zs) h zero (suc j) x y at_i at_j one two =
    let same : z ≡ x = cc in
    absurd (false≢true (sym (fails_at (R z) zs j y (not-true _ (and_parts _ _ h).0) at_j) ∙ ap (λ v. R v y) same ∙ one))
apart_at R (z ∷ zs) h (suc i) zero x y at_i at_j one two =
    let same : z ≡ y = cc in
    absurd (false≢true (sym (fails_at (R z) zs i x (not-true _ (and_parts _ _ h).0) at_i) ∙ ap (λ v. R v x) same ∙ two))
apart_at R (z ∷ zs) h (suc i) (suc j) x y at_i at_j one two = ap (λ n. suc n) (apart_at R zs (and_parts _ _ h).1 i j x y at_i at_j one two)

not_next : (j : ℕ) → 0 ≡ suc j → ⊥
not_next j e = omega (arith, e)

less_one : (i j : ℕ) → suc i ≡ suc j → i ≡ j
less_one i j e = omega (arith, e)

apart_from : {A : Type 0} (R : A → A → Bool) (xs : List A)
    → ((i j : ℕ) (x y : A) → slice_get xs i ≡ Some x → slice_get xs j ≡ Some y → R x y ≡ true → i ≡ j) → pairs_apart R xs ≡ true
apart_from R [] h = refl
apart_from R (z ∷ zs) h =
    both (not (list_any (R z) zs)) (pairs_apart R zs)
    (ap not (none_from (R z) zs (λ j y at. false_from_ne_true (R z y) (λ e. not_next j (h 0 (suc j) z y refl at e)))))
    (apart_from R zs (λ i j x y at_i at_j e. less_one i j (h (suc i) (suc j) x y at_i at_j e)))

-- Goroutines

rises : (n : ℕ) (os : List Offer) → rise_from n os ≡ true → RisesFrom n os
rises n [] h = tt
rises n (o ∷ os) h = (leb-true n o.case (and_parts _ _ h).0, rises (o.case + 1) os (and_parts _ _ h).1)

rise : (n : ℕ) (os : List Offer) → RisesFrom n os → rise_from n os ≡ true
rise n [] h = refl
rise n (o ∷ os) (first, rest) = both (nat_le n o.case) (rise_from (o.case + 1) os) (le-leb n o.case first) (rise (o.case + 1) os rest)

dormant_where : (b : Bool) (e : ℕ) → (if b then e == 0 else nat_lt 0 e) ≡ true → b ≡ (e == 0)
dormant_where true e h = sym h
dormant_where false e h = sym (false_from_ne_true (e == 0) (λ z. let none : e ≡ 0 = eqb-true e 0 z in let some : 0 < e = ltb-true 0 e h in omega (arith, none, some)))

where_dormant : (b : Bool) (e : ℕ) → b ≡ (e == 0) → (if b then e == 0 else nat_lt 0 e) ≡ true
where_dormant true e h = sym h
where_dormant false e h = lt-ltb 0 e (some e h) where
  some : (e : ℕ) → false ≡ (e == 0) → 0 < e
  some zero h = absurd (false≢true (h ∙ eq-eqb 0 0 refl))
  some (suc e) h = omega arith

dormant_is : (s : Status) → is_dormant s ≡ true → s ≡ status.Dormant
dormant_is status.Dormant e = refl
dormant_is _ e = absurd (false≢true e)

clash_waits : (x y : Goroutine) (a b : Wait) → x.status ≡ status.Waiting a → y.status ≡ status.Waiting b → a.arrival ≡ b.arrival → clash x y ≡ true
clash_waits x y a b p q e = rw (p, q) (eq-eqb a.arrival b.arrival e)

clash_held : (x y : Goroutine) (m : MNo) → machine_of x.status ≡ Some m → machine_of y.status ≡ Some m → clash x y ≡ true
clash_held x y m p q =
    or_left (same_machine (machine_of x.status) (machine_of y.status)) (same_arrival (arrival_of x.status) (arrival_of y.status)) (rw (p, q) (eq-eqb m.0 m.0 refl))

held_row : (t : Table) (g : GNo) (m : MNo) → IsHeld t g m → (x : Goroutine) × (slice_get t.goroutines g.0 ≡ Some x) × (machine_of x.status ≡ Some m)
held_row t g m (inl runs) = let row = row_at t g (status.Running m) runs in (row.0, row.1, ap machine_of row.2)
held_row t g m (inr calls) = let row = row_at t g (status.Calling m) calls in (row.0, row.1, ap machine_of row.2)

or_none : (c : Bool) → c || false ≡ true → c ≡ true
or_none true h = refl
or_none false h = h

same_place : (m n : MNo) → (m.0 == n.0) || false ≡ true → Some n ≡ Some m
same_place m n h = ap (λ (k : ℕ). let x : MNo = record { 0 = k } in Some x) (sym (eqb-true m.0 n.0 (or_none (m.0 == n.0) h)))

-- what two that clash are
clash_parts : (a b : Status) → same_machine (machine_of a) (machine_of b) || same_arrival (arrival_of a) (arrival_of b) ≡ true
    → ((m : MNo) × (machine_of a ≡ Some m) × (machine_of b ≡ Some m)) ⊎ ((x : Wait) × (y : Wait) × (a ≡ status.Waiting x) × (b ≡ status.Waiting y) × (x.arrival ≡ y.arrival))
clash_parts (status.Running m) (status.Running n) h = inl (m, refl, same_place m n h)
clash_parts (status.Running m) (status.Calling n) h = inl (m, refl, same_place m n h)
clash_parts (status.Calling m) (status.Running n) h = inl (m, refl, same_place m n h)
clash_parts (status.Calling m) (status.Calling n) h = inl (m, refl, same_place m n h)
clash_parts (status.Waiting x) (status.Waiting y) h = inr (x, y, refl, refl, eqb-true x.arrival y.arrival h)
clash_parts _ _ h = absurd (false≢true h)

-- Machines

awake_is : (o : Option Mode) → option_map_or is_awake_mode o false ≡ true → o ≡ Some mode.Awake
awake_is (Some mode.Awake) e = refl
awake_is _ e = absurd (false≢true e)

calling_is : (o : Option Mode) → option_map_or is_calling_mode o false ≡ true → o ≡ Some mode.Calling
calling_is (Some mode.Calling) e = refl
calling_is _ e = absurd (false≢true e)

calling_mode_is : (x : Mode) → is_calling_mode x ≡ true → x ≡ mode.Calling
calling_mode_is mode.Calling e = refl
calling_mode_is _ e = absurd (false≢true e)

flag_is : (o : Option Bool) → unwrap_or o false ≡ true → o ≡ Some true
flag_is (Some true) e = refl
flag_is _ e = absurd (false≢true e)

calls_is : (m : MNo) (s : Status) → is_calling_on m s ≡ true → s ≡ status.Calling m
calls_is m (status.Calling n) e = ap status.Calling (ap (λ (k : ℕ). let x : MNo = record { 0 = k } in x) (sym (eqb-true m.0 n.0 e)))
calls_is m _ e = absurd (false≢true e)

implied : (a b : Bool) → not a || b ≡ true → a ≡ true → b ≡ true
implied true b h e = h
implied false b h e = absurd (false≢true e)

implies : (a b : Bool) → (a ≡ true → b ≡ true) → not a || b ≡ true
implies true b h = h refl
implies false b h = refl

numbered : (a b : ℕ) → a ≡ b → (let x : MNo = record { 0 = a } in x) ≡ record { 0 = b }
numbered a b e = ap (λ (k : ℕ). let x : MNo = record { 0 = k } in x) e

callers_at : (t : Table) (k : ℕ) (modes : List Mode) → callers_from t k modes ≡ true → (i : ℕ) (m : MNo) → m.0 ≡ k + i → slice_get modes i ≡ Some mode.Calling
    → some_status (is_calling_on m) t ≡ true
callers_at t k [] h i m is at = absurd cc
callers_at t k (x ∷ modes) h zero m is at =
    let same : x ≡ mode.Calling = cc in
    let place : m.0 ≡ k = omega arith in
    let here = (and_parts _ _ h).0 in
    subst (λ (n : MNo). some_status (is_calling_on n) t ≡ true) (sym (numbered m.0 k place)) (implied _ _ here (ap is_calling_mode same))
callers_at t k (x ∷ modes) h (suc i) m is at = callers_at t (k + 1) modes (and_parts _ _ h).1 i m (omega arith) at

callers_where : (t : Table) (k : ℕ) (modes : List Mode)
    → ((i : ℕ) (m : MNo) → m.0 ≡ k + i → slice_get modes i ≡ Some mode.Calling → some_status (is_calling_on m) t ≡ true) → callers_from t k modes ≡ true
callers_where t k [] h = refl
callers_where t k (x ∷ modes) h =
    both (not (is_calling_mode x) || some_status (is_calling_on (record { 0 = k })) t) (callers_from t (k + 1) modes)
    (implies _ _ (λ e. h 0 (record { 0 = k }) (omega arith) (ap Some (calling_mode_is x e))))
    (callers_where t (k + 1) modes (λ i m is at. h (suc i) m (omega arith) at))

flagged_at : (passes : MNo → Bool) (k : ℕ) (xs : List Bool) → flagged_from passes k xs ≡ true → (i : ℕ) (m : MNo) → m.0 ≡ k + i → slice_get xs i ≡ Some true
    → passes m ≡ true
flagged_at passes k [] h i m is at = absurd cc
flagged_at passes k (x ∷ xs) h zero m is at =
    let same : x ≡ true = cc in
    let place : m.0 ≡ k = omega arith in
    let here = (and_parts _ _ h).0 in
    subst (λ (n : MNo). passes n ≡ true) (sym (numbered m.0 k place)) (implied _ _ here same)
flagged_at passes k (x ∷ xs) h (suc i) m is at = flagged_at passes (k + 1) xs (and_parts _ _ h).1 i m (omega arith) at

flagged_where : (passes : MNo → Bool) (k : ℕ) (xs : List Bool) → ((i : ℕ) (m : MNo) → m.0 ≡ k + i → slice_get xs i ≡ Some true → passes m ≡ true)
    → flagged_from passes k xs ≡ true
flagged_where passes k [] h = refl
flagged_where passes k (x ∷ xs) h =
    both (not x || passes (record { 0 = k })) (flagged_from passes (k + 1) xs)
    (implies _ _ (λ e. h 0 (record { 0 = k }) (omega arith) (ap Some e)))
    (flagged_where passes (k + 1) xs (λ i m is at. h (suc i) m (omega arith) at))

-- All together

-- the parts of the test
pub record Passes (limits : Limits) (s : State) : Type 0 where
  few : sum s.counts < limits.entries
  channels : list_all channel_fits s.channels ≡ true
  arrivals : s.table.arrivals ≤ sum s.counts
  rows : list_all (row_fits (sum s.counts) s.table.arrivals s.machines) s.table.goroutines ≡ true
  apart : pairs_apart clash s.table.goroutines ≡ true
  holders : list_all (holder_fits s.machines) s.machines.holders ≡ true
  hold : pairs_apart same_machine s.machines.holders ≡ true
  callers : callers_from s.table 0 s.machines.modes ≡ true
  spinners : flagged_from (spinner_fits s.machines s.table) 0 s.machines.spinning ≡ true
  marked : flagged_from (awake_at s.machines) 0 s.machines.marked ≡ true

passes : (limits : Limits) (s : State) → fits limits s ≡ true → Passes limits s
passes limits s h =
    let m = and_parts _ _ h in
    let t = and_parts _ _ m.0 in
    let c = and_parts _ _ t.0 in
    let t2 = and_parts _ _ t.1 in
    let t3 = and_parts _ _ t2.0 in
    let m1 = and_parts _ _ m.1 in
    let m2 = and_parts _ _ m1.0 in
    let m3 = and_parts _ _ m2.0 in
    let m4 = and_parts _ _ m3.0 in
    record {
      few = ltb-true _ _ c.0;
      channels = c.1;
      arrivals = leb-true _ _ t3.0;
      rows = t3.1;
      apart = t2.1;
      holders = m4.0;
      hold = m4.1;
      callers = m3.1;
      spinners = m2.1;
      marked = m1.1;
    }

passed : (limits : Limits) (s : State) → Passes limits s → fits limits s ≡ true
passed limits s p =
    both _ _
    (both _ _ (both _ _ (lt-ltb (sum s.counts) limits.entries p.few) p.channels) (both _ _ (both _ _ (le-leb s.table.arrivals (sum s.counts) p.arrivals) p.rows) p.apart))
    (both _ _ (both _ _ (both _ _ (both _ _ p.holders p.hold) p.callers) p.spinners) p.marked)

module _ (limits : Limits) (s : State) (p : Passes limits s) where
  -- what the row of a goroutine passes
  row_of : (g : GNo) (does : Status) → status_at s.table g ≡ Some does
      → (x : Goroutine) × (slice_get s.table.goroutines g.0 ≡ Some x) × (x.status ≡ does) × (epoch_fits (sum s.counts) x ≡ true)
      × (wait_fits s.table.arrivals does ≡ true) × (machine_fits s.machines does ≡ true)
  row_of g does was =
      let row = row_at s.table g does was in
      let all = all_at (row_fits (sum s.counts) s.table.arrivals s.machines) s.table.goroutines g.0 row.0 p.rows row.1 in
      let last = and_parts _ _ all in
      let first = and_parts _ _ last.0 in
      (row.0, row.1, row.2, first.0, ap (wait_fits s.table.arrivals) (sym row.2) ∙ first.1, ap (machine_fits s.machines) (sym row.2) ∙ last.1)

  epoch_low : (o : Option Goroutine) → ((x : Goroutine) → o ≡ Some x → epoch_fits (sum s.counts) x ≡ true) → epoch_of o ≤ sum s.counts + 1
  epoch_low None h = omega arith
  epoch_low (Some x) h = leb-true _ _ (and_parts _ _ (h x refl)).0

  never_started : (g : GNo) (does : Status) → status_at s.table g ≡ Some does → (epoch_at s.table g ≡ 0) ↔ (does ≡ status.Dormant)
  never_started g does was =
      let row = row_of g does was in
      let epoch : epoch_at s.table g ≡ row.0.epoch = ap (λ (o : Option Goroutine). epoch_of o) row.1 in
      let here : is_dormant does ≡ (row.0.epoch == 0) = ap is_dormant (sym row.2) ∙ dormant_where (is_dormant row.0.status) row.0.epoch (and_parts _ _ row.3).1 in (
        (λ none. dormant_is does (here ∙ eq-eqb row.0.epoch 0 (sym epoch ∙ none))),
        (λ is. epoch ∙ eqb-true row.0.epoch 0 (sym here ∙ ap is_dormant is)),
      )

  same_goroutine : (g h : GNo) → g.0 ≡ h.0 → g ≡ h
  same_goroutine g h e = ap (λ (k : ℕ). let x : GNo = record { 0 = k } in x) e

  same_processor : (g h : PNo) → g.0 ≡ h.0 → g ≡ h
  same_processor g h e = ap (λ (k : ℕ). let x : PNo = record { 0 = k } in x) e

  apart_waits : (g h : GNo) (x y : Wait) → status_at s.table g ≡ Some (status.Waiting x) → status_at s.table h ≡ Some (status.Waiting y) → x.arrival ≡ y.arrival → g ≡ h
  apart_waits g h x y at_g at_h e =
      let a = row_at s.table g (status.Waiting x) at_g in
      let b = row_at s.table h (status.Waiting y) at_h in
      same_goroutine g h
      (apart_at clash s.table.goroutines p.apart g.0 h.0 a.0 b.0 a.1 b.1 (clash_waits a.0 b.0 x y a.2 b.2 e) (clash_waits b.0 a.0 y x b.2 a.2 (sym e)))

  apart_held : (m : MNo) (g h : GNo) → IsHeld s.table g m → IsHeld s.table h m → g ≡ h
  apart_held m g h at_g at_h =
      let a = held_row s.table g m at_g in
      let b = held_row s.table h m at_h in
      same_goroutine g h
      (apart_at clash s.table.goroutines p.apart g.0 h.0 a.0 b.0 a.1 b.1 (clash_held a.0 b.0 m a.2 b.2) (clash_held b.0 a.0 m b.2 a.2))

  called : (m : MNo) → slice_get s.machines.modes m.0 ≡ Some mode.Calling → (g : GNo) × IsCalling s.table g m
  called m at =
      let some = callers_at s.table 0 s.machines.modes p.callers m.0 m (omega arith) at in
      let there = some_place (λ (x : Goroutine). is_calling_on m x.status) s.table.goroutines some in
      (record { 0 = there.0 }, rw there.2 (ap Some (calls_is m there.1.status there.3)))

  pub together : s.outcome ≡ None → FitsTogether limits s
  together lasts = record {
    entries = omega (arith, p.few);
    ongoing = λ on. p.few;
    full = λ e. absurd (let no : None ≡ Some BookFull = sym lasts ∙ e in cc);
    room = λ c x at. leb-true _ _ (all_at channel_fits s.channels c.0 x p.channels at);
    arrivals = p.arrivals;
    arrived = λ g x was. ltb-true _ _ (and_parts _ _ (row_of g (status.Waiting x) was).4).0;
    arrivals_differ = apart_waits;
    cases_rise = λ g x was. rise_pairs x.offers (rises 0 x.offers (and_parts _ _ (row_of g (status.Waiting x) was).4).1);
    dormant = never_started;
    epochs = λ g. epoch_low (slice_get s.table.goroutines g.0)
        (λ x at. (and_parts _ _ (and_parts _ _ (all_at (row_fits (sum s.counts) s.table.arrivals s.machines) s.table.goroutines g.0 x p.rows at)).0).0);
    one_processor = λ m q r at_q at_r. same_processor q r
        (apart_at same_machine s.machines.holders p.hold q.0 r.0 (Some m) (Some m) at_q at_r (eq-eqb m.0 m.0 refl) (eq-eqb m.0 m.0 refl));
    holder = λ m q at. awake_is _ (all_at (holder_fits s.machines) s.machines.holders q.0 (Some m) p.holders at);
    one_goroutine = apart_held;
    runner = λ g m runs. let both_are = and_parts _ _ (row_of g (status.Running m) runs).5 in (awake_is _ both_are.0, both_are.1);
    caller = λ m. ((λ c. calling_is _ (row_of c.0 (status.Calling m) c.1).5), called m);
    spinner = λ m on.
        let here = and_parts _ _ (flagged_at (spinner_fits s.machines s.table) 0 s.machines.spinning p.spinners m.0 m (omega arith) (flag_is _ on)) in
        (awake_is _ here.0, not-true _ here.1);
    marked = λ m on. awake_is _ (flagged_at (awake_at s.machines) 0 s.machines.marked p.marked m.0 m (omega arith) (flag_is _ on));
  }

module _ (limits : Limits) (s : State) (are : FitsTogether limits s) where
  status_here : (i : ℕ) (x : Goroutine) → slice_get s.table.goroutines i ≡ Some x → status_at s.table (record { 0 = i }) ≡ Some x.status
  status_here i x at = rw at refl

  row_passes : (i : ℕ) (x : Goroutine) → slice_get s.table.goroutines i ≡ Some x → row_fits (sum s.counts) s.table.arrivals s.machines x ≡ true
  row_passes i x at =
      let g : GNo = record { 0 = i } in
      let was = status_here i x at in
      let epoch : epoch_at s.table g ≡ x.epoch = ap (λ (o : Option Goroutine). epoch_of o) at in
      both _ _ (both _ _ (both _ _ (le-leb x.epoch (sum s.counts + 1) (let low = are.epochs g in omega (arith, low, epoch))) (where_dormant (is_dormant x.status) x.epoch (dormant_same x.status x.epoch (started epoch was)))) (waits x.status was)) (on_machine x.status was)
    where
      started : epoch_at s.table (record { 0 = i }) ≡ x.epoch → status_at s.table (record { 0 = i }) ≡ Some x.status → (x.epoch ≡ 0) ↔ (x.status ≡ status.Dormant)
      started epoch was = let iff = are.dormant (record { 0 = i }) x.status was in ((λ none. iff.0 (epoch ∙ none)), (λ is. sym epoch ∙ iff.1 is))

      dormant_same : (does : Status) (e : ℕ) → (e ≡ 0) ↔ (does ≡ status.Dormant) → is_dormant does ≡ (e == 0)
      dormant_same status.Dormant e iff = sym (eq-eqb e 0 (iff.1 refl))
      dormant_same _ e iff = sym (false_from_ne_true (e == 0) (λ z. false≢true (ap is_dormant (iff.0 (eqb-true e 0 z)))))

      waits : (does : Status) → status_at s.table (record { 0 = i }) ≡ Some does → wait_fits s.table.arrivals does ≡ true
      waits (status.Waiting w) was =
          both _ _ (lt-ltb w.arrival s.table.arrivals (are.arrived (record { 0 = i }) w was)) (rise 0 w.offers (pairs_rise w.offers (are.cases_rise (record { 0 = i }) w was)))
      waits _ was = refl

      on_machine : (does : Status) → status_at s.table (record { 0 = i }) ≡ Some does → machine_fits s.machines does ≡ true
      on_machine (status.Running m) was = let h = are.runner (record { 0 = i }) m was in both _ _ (ap (λ (o : Option Mode). option_map_or is_awake_mode o false) h.0) h.1
      on_machine (status.Calling m) was = ap (λ (o : Option Mode). option_map_or is_calling_mode o false) ((are.caller m).0 (record { 0 = i }, was))
      on_machine _ was = refl

  held_is : (does : Status) (g : GNo) (m : MNo) → status_at s.table g ≡ Some does → machine_of does ≡ Some m → IsHeld s.table g m
  held_is (status.Running n) g m was e = let same : n ≡ m = cc in inl (was ∙ ap (λ (k : MNo). Some (status.Running k)) same)
  held_is (status.Calling n) g m was e = let same : n ≡ m = cc in inr (was ∙ ap (λ (k : MNo). Some (status.Calling k)) same)
  held_is _ g m was e = absurd (let no : None ≡ Some m = e in cc)

  rows_apart : (i j : ℕ) (x y : Goroutine) → slice_get s.table.goroutines i ≡ Some x → slice_get s.table.goroutines j ≡ Some y → clash x y ≡ true → i ≡ j
  rows_apart i j x y at_i at_j e =
      let g : GNo = record { 0 = i } in
      let h : GNo = record { 0 = j } in
      elim (clash_parts x.status y.status e) [
        | inl held ↦ ap (λ (k : GNo). k.0) (are.one_goroutine held.0 g h (held_is x.status g held.0 (status_here i x at_i) held.1) (held_is y.status h held.0 (status_here j y at_j) held.2))
        | inr wait ↦ ap (λ (k : GNo). k.0) (are.arrivals_differ g h wait.0 wait.1 (status_here i x at_i ∙ ap Some wait.2) (status_here j y at_j ∙ ap Some wait.3) wait.4)
      ]

  holder_passes : (i : ℕ) (x : Option MNo) → slice_get s.machines.holders i ≡ Some x → holder_fits s.machines x ≡ true
  holder_passes i None at = refl
  holder_passes i (Some m) at = ap (λ (o : Option Mode). option_map_or is_awake_mode o false) (are.holder m (record { 0 = i }) at)

  holders_apart : (i j : ℕ) (x y : Option MNo) → slice_get s.machines.holders i ≡ Some x → slice_get s.machines.holders j ≡ Some y → same_machine x y ≡ true → i ≡ j
  holders_apart i j (Some m) (Some n) at_i at_j e =
      let same : n ≡ m = sym (numbered m.0 n.0 (eqb-true m.0 n.0 e)) in
      ap (λ (k : PNo). k.0) (are.one_processor m (record { 0 = i }) (record { 0 = j }) at_i (at_j ∙ ap (λ (k : MNo). Some (Some k)) same))
  holders_apart i j _ _ at_i at_j e = absurd (false≢true e)

  caller_here : (m : MNo) → slice_get s.machines.modes m.0 ≡ Some mode.Calling → some_status (is_calling_on m) s.table ≡ true
  caller_here m at =
      let c = (are.caller m).1 at in
      let row = row_at s.table c.0 (status.Calling m) c.1 in
      any_from (λ (x : Goroutine). is_calling_on m x.status) s.table.goroutines c.0.0 row.0 row.1 (ap (is_calling_on m) row.2 ∙ eq-eqb m.0 m.0 refl)

  spinner_here : (m : MNo) → slice_get s.machines.spinning m.0 ≡ Some true → spinner_fits s.machines s.table m ≡ true
  spinner_here m at =
      let h = are.spinner m (ap (λ (o : Option Bool). unwrap_or o false) at) in
      both _ _ (ap (λ (o : Option Mode). option_map_or is_awake_mode o false) h.0) (ap not h.1)

  marked_here : (m : MNo) → slice_get s.machines.marked m.0 ≡ Some true → awake_at s.machines m ≡ true
  marked_here m at = ap (λ (o : Option Mode). option_map_or is_awake_mode o false) (are.marked m (ap (λ (o : Option Bool). unwrap_or o false) at))

  pub parts : s.outcome ≡ None → Passes limits s
  parts lasts = record {
    few = are.ongoing lasts;
    channels = all_from channel_fits s.channels (λ i x at. le-leb _ _ (are.room (record { 0 = i }) x at));
    arrivals = are.arrivals;
    rows = all_from (row_fits (sum s.counts) s.table.arrivals s.machines) s.table.goroutines row_passes;
    apart = apart_from clash s.table.goroutines rows_apart;
    holders = all_from (holder_fits s.machines) s.machines.holders holder_passes;
    hold = apart_from same_machine s.machines.holders holders_apart;
    callers = callers_where s.table 0 s.machines.modes (λ i m is at. caller_here m (ap (slice_get s.machines.modes) (is ∙ omega arith) ∙ at));
    spinners = flagged_where (spinner_fits s.machines s.table) 0 s.machines.spinning (λ i m is at. spinner_here m (ap (slice_get s.machines.spinning) (is ∙ omega arith) ∙ at));
    marked = flagged_where (awake_at s.machines) 0 s.machines.marked (λ i m is at. marked_here m (ap (slice_get s.machines.marked) (is ∙ omega arith) ∙ at));
  }

pub fitting : (limits : Limits) (s : State) → s.outcome ≡ None → (fits limits s ≡ true) ↔ FitsTogether limits s
fitting limits s lasts = ((λ h. together limits s (passes limits s h) lasts), (λ are. passed limits s (parts limits s are lasts)))

-- the test of offers that rise
pub rises_test : (os : List Offer) → (rise_from 0 os ≡ true) ↔ AllPairs IsEarlierCase os
rises_test os = ((λ h. rise_pairs os (rises 0 os h)), (λ h. rise 0 os (pairs_rise os h)))
