-- A list of the goroutines whose status passes a test, where one goroutine changes and the list with it.
use Rattle.std.proofs.Common.{◌≡◌, ℕ, zero, suc, ◌+◌, ◌<◌, ◌==◌, Bool, true, false, ◌&&◌, ◌||◌, List, [], ◌∷◌, ◌++◌, Option, Some, None, length, set, replicate, slice_get, count_by, nat_lt, refl, sym, ◌∙◌, ap, arith, length-set, zero-add}
use Rattle.std.proofs.lemmas.Bool.Decides.{nat_tests}
use Rattle.std.proofs.lemmas.Grind.{common_steps}
use Rattle.std.proofs.lemmas.List.Sums.{sum_by-set, sum_by_push, sum_by-cons, count_by-le-length}
use Rattle.std.proofs.lemmas.Option.{slice_get_within, get_or_from_slice_get}
use Rattle.std.specs.List.{list_any}
use Rattle.std.specs.Option.{option_map_or}
use Rattle.gmp_base.specs.declared.number.GNo.{GNo}
use Rattle.gmp_seq.specs.declared.status.Goroutine.{Goroutine}
use Rattle.gmp_seq.specs.declared.status.Status.{Status}
use Rattle.gmp_seq.specs.State.{dormant}
use Rattle.gmp_table.specs.Kept.{tally, times, passes_at, count_status, IsListing}

-- how a count changes with one element
pub count_by-set : {X : Type 0} (p : X → Bool) (xs : List X) (i : ℕ) (x y : X) → slice_get xs i ≡ Some x
    → count_by p (set xs i y) + tally (p x) ≡ count_by p xs + tally (p y)
count_by-set p xs i x y at =
    let within : i < length xs = slice_get_within xs i x at in
    let h = sum_by-set (λ z. tally (p z)) xs i y x within in
    rw (get_or_from_slice_get xs i x x at) at h

pub slice_get-set_same : {X : Type 0} (xs : List X) (i : ℕ) (y : X) → i < length xs → slice_get (set xs i y) i ≡ Some y
slice_get-set_same [] i y within = absurd (omega arith)
slice_get-set_same (x ∷ xs) zero y within = refl
slice_get-set_same (x ∷ xs) (suc i) y within = slice_get-set_same xs i y (omega arith)

pub slice_get-set_other : {X : Type 0} (xs : List X) (i j : ℕ) (y : X) → (j ≡ i → ⊥) → slice_get (set xs i y) j ≡ slice_get xs j
slice_get-set_other [] i j y apart = refl
slice_get-set_other (x ∷ xs) zero zero y apart = absurd (apart refl)
slice_get-set_other (x ∷ xs) zero (suc j) y apart = refl
slice_get-set_other (x ∷ xs) (suc i) zero y apart = refl
slice_get-set_other (x ∷ xs) (suc i) (suc j) y apart = slice_get-set_other xs i j y (λ e. apart (omega arith))

-- the list gains and loses g as its status passes the test or no longer does
pub record ListMoves (test : Status → Bool) (g : ℕ) (x y : Status) (old now : List GNo) : Type 0 where
  pub size : length now + tally (test x) ≡ length old + tally (test y)
  pub each : (h : ℕ) → times h now + tally ((h == g) && test x) ≡ times h old + tally ((h == g) && test y)

each-set : (test : Status → Bool) (rows : List Goroutine) (g : ℕ) (x y : Goroutine) (h : ℕ) → slice_get rows g ≡ Some x
    → tally (passes_at test (set rows g y) h) + tally ((h == g) && test x.status) ≡ tally (passes_at test rows h) + tally ((h == g) && test y.status)
each-set test rows g x y h at = each-set-by (h == g) refl
  where
    each-set-by : (b : Bool) → (h == g) ≡ b
        → tally (passes_at test (set rows g y) h) + tally (b && test x.status) ≡ tally (passes_at test rows h) + tally (b && test y.status)
    each-set-by true is =
        let same : h ≡ g = grind (arith, nat_tests) in
        let was : slice_get rows h ≡ Some x = rw same at in
        let now : slice_get (set rows g y) h ≡ Some y = rw same (slice_get-set_same rows g y (slice_get_within rows g x at)) in
        rw (now, was) (omega arith)
    each-set-by false is = rw (slice_get-set_other rows g h y (λ same. grind (arith, nat_tests))) refl

-- a row changes, and the list moves with it
pub listing-set : (test : Status → Bool) (rows : List Goroutine) (g : ℕ) (x y : Goroutine) (old now : List GNo)
    → IsListing test rows old → slice_get rows g ≡ Some x → ListMoves test g x.status y.status old now → IsListing test (set rows g y) now
listing-set test rows g x y old now kept at moves = record {
  all =
      let n = count_by-set (λ z. test z.status) rows g x y at in
      omega (arith, n, moves.size, kept.all);
  each = λ h. omega (arith, moves.each h, kept.each h, each-set test rows g x y h at);
}

flip : (a b : ℕ) → tally (a == b) ≡ tally ((b == a) && true)
flip a b = grind (arith, nat_tests)

-- one that passes from now on goes last
pub pushed : (test : Status → Bool) (rows : List Goroutine) (g : GNo) (x y : Goroutine) (list : List GNo) → IsListing test rows list
    → slice_get rows g.0 ≡ Some x → test x.status ≡ false → test y.status ≡ true → IsListing test (set rows g.0 y) (list ++ g ∷ [])
pushed test rows g x y list kept at off on = listing-set test rows g.0 x y list (list ++ g ∷ []) kept at (record {
  size = rw (off, on) (grind (arith, common_steps));
  each = λ h.
      let n = sum_by_push (λ (z : GNo). tally (z.0 == h)) list g in
      let e = flip g.0 h in
      rw (off, on) (grind (arith, nat_tests));
})

-- one that passes from now on goes first
pub pushed_first : (test : Status → Bool) (rows : List Goroutine) (g : GNo) (x y : Goroutine) (list : List GNo) → IsListing test rows list
    → slice_get rows g.0 ≡ Some x → test x.status ≡ false → test y.status ≡ true → IsListing test (set rows g.0 y) (g ∷ list)
pushed_first test rows g x y list kept at off on = listing-set test rows g.0 x y list (g ∷ list) kept at (record {
  size = rw (off, on) (omega arith);
  each = λ h.
      let n = sum_by-cons (λ (z : GNo). tally (z.0 == h)) g list in
      let e = flip g.0 h in
      rw (off, on) (grind (arith, nat_tests));
})

-- one that no longer passes is taken off the front
pub popped : (test : Status → Bool) (rows : List Goroutine) (g : GNo) (x y : Goroutine) (list : List GNo) → IsListing test rows (g ∷ list)
    → slice_get rows g.0 ≡ Some x → test x.status ≡ true → test y.status ≡ false → IsListing test (set rows g.0 y) list
popped test rows g x y list kept at on off = listing-set test rows g.0 x y (g ∷ list) list kept at (record {
  size = rw (on, off) (omega arith);
  each = λ h.
      let n = sum_by-cons (λ (z : GNo). tally (z.0 == h)) g list in
      let e = flip g.0 h in
      rw (on, off) (grind (arith, nat_tests));
})

-- the test says the same of the row before and after
pub passed_by : (test : Status → Bool) (rows : List Goroutine) (g : GNo) (x y : Goroutine) (list : List GNo) → IsListing test rows list
    → slice_get rows g.0 ≡ Some x → test x.status ≡ test y.status → IsListing test (set rows g.0 y) list
passed_by test rows g x y list kept at same = listing-set test rows g.0 x y list list kept at (record {
  size = rw same refl;
  each = λ h. rw same refl;
})

-- what stands first passes the test
pub first_passes : (test : Status → Bool) (rows : List Goroutine) (g : GNo) (list : List GNo) → IsListing test rows (g ∷ list) → passes_at test rows g.0 ≡ true
first_passes test rows g list kept = by_test (passes_at test rows g.0) refl
  where
    by_test : (b : Bool) → passes_at test rows g.0 ≡ b → b ≡ true
    by_test true is = refl
    by_test false is =
        let n = kept.each g.0 in
        let m = sum_by-cons (λ (z : GNo). tally (z.0 == g.0)) g list in
        let one : tally (g.0 == g.0) ≡ 1 = grind (arith, nat_tests) in
        let here : times g.0 (g ∷ list) ≡ tally false = rw is at n in
        absurd (omega (arith, m, one, here))

-- a row that passes the test
pub record HasRow (test : Status → Bool) (rows : List Goroutine) (g : GNo) (b : Bool) : Type 0 where
  pub row : Goroutine
  pub at : slice_get rows g.0 ≡ Some row
  pub is : test row.status ≡ b

pub row_of : (test : Status → Bool) (rows : List Goroutine) (g : GNo) → passes_at test rows g.0 ≡ true → HasRow test rows g true
row_of test rows g h = by_row (slice_get rows g.0) refl h
  where
    by_row : (o : Option Goroutine) → slice_get rows g.0 ≡ o → option_map_or (λ (x : Goroutine). test x.status) o false ≡ true → HasRow test rows g true
    by_row None at e = absurd cc
    by_row (Some x) at e = record { row = x; at = at; is = e }

-- fewer are listed than there are rows, where some row fails the test
pub listed_fewer : (test : Status → Bool) (rows : List Goroutine) (g : GNo) (x y : Goroutine) (list : List GNo) → IsListing test rows list
    → slice_get rows g.0 ≡ Some x → test x.status ≡ false → test y.status ≡ true → length list < length rows
listed_fewer test rows g x y list kept at off on =
    let n = count_by-set (λ z. test z.status) rows g.0 x y at in
    let most = count_by-le-length (λ (z : Goroutine). test z.status) (set rows g.0 y) in
    let same = length-set rows g.0 y in
    let n' : count_status test (set rows g.0 y) + 0 ≡ count_status test rows + 1 = rw (off, on) at n in
    omega (arith, kept.all, n', most, same)

-- Whether somebody is listed

pub any_counted : {X : Type 0} (p : X → Bool) (xs : List X) → list_any p xs ≡ nat_lt 0 (count_by p xs)
any_counted p [] = refl
any_counted p (x ∷ xs) = by_test (p x) refl (any_counted p xs)
  where
    by_test : (b : Bool) → p x ≡ b → list_any p xs ≡ nat_lt 0 (count_by p xs) → list_any p (x ∷ xs) ≡ nat_lt 0 (count_by p (x ∷ xs))
    by_test true is below =
        let n = sum_by-cons (λ z. tally (p z)) x xs in
        let one : count_by p (x ∷ xs) ≡ 1 + count_by p xs = n ∙ ap (λ (b : Bool). tally b + count_by p xs) is in
        let some : nat_lt 0 (1 + count_by p xs) ≡ true = grind (arith, nat_tests) in
        ap (λ (b : Bool). b || list_any p xs) is ∙ sym (ap (nat_lt 0) one ∙ some)
    by_test false is below =
        let n = sum_by-cons (λ z. tally (p z)) x xs in
        let same : count_by p (x ∷ xs) ≡ count_by p xs = n ∙ (ap (λ (b : Bool). tally b + count_by p xs) is ∙ zero-add (count_by p xs)) in
        ap (λ (b : Bool). b || list_any p xs) is ∙ (below ∙ ap (nat_lt 0) (sym same))

-- some row passes the test where the list isn't empty
pub some_listed : (test : Status → Bool) (rows : List Goroutine) (list : List GNo) → IsListing test rows list
    → list_any (λ (x : Goroutine). test x.status) rows ≡ nat_lt 0 (length list)
some_listed test rows list kept = any_counted (λ (x : Goroutine). test x.status) rows ∙ ap (nat_lt 0) (sym kept.all)

-- Lists of nobody

-- where nothing is listed, no row passes the test
pub nobody_passes : (test : Status → Bool) (rows : List Goroutine) (i : ℕ) → IsListing test rows [] → passes_at test rows i ≡ false
nobody_passes test rows i kept = by_test (passes_at test rows i) refl
  where
    by_test : (b : Bool) → passes_at test rows i ≡ b → b ≡ false
    by_test false is = refl
    by_test true is = absurd (let n : 0 ≡ tally true = rw is at (kept.each i) in omega (arith, n))

-- a test that a dormant goroutine fails is failed by as many as there are
pub dormant_none : (p : Goroutine → Bool) (n : ℕ) → p dormant ≡ false → count_by p (replicate n dormant) ≡ 0
dormant_none p zero e = refl
dormant_none p (suc n) e =
    let m = sum_by-cons (λ z. tally (p z)) dormant (replicate n dormant) in
    m ∙ (ap (λ (b : Bool). tally b + count_by p (replicate n dormant)) e ∙ (zero-add (count_by p (replicate n dormant)) ∙ dormant_none p n e))

dormant_fails : (test : Status → Bool) (n i : ℕ) → test dormant.status ≡ false → passes_at test (replicate n dormant) i ≡ false
dormant_fails test zero i e = refl
dormant_fails test (suc n) zero e = e
dormant_fails test (suc n) (suc i) e = dormant_fails test n i e

pub dormant_listing : (test : Status → Bool) (n : ℕ) → test dormant.status ≡ false → IsListing test (replicate n dormant) []
dormant_listing test n e = record {
  all = sym (dormant_none (λ (x : Goroutine). test x.status) n e);
  each = λ i. rw (dormant_fails test n i e) refl;
}

-- a row that fails the test before rows that do
pub cons_listing : (test : Status → Bool) (x : Goroutine) (rows : List Goroutine) → test x.status ≡ false → IsListing test rows [] → IsListing test (x ∷ rows) []
cons_listing test x rows off kept =
    let n = sum_by-cons (λ (z : Goroutine). tally (test z.status)) x rows in
    let none : tally (test x.status) ≡ 0 = rw off refl in
    record { all = omega (arith, n, none, kept.all); each = at_place }
  where
    at_place : (i : ℕ) → 0 ≡ tally (passes_at test (x ∷ rows) i)
    at_place zero = rw off refl
    at_place (suc i) = kept.each i
