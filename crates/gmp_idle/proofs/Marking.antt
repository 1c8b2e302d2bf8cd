-- A table, and for each of its elements a flag that says whether it passes a test.
use Rattle.std.proofs.Common.{◌≡◌, ℕ, zero, suc, ◌+◌, ◌≤◌, Bool, true, false, not, cond, ◌||◌, Option, Some, None, List, [], ◌∷◌, length, map, replicate, set, refl, sym, ap, ◌∙◌, arith}
use Rattle.std.specs.Prelude.{nat_lt, slice_get, take}
use Rattle.std.specs.Option.{option_map}
use Rattle.std.specs.List.{list_any, position, position_from, position_or_len, prefix_len}
use Rattle.std.proofs.lemmas.Iterator.Adapters.{position_from-zero}
use Rattle.std.proofs.lemmas.Bool.{false≢true, le-ltb, lt-ltb}
use Rattle.std.proofs.lemmas.List.{length-map, map-set}
use Rattle.std.proofs.lemmas.Option.{slice_get-map}
use Rattle.gmp_seq.specs.declared.status.Mode.{Mode}
use Rattle.gmp_seq.specs.declared.status.Mode.TheVariants.{Awake, Calling, Parked}
use Rattle.gmp_seq.specs.Machines.{is_parked_mode}

pub not-not : (b : Bool) → not (not b) ≡ b
not-not true = refl
not-not false = refl

module _ {X : Type 0} (p : X → Bool) where
  prefix_len-map : (xs : List X) → prefix_len (λ b. not b) (map p xs) ≡ prefix_len (λ x. not (p x)) xs
  prefix_len-map [] = refl
  prefix_len-map (x ∷ xs) = ap (λ n. cond (not (p x)) (1 + n) 0) (prefix_len-map xs)

  place : ℕ → ℕ → Option ℕ
  place i n = cond (nat_lt i n) (Some i) None

  -- the first flag that is true is that of the first element that passes
  pub position-map : (xs : List X) → position (λ b. b) (map p xs) ≡ position p xs
  unfolding place
  position-map xs = ap (λ i. place i (length (map p xs))) (prefix_len-map xs) ∙ ap (place (position_or_len p xs)) (length-map xs p)

  pub list_any-map : (xs : List X) → list_any (λ b. b) (map p xs) ≡ list_any p xs
  list_any-map [] = refl
  list_any-map (x ∷ xs) = ap (λ (b : Bool). p x || b) (list_any-map xs)

  pub map-replicate : (n : ℕ) (x : X) → replicate n (p x) ≡ map p (replicate n x)
  map-replicate zero x = refl
  map-replicate (suc n) x = ap (λ l. p x ∷ l) (map-replicate n x)

  -- a change of one element, and of its flag
  pub marked : (flags : List Bool) (xs : List X) (i : ℕ) (x : X) → flags ≡ map p xs → set flags i (p x) ≡ map p (set xs i x)
  marked flags xs i x is = ap (λ l. set l i (p x)) is ∙ sym (map-set p xs i x)

  -- the first flag that is true, of a table's flags
  pub first_place : (flags : List Bool) (xs : List X) {r : Option ℕ} → flags ≡ map p xs → position (λ b. b) flags ≡ r → position p xs ≡ r
  first_place flags xs is e = sym (position-map xs) ∙ (ap (position (λ b. b)) (sym is) ∙ e)

  from_none : (xs : List X) (k : ℕ) → position_from p k xs ≡ None → list_any p xs ≡ false
  from_none [] k e = refl
  from_none (x ∷ xs) k e = by_test (p x) refl e (from_none xs (k + 1))
    where
      by_test : (b : Bool) → p x ≡ b → cond b (Some k) (position_from p (k + 1) xs) ≡ None → (position_from p (k + 1) xs ≡ None → list_any p xs ≡ false)
          → list_any p (x ∷ xs) ≡ false
      by_test true is e' below = absurd cc
      by_test false is e' below = ap (λ (b : Bool). b || list_any p xs) is ∙ below e'

  -- the first that passes is at k or above, where k is the number of the first
  not_below : (xs : List X) (k j : ℕ) → position_from p k xs ≡ Some j → k ≤ j
  not_below [] k j e = absurd cc
  not_below (x ∷ xs) k j e = by_test (p x) e (not_below xs (k + 1) j)
    where
      by_test : (b : Bool) → cond b (Some k) (position_from p (k + 1) xs) ≡ Some j → (position_from p (k + 1) xs ≡ Some j → k + 1 ≤ j) → k ≤ j
      by_test true e' below =
          let same : k ≡ j = cc in
          omega arith
      by_test false e' below =
          let above = below e' in
          omega arith

  from_first : (xs : List X) (n k j : ℕ) → position_from p k xs ≡ Some j → list_any p (take n xs) ≡ nat_lt j (k + n)
  from_first [] n k j e = absurd cc
  from_first (x ∷ xs) zero k j e =
      let above = not_below (x ∷ xs) k j e in
      sym (le-ltb j (k + zero) (omega arith))
  from_first (x ∷ xs) (suc n) k j e = by_test (p x) refl e (from_first xs n (k + 1) j)
    where
      by_test : (b : Bool) → p x ≡ b → cond b (Some k) (position_from p (k + 1) xs) ≡ Some j
          → (position_from p (k + 1) xs ≡ Some j → list_any p (take n xs) ≡ nat_lt j (k + 1 + n)) → list_any p (x ∷ take n xs) ≡ nat_lt j (k + suc n)
      by_test true is e' below =
          let same : k ≡ j = cc in
          ap (λ (b : Bool). b || list_any p (take n xs)) is ∙ sym (lt-ltb j (k + suc n) (omega arith))
      by_test false is e' below =
          let sum : k + 1 + n ≡ k + suc n = omega arith in
          ap (λ (b : Bool). b || list_any p (take n xs)) is ∙ (below e' ∙ ap (nat_lt j) sum)

  -- one of the first n passes exactly where the first that passes is below n
  pub first_below : (xs : List X) (n j : ℕ) → position p xs ≡ Some j → list_any p (take n xs) ≡ nat_lt j n
  first_below xs n j e =
      let sum : 0 + n ≡ n = omega arith in
      from_first xs n 0 j (sym (position_from-zero p xs) ∙ e) ∙ ap (nat_lt j) sum

  -- where none passes, none of the first n does
  pub none_below : (xs : List X) (n : ℕ) → list_any p xs ≡ false → list_any p (take n xs) ≡ false
  none_below [] zero e = refl
  none_below [] (suc n) e = refl
  none_below (x ∷ xs) zero e = refl
  none_below (x ∷ xs) (suc n) e = by_test (p x) refl e (none_below xs n)
    where
      by_test : (b : Bool) → p x ≡ b → (b || list_any p xs) ≡ false → (list_any p xs ≡ false → list_any p (take n xs) ≡ false) → (p x || list_any p (take n xs)) ≡ false
      by_test true is e' below = absurd cc
      by_test false is e' below = ap (λ (b : Bool). b || list_any p (take n xs)) is ∙ below e'

  -- where there is no first, there is none
  pub none_passes : (xs : List X) → position p xs ≡ None → list_any p xs ≡ false
  none_passes xs e = from_none xs 0 (sym (position_from-zero p xs) ∙ e)

  -- where some passes, there is a first
  pub some_first : (xs : List X) → list_any p xs ≡ true → (i : ℕ) × (position p xs ≡ Some i)
  some_first xs e = by_place (position p xs) refl
    where
      by_place : (r : Option ℕ) → position p xs ≡ r → (i : ℕ) × (position p xs ≡ Some i)
      by_place (Some i) is = (i, is)
      by_place None is = absurd (false≢true (sym (none_passes xs is) ∙ e))

-- The parked machines

parked_by : (mode : Option Mode) → option_map is_parked_mode mode ≡ Some true → mode ≡ Some Parked
parked_by None e = absurd cc
parked_by (Some Parked) e = refl
parked_by (Some Awake) e = absurd cc
parked_by (Some Calling) e = absurd cc

-- a machine is parked where its flag is true
pub parked_at : (modes : List Mode) (n : ℕ) → slice_get (map is_parked_mode modes) n ≡ Some true → slice_get modes n ≡ Some Parked
parked_at modes n flag = parked_by (slice_get modes n) (sym (slice_get-map is_parked_mode modes n) ∙ flag)

pub flag_at_parked : (modes : List Mode) (n : ℕ) → slice_get modes n ≡ Some Parked → slice_get (map is_parked_mode modes) n ≡ Some true
flag_at_parked modes n is = slice_get-map is_parked_mode modes n ∙ ap (option_map is_parked_mode) is
