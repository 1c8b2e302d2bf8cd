-- A set of small numbers that grows by number, as bits.
use Rattle.std.proofs.Common.{◌≡◌, ℕ, ◌+◌, ◌*◌, ◌%◌, ◌<◌, ◌≤◌, ◌^◌, Bool, true, false, bit_or, w64, sym, subst, ◌∙◌, inl, inr, arith}
use Rattle.std.specs.Prelude.{◌≢◌, ◌↔◌}
use Rattle.std.specs.Int.{bit_at}
use Rattle.std.proofs.lemmas.Bool.{cases_lt}
use Rattle.std.proofs.lemmas.Nat.Bits.{bit_at-zero, bit_at_set_other, bit_at_set_same}

-- the bits of the numbers below this one say which pass the test, and no later one is set
pub record AreBits (test : ℕ → Bool) (set m : ℕ) : Type 0 where
  pub below : (i : ℕ) → i < m → (bit_at set i ≡ 1) ↔ (test i ≡ true)
  pub above : (i : ℕ) → m ≤ i → bit_at set i ≡ 0

pub no_bits : (test : ℕ → Bool) → AreBits test 0 0
no_bits test = record { below = λ i before. (let none : ⊥ = omega (arith, before) in elim none [ ]); above = λ i above. bit_at-zero i }

module _ (test : ℕ → Bool) (set m : ℕ) (within : m < 64) (are : AreBits test set m) where
  pub one_on : test m ≡ true → AreBits test (bit_or set (1 * 2 ^ m % 2 ^ 64)) (m + 1)
  one_on passes = record { below = below; above = λ i above. other i (omega (arith, above)) ∙ are.above i (omega (arith, above)) } where
    other : (i : ℕ) → i ≢ m → bit_at (bit_or set (1 * 2 ^ m % 2 ^ 64)) i ≡ bit_at set i
    other i ne = bit_at_set_other w64 set m within i ne

    below : (i : ℕ) → i < m + 1 → (bit_at (bit_or set (1 * 2 ^ m % 2 ^ 64)) i ≡ 1) ↔ (test i ≡ true)
    below i less = elim (cases_lt i m) [
      | inl before ↦
          let same = other i (omega (arith, before)) in
          (λ is. (are.below i before).0 (sym same ∙ is), λ is. same ∙ (are.below i before).1 is)
      | inr behind ↦
          let here : m ≡ i = omega (arith, behind, less) in
          subst (λ (j : ℕ). (bit_at (bit_or set (1 * 2 ^ m % 2 ^ 64)) j ≡ 1) ↔ (test j ≡ true)) here (λ is. passes, λ is. bit_at_set_same w64 set m within)
    ]

  pub one_off : test m ≡ false → AreBits test set (m + 1)
  one_off fails = record { below = below; above = λ i above. are.above i (omega (arith, above)) } where
    below : (i : ℕ) → i < m + 1 → (bit_at set i ≡ 1) ↔ (test i ≡ true)
    below i less = elim (cases_lt i m) [
      | inl before ↦ are.below i before
      | inr behind ↦
          let here : m ≡ i = omega (arith, behind, less) in
          subst (λ (j : ℕ). (bit_at set j ≡ 1) ↔ (test j ≡ true)) here
          (λ is. (let zero_is = are.above m (omega arith) in let no : ⊥ = omega (arith, is, zero_is) in elim no [ ]), λ is. (let no : true ≡ false = sym is ∙ fails in cc))
    ]
