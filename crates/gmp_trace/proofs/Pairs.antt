-- The table of two digits.
use Rattle.std.proofs.Common.{◌≡◌, ℕ, zero, suc, ◌+◌, ◌-◌, ◌*◌, ◌/◌, ◌%◌, ◌<◌, Bool, true, ◌&&◌, T, eqb, get_or, inl, inr, arith, eq-zero-or-pos, eqb→eq}
use lib.Ieee.Fits.{and_l, and_r}
use Rattle.gmp_trace.specs.declared.digits.TheConstants.{PAIRS}

abbrev are_pairs : ℕ → Bool
are_pairs zero = true
are_pairs (suc n) = (eqb (get_or PAIRS (n * 2) 0) (48 + n / 10) && eqb (get_or PAIRS (n * 2 + 1) 0) (48 + n % 10)) && are_pairs n

below : (n k : ℕ) → T (are_pairs k) → n < k → (get_or PAIRS (n * 2) 0 ≡ 48 + n / 10) × (get_or PAIRS (n * 2 + 1) 0 ≡ 48 + n % 10)
below n zero t h = absurd (omega arith)
below n (suc k) t h =
    elim (eq-zero-or-pos (k - n)) [
      | inl z ↦ let e : n ≡ k = omega arith in let a = and_l _ (are_pairs k) t in rw e (eqb→eq _ _ (and_l _ _ a), eqb→eq _ _ (and_r _ _ a))
      | inr g ↦ below n k (and_r _ (are_pairs k) t) (omega arith)
    ]

pub PAIRS_at : (n : ℕ) → n < 100 → (get_or PAIRS (n * 2) 0 ≡ 48 + n / 10) × (get_or PAIRS (n * 2 + 1) 0 ≡ 48 + n % 10)
PAIRS_at n h = below n 100 tt h
