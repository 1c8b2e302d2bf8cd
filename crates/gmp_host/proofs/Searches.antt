-- A search for the shortest run, one seed more.
use Rattle.std.proofs.Common.{◌≡◌, ◌≤◌, ◌+◌, ◌⊎◌, ℕ, Option, None, Some, Result, Ok, inl, inr, arith, subst, sym}
use Rattle.std.proofs.lemmas.Bool.{cases_lt}
use Rattle.gmp_host.specs.declared.ending.Ended.{Ended}
use Rattle.gmp_host.specs.declared.ending.Short.{Short}
use Rattle.gmp_host.specs.declared.searching.Found.{Found}
use Rattle.gmp_host.specs.Search.{AreWell, AreWellOrLong, Compares, IsKept, IsLonger, IsNoLonger, IsWell}

module _ (runs : ℕ → Result Ended Short → Type 0) (begin seed : ℕ) (ended : Ended) (ran : runs seed (Ok ended)) where
  abbrev RanSo : ℕ → (Ended → Type 0) → Type 0
  RanSo s So = (e : Ended) × runs s (Ok e) × So e

  abbrev LongSo : ℕ → Ended → Type 0
  LongSo entries e = IsWell e ⊎ (entries ≤ e.entries)

  one_well : IsWell ended → AreWell runs begin seed → AreWell runs begin (seed + 1)
  one_well well are s from below = elim (cases_lt s seed) [
    | inl before ↦ are s from before
    | inr behind ↦ (let here : seed ≡ s = omega (arith, behind, below) in subst (λ (x : ℕ). RanSo x IsWell) here (ended, ran, well))
  ]

  one_long : (entries from : ℕ) → LongSo entries ended → AreWellOrLong runs entries from seed → AreWellOrLong runs entries from (seed + 1)
  one_long entries from long are s after below = elim (cases_lt s seed) [
    | inl before ↦ are s after before
    | inr behind ↦ (let here : seed ≡ s = omega (arith, behind, below) in subst (λ (x : ℕ). RanSo x (LongSo entries)) here (ended, ran, long))
  ]

  shorter : (few more : ℕ) (e : Ended) → few ≤ more → LongSo more e → LongSo few e
  shorter few more e less (inl well) = inl well
  shorter few more e less (inr long) = inr (omega (arith, less, long))

  -- it ended well, or is no shorter
  stays : (least : Option Found) → IsWell ended ⊎ IsNoLonger least ended → Compares runs begin seed least → Compares runs begin (seed + 1) least
  stays None (inl well) are = one_well well are
  stays None (inr none) are = absurd none
  stays (Some found) long f = record {
    there = (f.there.0, (let below = f.there.1 in omega (arith, below)));
    ran = f.ran;
    ill = f.ill;
    before = f.before;
    behind = one_long found.ended.entries found.seed long f.behind;
  }

  -- it did not end well, and is shorter than all before
  takes : begin ≤ seed → ¬ (IsWell ended) → (least : Option Found) → IsLonger least ended → Compares runs begin seed least → Compares runs begin (seed + 1) (Some (record { seed = seed; ended = ended }))
  takes from ill least less are = record {
    there = (from, omega arith);
    ran = ran;
    ill = ill;
    before = before least less are;
    behind = λ s after below. let here : seed ≡ s = omega (arith, after, below) in subst (λ (x : ℕ). RanSo x (LongSo ended.entries)) here (ended, ran, inr (omega arith));
  } where
    before : (least : Option Found) → IsLonger least ended → Compares runs begin seed least → AreWellOrLong runs (ended.entries + 1) begin seed
    before None less are s after below = let it = are s after below in (it.0, it.1, inl it.2)
    before (Some found) less f s after below = elim (cases_lt s found.seed) [
      | inl earlier ↦ (let it = f.before s after earlier in (it.0, it.1, shorter (ended.entries + 1) (found.ended.entries + 1) it.0 (omega (arith, less)) it.2))
      | inr later ↦ (let it = f.behind s (omega (arith, later)) below in (it.0, it.1, shorter (ended.entries + 1) found.ended.entries it.0 (omega (arith, less)) it.2))
    ]

  pub one_more : begin ≤ seed → (least kept : Option Found) → IsKept least (record { seed = seed; ended = ended }) kept → Compares runs begin seed least → Compares runs begin (seed + 1) kept
  one_more from least kept (inl (same, how)) are = subst (Compares runs begin (seed + 1)) (sym same) (stays least how are)
  one_more from least kept (inr (new, ill, less)) are = subst (Compares runs begin (seed + 1)) (sym new) (takes from ill least less are)

-- up to here they are all
pub all_of : (runs : ℕ → Result Ended Short → Type 0) (begin seed end : ℕ) (least : Option Found) → (seed ≤ end) ⊎ (seed ≡ begin) → end ≤ seed → Compares runs begin seed least → Compares runs begin end least
all_of runs begin seed end None within over are = λ s from below. are s from (omega (arith, below, over))
all_of runs begin seed end (Some found) within over f = record {
  there = (f.there.0, (let here = same within in let below = f.there.1 in omega (arith, here, below)));
  ran = f.ran;
  ill = f.ill;
  before = f.before;
  behind = λ s after below. f.behind s after (omega (arith, below, over));
} where
  same : (seed ≤ end) ⊎ (seed ≡ begin) → seed ≡ end
  same (inl up) = omega (arith, up, over)
  same (inr first) = (let from = f.there.0 in let below = f.there.1 in absurd (omega (arith, first, from, below)))
