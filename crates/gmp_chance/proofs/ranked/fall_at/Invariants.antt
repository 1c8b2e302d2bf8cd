use Rattle.std.proofs.Common.{◌≡◌, ◌<◌, ℕ, Some, slice_get}
use Rattle.gmp_chance.proofs.ranked.fall_at.Given as goal

-- none so far is at this step
abbrev pub invariant-loop-fall : goal.invariant-loop-fall
invariant-loop-fall l = (i : ℕ) → i < l.fall → slice_get l.falls i ≡ Some l.step → ⊥
