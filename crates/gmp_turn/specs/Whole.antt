-- Runs whose history is kept whole.
use Rattle.std.specs.Prelude.{◌≡◌, ℕ, List}
use Rattle.gmp_seq.specs.declared.call.Limits.{Limits}
use Rattle.gmp_seq.specs.Fits.{AreLimits}

-- the limits of a run are in range, and there is room for all its entries
abbrev pub IsWholeRun : Limits → ℕ → List ℕ → Type 0
IsWholeRun limits bodies capacities = AreLimits limits bodies capacities × (limits.room ≡ limits.entries)
