-- Runs of `step` in which memory is refused for no make.
use Rattle.std.specs.Prelude.{ℕ, zero, suc}
use Rattle.gmp_cli.specs.Plays.{Plays, Stage}
use Rattle.gmp_step_laws.specs.Scheduled.{IsUnmade}

-- memory is refused for no make of these acts
abbrev pub MakesAll : (word n : ℕ) (s s' : Stage) → Plays word n s s' → Type 0
MakesAll word zero s s' plays = Unit {0}
MakesAll word (suc n) s s' plays = MakesAll word n s plays.0 plays.1 × (¬ (IsUnmade plays.0.core.system plays.2.m s'.core.system))
