use Rattle.std.proofs.Common.{◌≡◌}
use Rattle.gmp_waits.specs.Lately.{runner_below}
use Rattle.gmp_waits.proofs.ending.runner.Given as goal

-- of the goroutines so far
abbrev pub invariant-loop-g : goal.invariant-loop-g
invariant-loop-g l = l.found ≡ runner_below l.m l.rows l.g
