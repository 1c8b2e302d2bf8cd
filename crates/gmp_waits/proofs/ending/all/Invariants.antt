use Rattle.std.proofs.Common.{◌≡◌}
use Rattle.gmp_waits.specs.Waits.{told, waits_below}
use Rattle.gmp_waits.proofs.ending.all.Given as goal

-- the goroutines so far
abbrev pub invariant-loop-g : goal.invariant-loop-g
invariant-loop-g l = told l.list.items ≡ waits_below l.rows l.g
