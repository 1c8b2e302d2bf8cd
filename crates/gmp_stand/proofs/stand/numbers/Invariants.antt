use Rattle.std.proofs.Common.{◌≡◌}
use Rattle.gmp_stand.specs.Standing.{numbers}
use Rattle.gmp_stand.proofs.stand.numbers.Given as goal

-- the numbers so far
abbrev pub invariant-loop-g : goal.invariant-loop-g
invariant-loop-g l = l.all.items ≡ numbers l.g
