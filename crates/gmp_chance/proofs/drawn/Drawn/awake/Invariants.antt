use Rattle.std.proofs.Common.{◌≡◌}
use Rattle.gmp_chance.specs.Drawn.{awake_below}
use Rattle.gmp_chance.proofs.drawn.Drawn.awake.Given as goal

-- the machines so far
abbrev pub invariant-loop-m : goal.invariant-loop-m
invariant-loop-m g l = l.awake.items ≡ awake_below l.self-inside.core.system l.m
