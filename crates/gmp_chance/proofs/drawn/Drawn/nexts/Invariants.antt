use Rattle.std.proofs.Common.{◌≡◌, map, take}
use Rattle.gmp_chance.specs.Drawn.{next_of}
use Rattle.gmp_chance.proofs.drawn.Drawn.nexts.Given as goal

-- the machines so far
abbrev pub invariant-loop-m : goal.invariant-loop-m
invariant-loop-m g l = l.nexts.items ≡ map (next_of l.self.core.system) (take l.m-index l.awake)
