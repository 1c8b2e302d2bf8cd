use Rattle.gmp_core.specs.Stage.{parked}
use Rattle.gmp_stand.proofs.Bits.{AreBits}
use Rattle.gmp_stand.proofs.stand.Stand.parked_set.Given as goal

-- the machines so far, and no later ones
abbrev pub invariant-loop-m : goal.invariant-loop-m
invariant-loop-m l = AreBits (parked l.self-inside.core.system) l.set l.m
