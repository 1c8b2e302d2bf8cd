use Rattle.std.proofs.Common.{◌≡◌, map, take}
use Rattle.gmp_said.specs.Said.{unheard}
use Rattle.gmp_follow.proofs.bodies.Bodies.of.Given as goal

-- those of the bodies before the index
abbrev pub invariant-loop-body : goal.invariant-loop-body
invariant-loop-body l = l.list.items ≡ map unheard (take l.body-index l.script)
