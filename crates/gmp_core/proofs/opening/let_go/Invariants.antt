use Rattle.std.proofs.Common.{All, IsSome, length}
use Rattle.gmp_core.proofs.opening.let_go.Given as goal

-- those that are left have their passes
abbrev pub invariant-loop-driver : goal.invariant-loop-driver
invariant-loop-driver g l = All (λ x. IsSome x.pass) l.drivers.items

abbrev pub decreases-loop-driver : goal.decreases-loop-driver
decreases-loop-driver g l = length l.drivers.items
