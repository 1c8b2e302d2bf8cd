use Rattle.std.proofs.Common.{subst}
use Rattle.gmp_base.specs.declared.cases.Case.{Case}
use Rattle.gmp_seq.specs.declared.status.Transfer.TheVariants.{Relayed}
use Rattle.gmp_goroutines.specs.Served.{IsWayOf}
use Rattle.gmp_goroutines.proofs.goroutines.communicating.take_over.Goals as goal

pub unreachable-requires : goal.unreachable-requires
unreachable-requires c = subst (λ (x : Case). IsWayOf x (Relayed 0 c.args.w.now)) c.in_default.is (c.requires.way 0)
