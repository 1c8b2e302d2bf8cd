use Rattle.gmp_check.proofs.Consistency.{consistent_arrivals}
use Rattle.gmp_check.proofs.state.State.block.Goals as goal

pub make_wait-requires : goal.make_wait-requires
make_wait-requires c = consistent_arrivals c.args.self.now _ c.self.view_is c.requires.consistent
