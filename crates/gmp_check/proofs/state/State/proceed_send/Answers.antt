use Rattle.gmp_check.proofs.Consistency.{consistent_young}
use Rattle.gmp_check.proofs.state.State.proceed_send.Goals as goal

pub make_ready-requires : goal.make_ready-requires
make_ready-requires c = consistent_young c.args.self.now _ c.self.view_is c.requires.consistent c.in-Handed.w.g
