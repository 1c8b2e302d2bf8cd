use Rattle.std.proofs.Common.{inr}
use Rattle.gmp_check.proofs.Consistency.{alone_held, consistent_young}
use Rattle.gmp_check.proofs.state.State.leave.Goals as goal

pub next-requires : goal.next-requires
next-requires c = consistent_young c.args.self.now _ c.self.view_is c.requires.consistent c.args.g

pub make_ready-requires : goal.make_ready-requires
make_ready-requires c = consistent_young c.args.self.now _ c.self.view_is c.requires.consistent c.args.g

pub set_status-requires : goal.set_status-requires
set_status-requires c = alone_held c.args.self.now _ c.self.view_is c.requires.consistent c.args.m c.args.g (inr c.requires.calls)
