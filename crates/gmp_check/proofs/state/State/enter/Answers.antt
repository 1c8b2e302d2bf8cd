use Rattle.std.proofs.Common.{inl}
use Rattle.gmp_check.proofs.Consistency.{alone_held}
use Rattle.gmp_check.proofs.state.State.enter.Goals as goal

pub set_status-requires : goal.set_status-requires
set_status-requires c = alone_held c.args.self.now _ c.self.view_is c.requires.consistent c.args.m c.args.g (inl c.requires.runs)
