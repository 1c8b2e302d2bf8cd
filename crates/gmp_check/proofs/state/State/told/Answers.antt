use Rattle.gmp_check.proofs.Consistency.{consistent_young}
use Rattle.gmp_check.proofs.state.State.told.Goals as goal

pub next-requires : goal.next-requires
next-requires c = consistent_young c.args.self.now _ c.self.view_is c.requires c.in-Handed.w.g

pub next-sender-requires : goal.next-sender-requires
next-sender-requires c = consistent_young c.args.self.now _ c.self.view_is c.requires c.in-Relayed.w.g
