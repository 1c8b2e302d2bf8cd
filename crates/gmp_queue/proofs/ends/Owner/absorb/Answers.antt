use Rattle.gmp_queue.proofs.Keeps.{merges}
use Rattle.gmp_queue.proofs.ends.Owner.absorb.Goals as goal

pub absorb-requires-clause-rule : goal.absorb-requires-clause-rule
absorb-requires-clause-rule c = merges _ _ _ _ c.args.self.now.has_part
