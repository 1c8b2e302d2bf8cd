use Rattle.std.proofs.Common.{rules}
use Rattle.gmp_queue.proofs.Keeps.{puts}
use Rattle.gmp_queue.proofs.ends.Owner.push.Goals as goal

pub push_as-requires-clause-pushes : goal.push_as-requires-clause-pushes
push_as-requires-clause-pushes c = puts _ _ _ c.args.self.now.owns c.args.self.now.has_part

pub returns-in-Ok-clause-step : goal.returns-in-Ok-clause-step
returns-in-Ok-clause-step c = search rules
