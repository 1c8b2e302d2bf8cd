use Rattle.std.proofs.Common.{rules}
use Rattle.gmp_queue.proofs.Keeps.{steals}
use Rattle.gmp_queue.proofs.ends.Thief.steal.Goals as goal

pub steal_as-requires-clause-takes : goal.steal_as-requires-clause-takes
steal_as-requires-clause-takes c = steals _ _ c.args.self.now.has_part

pub returns-in-Retry-clause-step : goal.returns-in-Retry-clause-step
returns-in-Retry-clause-step c = search rules

pub returns-in-Success-clause-step : goal.returns-in-Success-clause-step
returns-in-Success-clause-step c = search rules
