use Rattle.std.proofs.Common.{rules}
use Rattle.gmp_queue.proofs.Keeps.{pops, finds_none}
use Rattle.gmp_queue.proofs.ends.Owner.pop.Goals as goal

pub pop_as-requires-clause-fifo : goal.pop_as-requires-clause-fifo
pop_as-requires-clause-fifo c = λ _. pops _ _ c.args.self.now.owns c.args.self.now.has_part

pub pop_as-requires-clause-empty : goal.pop_as-requires-clause-empty
pop_as-requires-clause-empty c = finds_none _ _ c.args.self.now.owns

pub returns-clause-step : goal.returns-clause-step
returns-clause-step c = search rules
