use Rattle.std.proofs.Common.{rules}
use Rattle.gmp_core.proofs.queues.take_first.Goals as goal

pub returns-clause-rest : goal.returns-clause-rest
returns-clause-rest c = search rules
