use Rattle.std.proofs.Common.{rules}
use Rattle.gmp_journal.proofs.scheduler.Scheduler.count_one.Goals as goal

pub returns-clause-counted : goal.returns-clause-counted
returns-clause-counted c = search rules
