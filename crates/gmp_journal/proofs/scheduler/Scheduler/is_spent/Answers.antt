use Rattle.std.proofs.Common.{rules}
use Rattle.gmp_journal.proofs.scheduler.Scheduler.is_spent.Goals as goal

pub returns : goal.returns
returns c = search rules
