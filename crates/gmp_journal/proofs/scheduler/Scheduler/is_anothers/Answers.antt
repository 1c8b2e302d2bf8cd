use Rattle.std.proofs.Common.{rules}
use Rattle.gmp_journal.proofs.scheduler.Scheduler.is_anothers.Goals as goal

pub returns-then-is_some_and-2 : goal.returns-then-is_some_and-2
returns-then-is_some_and-2 c = search rules

pub returns-else-is_some_and-2 : goal.returns-else-is_some_and-2
returns-else-is_some_and-2 c = search rules
