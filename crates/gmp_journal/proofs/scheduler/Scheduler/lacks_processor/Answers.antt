use Rattle.std.proofs.Common.{rules}
use Rattle.gmp_journal.proofs.scheduler.Scheduler.lacks_processor.Goals as goal

pub returns-in-Claim : goal.returns-in-Claim
returns-in-Claim c = search rules
