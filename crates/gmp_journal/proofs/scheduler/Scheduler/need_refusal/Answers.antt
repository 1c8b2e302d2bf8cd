use Rattle.std.proofs.Common.{rules}
use Rattle.gmp_journal.proofs.scheduler.Scheduler.need_refusal.Goals as goal

pub returns-then-lacks_processor : goal.returns-then-lacks_processor
returns-then-lacks_processor c = search rules

pub returns-then-is_spent : goal.returns-then-is_spent
returns-then-is_spent c = search rules

pub returns-then-is_anothers : goal.returns-then-is_anothers
returns-then-is_anothers c = search rules
