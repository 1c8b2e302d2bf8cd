use Rattle.gmp_journal.proofs.Common.{rules}
use Rattle.gmp_journal.proofs.scheduler.Scheduler.leave.Goals as goal

pub returns-in-None-clause-leaves : goal.returns-in-None-clause-leaves
returns-in-None-clause-leaves c = ((search rules, search rules), c.in-None.ensures.shelved c.come_back.result, search rules)
