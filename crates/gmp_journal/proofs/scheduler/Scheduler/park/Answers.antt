use Rattle.std.proofs.Common.{rules}
use Rattle.gmp_journal.proofs.scheduler.Scheduler.park.Goals as goal

pub returns-then-not-has_astir-clause-parks : goal.returns-then-not-has_astir-clause-parks
returns-then-not-has_astir-clause-parks c = search rules

pub returns-in-Some-clause-parks : goal.returns-in-Some-clause-parks
returns-in-Some-clause-parks c = search rules

pub returns-clause-parks : goal.returns-clause-parks
returns-clause-parks c = search rules
