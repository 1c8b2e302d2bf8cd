use Rattle.std.proofs.Common.{rules, subst}
use Rattle.gmp_journal.specs.Segments.{IsPart}
use Rattle.gmp_journal.proofs.journal.Journal.history.Goals as goal

pub returns-clause-entries : goal.returns-clause-entries
returns-clause-entries c = search rules

pub returns-clause-part : goal.returns-clause-part
returns-clause-part c = subst IsPart c.self.view_is c.self.invariant.0.part
