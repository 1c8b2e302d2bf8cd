use Rattle.std.proofs.Common.{rules}
use Rattle.gmp_journal.proofs.journal.Journal.call.Goals as goal

pub returns-clause-refused : goal.returns-clause-refused
returns-clause-refused c = search rules

pub returns-in-Some-clause-err : goal.returns-in-Some-clause-err
returns-in-Some-clause-err c = search rules
