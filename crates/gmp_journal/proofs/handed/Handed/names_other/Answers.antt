use Rattle.std.proofs.Common.{rules}
use Rattle.gmp_journal.proofs.handed.Handed.names_other.Goals as goal

pub returns-else-is_some_and-3 : goal.returns-else-is_some_and-3
returns-else-is_some_and-3 c = search rules
