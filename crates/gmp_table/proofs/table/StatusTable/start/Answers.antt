use Rattle.std.proofs.Common.{rules}
use Rattle.gmp_table.proofs.table.StatusTable.start.Goals as goal

pub returns-clause-starts : goal.returns-clause-starts
returns-clause-starts c = search rules
