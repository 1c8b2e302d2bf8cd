use Rattle.std.proofs.Common.{rules}
use Rattle.gmp_table.proofs.table.StatusTable.is_outstanding.Goals as goal

pub returns-in-Some-Ready : goal.returns-in-Some-Ready
returns-in-Some-Ready c = search rules
