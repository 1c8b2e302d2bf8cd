use Rattle.std.proofs.Common.{rules}
use Rattle.gmp_table.proofs.table.StatusTable.arrivals.Goals as goal

pub returns : goal.returns
returns c = search rules
