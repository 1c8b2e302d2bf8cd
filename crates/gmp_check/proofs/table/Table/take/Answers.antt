use Rattle.std.proofs.Common.{rules}
use Rattle.gmp_check.proofs.table.Table.take.Goals as goal

pub returns-in-Some : goal.returns-in-Some
returns-in-Some c = search rules
