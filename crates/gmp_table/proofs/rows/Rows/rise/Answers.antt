use Rattle.std.proofs.Common.{rules}
use Rattle.gmp_table.proofs.rows.Rows.rise.Goals as goal

pub returns-clause-epoch : goal.returns-clause-epoch
returns-clause-epoch c = search rules

pub returns-clause-rows : goal.returns-clause-rows
returns-clause-rows c = search rules
