use Rattle.std.proofs.Common.{rules}
use Rattle.gmp_table.proofs.table.StatusTable.advance_clock.Goals as goal

pub returns-clause-shown : goal.returns-clause-shown
returns-clause-shown c = search rules
