use Rattle.std.proofs.Common.{rules}
use Rattle.gmp_driver.proofs.table.call_for.Goals as goal

pub returns-in-Send : goal.returns-in-Send
returns-in-Send c = search rules
