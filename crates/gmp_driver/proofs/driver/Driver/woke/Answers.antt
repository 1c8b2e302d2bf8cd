use Rattle.std.proofs.Common.{rules}
use Rattle.gmp_driver.proofs.driver.Driver.woke.Goals as goal

pub returns-in-Run-Some : goal.returns-in-Run-Some
returns-in-Run-Some g c = search rules
