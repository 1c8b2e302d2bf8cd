use Rattle.std.proofs.Common.{rules}
use Rattle.gmp_driver.proofs.driver.Driver.first_victim.Goals as goal

pub returns : goal.returns
returns g c = search rules
