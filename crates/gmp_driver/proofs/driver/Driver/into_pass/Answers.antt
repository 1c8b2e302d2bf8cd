use Rattle.std.proofs.Common.{rules}
use Rattle.gmp_driver.proofs.driver.Driver.into_pass.Goals as goal

pub returns : goal.returns
returns g c = search rules
