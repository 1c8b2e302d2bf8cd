use Rattle.std.proofs.Common.{rules}
use Rattle.gmp_driver.proofs.driver.Driver.has_to_claim.Goals as goal

pub returns : goal.returns
returns g c = search rules
