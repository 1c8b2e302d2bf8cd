use Rattle.gmp_driver.proofs.Uses.{uses}
use Rattle.gmp_driver.proofs.laws.calls_find_what_they_use.Goals as goal

pub returns : goal.returns
returns g c = uses
