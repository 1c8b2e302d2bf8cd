use Rattle.std.proofs.Common.{rules}
use Rattle.gmp_driver.proofs.hunt.victim.Goals as goal

pub returns : goal.returns
returns c = search rules
