use Rattle.std.proofs.Common.{arith}
use Rattle.std.proofs.lemmas.Grind.{common_steps}
use Rattle.gmp_driver.proofs.registers.Registers.take_back.Goals as goal

pub returns-clause-hand : goal.returns-clause-hand
returns-clause-hand g c = grind (arith, common_steps)

pub returns-clause-pass : goal.returns-clause-pass
returns-clause-pass g c = grind (arith, common_steps)
