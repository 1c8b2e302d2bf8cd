use Rattle.std.proofs.Common.{arith}
use Rattle.std.proofs.lemmas.Grind.{common_steps}
use Rattle.gmp_driver.proofs.registers.Registers.take_used.Goals as goal

pub returns-then-matches-clause-used : goal.returns-then-matches-clause-used
returns-then-matches-clause-used g c = grind (arith, common_steps)

pub returns-then-matches-clause-left : goal.returns-then-matches-clause-left
returns-then-matches-clause-left g c = grind (arith, common_steps)

pub returns-else-matches-clause-used : goal.returns-else-matches-clause-used
returns-else-matches-clause-used g c = grind (arith, common_steps)

pub returns-else-matches-clause-left : goal.returns-else-matches-clause-left
returns-else-matches-clause-left g c = grind (arith, common_steps)
