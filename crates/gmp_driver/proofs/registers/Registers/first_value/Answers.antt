use Rattle.std.proofs.Common.{rules}
use Rattle.gmp_driver.proofs.registers.Registers.first_value.Goals as goal

pub returns-then-is_some-5 : goal.returns-then-is_some-5
returns-then-is_some-5 g c = search rules

pub returns-else-is_some-5 : goal.returns-else-is_some-5
returns-else-is_some-5 g c = search rules
