use Rattle.std.proofs.Common.{arith}
use Rattle.std.proofs.lemmas.Grind.{common_steps}
use Rattle.gmp_driver.proofs.registers.Registers.take_one.Goals as goal

pub returns-in-Some-Held-clause-taken : goal.returns-in-Some-Held-clause-taken
returns-in-Some-Held-clause-taken g c = grind (arith, common_steps)

pub returns-in-Some-Held-clause-left : goal.returns-in-Some-Held-clause-left
returns-in-Some-Held-clause-left g c = grind (arith, common_steps)

pub returns-in-Some-Called-clause-taken : goal.returns-in-Some-Called-clause-taken
returns-in-Some-Called-clause-taken g c = grind (arith, common_steps)

pub returns-in-Some-Called-clause-left : goal.returns-in-Some-Called-clause-left
returns-in-Some-Called-clause-left g c = grind (arith, common_steps)

pub returns-in-Some-ToClaim-clause-taken : goal.returns-in-Some-ToClaim-clause-taken
returns-in-Some-ToClaim-clause-taken g c = grind (arith, common_steps)

pub returns-in-Some-ToClaim-clause-left : goal.returns-in-Some-ToClaim-clause-left
returns-in-Some-ToClaim-clause-left g c = grind (arith, common_steps)

pub returns-in-Some-ToStore-clause-taken : goal.returns-in-Some-ToStore-clause-taken
returns-in-Some-ToStore-clause-taken g c = grind (arith, common_steps)

pub returns-in-Some-ToStore-clause-left : goal.returns-in-Some-ToStore-clause-left
returns-in-Some-ToStore-clause-left g c = grind (arith, common_steps)

pub returns-in-Some-Proc-clause-taken : goal.returns-in-Some-Proc-clause-taken
returns-in-Some-Proc-clause-taken g c = grind (arith, common_steps)

pub returns-in-Some-Proc-clause-left : goal.returns-in-Some-Proc-clause-left
returns-in-Some-Proc-clause-left g c = grind (arith, common_steps)

pub returns-in-None-clause-taken : goal.returns-in-None-clause-taken
returns-in-None-clause-taken g c = grind (arith, common_steps)

pub returns-in-None-clause-left : goal.returns-in-None-clause-left
returns-in-None-clause-left g c = grind (arith, common_steps)
