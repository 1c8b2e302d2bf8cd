use Rattle.std.proofs.Common.{arith}
use Rattle.std.proofs.lemmas.Grind.{elements}
use Rattle.gmp_check.proofs.machines.Machines.is_parked.Goals as goal

pub returns-in-Some-Parked : goal.returns-in-Some-Parked
returns-in-Some-Parked c = grind (arith, elements)

pub returns-in_default : goal.returns-in_default
returns-in_default c = grind (arith, elements)

pub returns-in_default-2 : goal.returns-in_default-2
returns-in_default-2 c = grind (arith, elements)
