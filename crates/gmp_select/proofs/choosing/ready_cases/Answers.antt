use Rattle.std.proofs.Common.{arith}
use Rattle.std.proofs.lemmas.Grind.{elements}
use Rattle.gmp_select.proofs.choosing.ready_cases.Goals as goal

pub loop-case-preserved : goal.loop-case-preserved
loop-case-preserved c = grind (arith, elements)

pub returns : goal.returns
returns c = grind (arith, elements)
