use Rattle.std.proofs.Common.{arith}
use Rattle.std.proofs.lemmas.Bool.Decides.{nat_tests}
use Rattle.gmp_script.proofs.lines.value.Goals as goal

pub returns-then-word-gt20 : goal.returns-then-word-gt20
returns-then-word-gt20 c = grind (arith, nat_tests)

pub returns : goal.returns
returns c = grind (arith, nat_tests)
