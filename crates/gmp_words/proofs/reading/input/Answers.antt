use Rattle.std.proofs.Common.{arith}
use Rattle.std.proofs.lemmas.Grind.{common_steps}
use Rattle.gmp_words.proofs.reading.input.Goals as goal

pub reads-preserved : goal.reads-preserved
reads-preserved g c = grind (arith, common_steps)

pub returns-then-n-most-clause-too_long : goal.returns-then-n-most-clause-too_long
returns-then-n-most-clause-too_long g c = grind (arith, common_steps)
