use Rattle.std.proofs.Common.{arith}
use Rattle.std.proofs.lemmas.Grind.{common_steps}
use Rattle.gmp_words.proofs.words.task.Goals as goal

pub returns-in-run : goal.returns-in-run
returns-in-run c = grind (arith, common_steps)

pub returns-in-step : goal.returns-in-step
returns-in-step c = grind (arith, common_steps)

pub returns-in-cut : goal.returns-in-cut
returns-in-cut c = grind (arith, common_steps)

pub returns-in-check : goal.returns-in-check
returns-in-check c = grind (arith, common_steps)
