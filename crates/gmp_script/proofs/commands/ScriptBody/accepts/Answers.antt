use Rattle.std.proofs.Common.{arith}
use Rattle.std.proofs.lemmas.Grind.{elements}
use Rattle.gmp_script.proofs.commands.ScriptBody.accepts.Goals as goal

pub returns-else-not-matches : goal.returns-else-not-matches
returns-else-not-matches c = grind (arith, elements)
