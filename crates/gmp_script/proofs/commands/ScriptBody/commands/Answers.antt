use Rattle.std.proofs.Common.{rules}
use Rattle.gmp_script.proofs.commands.ScriptBody.commands.Goals as goal

pub returns-clause-value : goal.returns-clause-value
returns-clause-value c = search rules
