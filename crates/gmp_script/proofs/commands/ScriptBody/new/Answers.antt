use Rattle.std.proofs.Common.{rules}
use Rattle.gmp_script.proofs.commands.ScriptBody.new.Goals as goal

pub returns : goal.returns
returns c = search rules
