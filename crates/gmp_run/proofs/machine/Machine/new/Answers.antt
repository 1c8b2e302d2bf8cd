use Rattle.std.proofs.Common.{rules}
use Rattle.gmp_run.proofs.machine.Machine.new.Goals as goal

pub returns-clause-added : goal.returns-clause-added
returns-clause-added g c = search rules
