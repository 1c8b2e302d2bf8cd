use Rattle.std.proofs.Common.{rules}
use Rattle.gmp_idle.proofs.machines.Machines.is_calling.Goals as goal

pub returns-in-Some-Calling : goal.returns-in-Some-Calling
returns-in-Some-Calling c = search rules
