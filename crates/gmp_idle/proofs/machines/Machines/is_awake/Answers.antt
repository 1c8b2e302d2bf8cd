use Rattle.std.proofs.Common.{rules}
use Rattle.gmp_idle.proofs.machines.Machines.is_awake.Goals as goal

pub returns-in-Some-Awake : goal.returns-in-Some-Awake
returns-in-Some-Awake c = search rules
