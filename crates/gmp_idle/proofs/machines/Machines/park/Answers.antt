use Rattle.std.proofs.Common.{rules}
use Rattle.gmp_idle.proofs.machines.Machines.park.Goals as goal

pub returns : goal.returns
returns c = search rules
