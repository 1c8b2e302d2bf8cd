use Rattle.std.proofs.Common.{rules}
use Rattle.gmp_idle.proofs.machines.Machines.unspin.Goals as goal

pub returns : goal.returns
returns c = search rules
