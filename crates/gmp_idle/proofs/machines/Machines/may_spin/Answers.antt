use Rattle.std.proofs.Common.{rules}
use Rattle.gmp_idle.proofs.machines.Machines.may_spin.Goals as goal

pub returns-then-not-contains : goal.returns-then-not-contains
returns-then-not-contains c = search rules
