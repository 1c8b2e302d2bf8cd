use Rattle.std.proofs.Common.{rules}
use Rattle.gmp_check.proofs.machines.Machines.may_spin.Goals as goal

pub returns-then-not-spins : goal.returns-then-not-spins
returns-then-not-spins c = search rules
