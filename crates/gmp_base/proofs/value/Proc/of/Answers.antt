use Rattle.std.proofs.Common.{rules}
use Rattle.gmp_base.proofs.value.Proc.of.Goals as goal

pub returns : goal.returns
returns g c = search rules
