use Rattle.std.proofs.Common.{rules}
use Rattle.gmp_base.proofs.value.Held.of.Goals as goal

pub returns : goal.returns
returns g c = search rules
