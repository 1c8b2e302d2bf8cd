use Rattle.std.proofs.Common.{rules}
use Rattle.gmp_base.proofs.refusal.Refused.open.Goals as goal

pub returns : goal.returns
returns g c = search rules
