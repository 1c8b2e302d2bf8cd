use Rattle.std.proofs.Common.{rules}
use Rattle.gmp_base.proofs.pass.Pass.of.Goals as goal

pub returns : goal.returns
returns c = search rules
