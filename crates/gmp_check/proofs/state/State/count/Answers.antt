use Rattle.std.proofs.Common.{arith}
use Rattle.std.proofs.lemmas.Grind.{elements}
use Rattle.gmp_check.proofs.state.State.count.Goals as goal

pub returns : goal.returns
returns c = grind (arith, elements)
