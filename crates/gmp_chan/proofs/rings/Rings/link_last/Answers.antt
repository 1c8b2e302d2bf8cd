use Rattle.std.proofs.Common.{arith}
use Rattle.std.proofs.lemmas.Grind.{common_steps}
use Rattle.gmp_chan.proofs.rings.Rings.link_last.Goals as goal

pub returns-clause-next : goal.returns-clause-next
returns-clause-next c = grind (arith, common_steps)

pub returns-clause-prev : goal.returns-clause-prev
returns-clause-prev c = grind (arith, common_steps)
