use Rattle.std.proofs.Common.{arith}
use Rattle.std.proofs.lemmas.Grind.{common_steps}
use Rattle.gmp_chan.proofs.channels.Channels.open.Goals as goal

pub loop-capacity-preserved : goal.loop-capacity-preserved
loop-capacity-preserved c = grind (arith, common_steps)
