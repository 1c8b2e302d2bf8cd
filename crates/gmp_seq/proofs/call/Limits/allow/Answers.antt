use Rattle.std.proofs.Common.{arith}
use Rattle.std.proofs.lemmas.Grind.{common_steps}
use Rattle.gmp_seq.proofs.call.Limits.allow.Goals as goal

pub returns : goal.returns
returns c = grind (arith, common_steps)
