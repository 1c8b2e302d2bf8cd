use Rattle.std.proofs.Common.{arith}
use Rattle.std.proofs.lemmas.Grind.{replicate_next}
use Rattle.gmp_start.proofs.opening.opening_rows.Goals as goal

pub loop-preserved : goal.loop-preserved
loop-preserved c = record { items = grind (arith, replicate_next); size = omega arith; room = cc }
