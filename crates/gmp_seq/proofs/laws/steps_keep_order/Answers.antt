use Rattle.gmp_seq.proofs.InOrder.{step_together}
use Rattle.gmp_seq.proofs.Sizes.{step_sizes}
use Rattle.gmp_seq.proofs.laws.steps_keep_order.Goals as goal

pub returns : goal.returns
returns c = record { together = step_together; sizes = step_sizes }
