use Rattle.gmp_seq.proofs.Lands.{step_keeps_woke}
use Rattle.gmp_seq.proofs.laws.told_what_was_stored.Goals as goal

pub returns : goal.returns
returns c = step_keeps_woke
