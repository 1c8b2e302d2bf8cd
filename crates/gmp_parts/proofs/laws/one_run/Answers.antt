use Rattle.gmp_parts.proofs.Parts.{one_run}
use Rattle.gmp_parts.proofs.laws.one_run.Goals as goal

pub returns : goal.returns
returns c = one_run
