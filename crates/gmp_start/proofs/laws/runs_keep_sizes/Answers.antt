use Rattle.gmp_start.proofs.Active.{sizes_run}
use Rattle.gmp_start.proofs.laws.runs_keep_sizes.Goals as goal

pub returns : goal.returns
returns c = sizes_run
