use Rattle.gmp_start.proofs.Active.{opening_active, active_step, active_run}
use Rattle.gmp_start.proofs.laws.steps_keep_active.Goals as goal

pub returns : goal.returns
returns c = record { opening = opening_active; step = active_step; run = active_run }
