use Rattle.gmp_step_laws.proofs.Whole.{scheduled_any, scheduled_whole}
use Rattle.gmp_step_laws.proofs.laws.any_scheduling_plays_the_script.Goals as goal

pub returns-clause-whole : goal.returns-clause-whole
returns-clause-whole c = scheduled_whole

pub returns-clause-any : goal.returns-clause-any
returns-clause-any c = scheduled_any
