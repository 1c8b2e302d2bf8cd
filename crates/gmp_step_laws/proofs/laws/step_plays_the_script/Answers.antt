use Rattle.gmp_step_laws.proofs.Whole.{step_any, step_whole}
use Rattle.gmp_step_laws.proofs.laws.step_plays_the_script.Goals as goal

pub returns-clause-whole : goal.returns-clause-whole
returns-clause-whole c = step_whole

pub returns-clause-any : goal.returns-clause-any
returns-clause-any c = step_any
