use Rattle.gmp_step_laws.proofs.Makeless.{none_refused}
use Rattle.gmp_step_laws.proofs.laws.without_makes_none_is_refused.Goals as goal

pub returns : goal.returns
returns c = none_refused
