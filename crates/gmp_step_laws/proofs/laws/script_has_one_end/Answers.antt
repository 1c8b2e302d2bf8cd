use Rattle.gmp_step_laws.proofs.OneEnd.{one_end}
use Rattle.gmp_step_laws.proofs.laws.script_has_one_end.Goals as goal

pub returns : goal.returns
returns c = one_end
