use Rattle.gmp_check.proofs.Checking.{one_first_bad}
use Rattle.gmp_check.proofs.laws.one_first_bad.Goals as goal

pub returns : goal.returns
returns c = one_first_bad
