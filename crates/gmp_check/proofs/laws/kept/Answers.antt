use Rattle.gmp_check.proofs.Keeping.{opening_consistent, step_keeps}
use Rattle.gmp_check.proofs.laws.kept.Goals as goal

pub returns : goal.returns
returns c = record { opening = opening_consistent; step = λ limits e old new is step. step_keeps limits e old new is step }
