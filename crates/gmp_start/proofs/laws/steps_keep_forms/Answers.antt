use Rattle.gmp_start.proofs.Keeping.{opening_forms, step_forms}
use Rattle.gmp_start.proofs.laws.steps_keep_forms.Goals as goal

pub returns : goal.returns
returns c = record { opening = opening_forms; step = step_forms }
