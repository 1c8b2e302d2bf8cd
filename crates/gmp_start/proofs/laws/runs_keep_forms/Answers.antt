use Rattle.gmp_start.proofs.Keeping.{legal_forms, run_forms}
use Rattle.gmp_start.proofs.laws.runs_keep_forms.Goals as goal

pub returns : goal.returns
returns c = record { run = run_forms; legal = legal_forms }
