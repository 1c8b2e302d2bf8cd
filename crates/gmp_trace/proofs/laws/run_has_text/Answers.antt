use Rattle.gmp_trace.proofs.Numbered.{run_text}
use Rattle.gmp_trace.proofs.laws.run_has_text.Goals as goal

pub returns : goal.returns
returns c = run_text
