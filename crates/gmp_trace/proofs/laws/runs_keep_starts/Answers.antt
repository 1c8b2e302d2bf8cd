use Rattle.gmp_trace.proofs.StartBack.{legal_start, run_start}
use Rattle.gmp_trace.proofs.laws.runs_keep_starts.Goals as goal

pub returns-clause-start : goal.returns-clause-start
returns-clause-start c = run_start

pub returns-clause-opening : goal.returns-clause-opening
returns-clause-opening c = legal_start
