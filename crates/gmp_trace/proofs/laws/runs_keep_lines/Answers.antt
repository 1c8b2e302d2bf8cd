use Rattle.gmp_trace.proofs.StartBack.{legal_lines, run_lines}
use Rattle.gmp_trace.proofs.laws.runs_keep_lines.Goals as goal

pub returns-clause-start : goal.returns-clause-start
returns-clause-start c = run_lines

pub returns-clause-opening : goal.returns-clause-opening
returns-clause-opening c = legal_lines
