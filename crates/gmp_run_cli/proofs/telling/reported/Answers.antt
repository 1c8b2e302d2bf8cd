use Rattle.std.proofs.Common.{rules}
use Rattle.gmp_run_cli.proofs.telling.reported.Goals as goal

pub returns-in-Err-clause-mismatch : goal.returns-in-Err-clause-mismatch
returns-in-Err-clause-mismatch g c = search rules
