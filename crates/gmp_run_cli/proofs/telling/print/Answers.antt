use Rattle.std.proofs.Common.{rules}
use Rattle.gmp_run_cli.proofs.telling.print.Goals as goal

pub returns-clause-written : goal.returns-clause-written
returns-clause-written g c = search rules
