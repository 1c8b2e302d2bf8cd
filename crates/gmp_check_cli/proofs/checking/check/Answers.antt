use Rattle.std.proofs.Common.{rules}
use Rattle.gmp_check_cli.proofs.checking.check.Goals as goal

pub returns-in-Ok-summary-clause-status : goal.returns-in-Ok-summary-clause-status
returns-in-Ok-summary-clause-status g c = search rules

pub returns-clause-passed : goal.returns-clause-passed
returns-clause-passed g c = search rules

pub returns-in-Ok-summary-clause-passed : goal.returns-in-Ok-summary-clause-passed
returns-in-Ok-summary-clause-passed g c = search rules
