use Rattle.std.proofs.Common.{rules}
use Rattle.gmp_run_cli.proofs.telling.unrun.Goals as goal

pub returns-in-BadLimits : goal.returns-in-BadLimits
returns-in-BadLimits c = search rules
