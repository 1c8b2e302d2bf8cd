use Rattle.std.proofs.Common.{rules}
use Rattle.gmp_check.proofs.replay.Replay.outcome.Goals as goal

pub returns-clause-value : goal.returns-clause-value
returns-clause-value c = search rules
