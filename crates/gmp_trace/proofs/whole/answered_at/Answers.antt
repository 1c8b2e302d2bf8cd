use Rattle.std.proofs.Common.{rules}
use Rattle.gmp_trace.proofs.whole.answered_at.Goals as goal

pub returns-clause-found : goal.returns-clause-found
returns-clause-found c = search rules
