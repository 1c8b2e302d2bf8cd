use Rattle.std.proofs.Common.{rules}
use Rattle.gmp_table.proofs.wake.Candidate.due.Goals as goal

pub returns-then-moment-now : goal.returns-then-moment-now
returns-then-moment-now c = search rules
