use Rattle.std.proofs.Common.{rules}
use Rattle.gmp_seq.proofs.status.Kind.late_answer.Goals as goal

pub returns-in_default : goal.returns-in_default
returns-in_default c = search rules
