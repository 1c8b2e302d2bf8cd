use Rattle.std.proofs.Common.{rules}
use Rattle.gmp_trace.proofs.bad.Why.word.Goals as goal

pub returns-in-End : goal.returns-in-End
returns-in-End c = search rules
