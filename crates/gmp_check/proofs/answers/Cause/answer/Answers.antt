use Rattle.std.proofs.Common.{refl}
use Rattle.gmp_check.proofs.answers.Cause.answer.Goals as goal

pub returns-in-Closed : goal.returns-in-Closed
returns-in-Closed c = rw (c.told_at_close.ensures, c.in-Closed.is, c.in-Waiting.is) refl
