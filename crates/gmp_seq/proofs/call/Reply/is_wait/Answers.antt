use Rattle.std.proofs.Common.{rules}
use Rattle.gmp_seq.proofs.call.Reply.is_wait.Goals as goal

pub returns-in-Waits : goal.returns-in-Waits
returns-in-Waits c = search rules
