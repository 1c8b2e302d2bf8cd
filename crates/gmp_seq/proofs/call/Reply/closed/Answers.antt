use Rattle.std.proofs.Common.{rules}
use Rattle.gmp_seq.proofs.call.Reply.closed.Goals as goal

pub returns-in-Closed : goal.returns-in-Closed
returns-in-Closed c = search rules
