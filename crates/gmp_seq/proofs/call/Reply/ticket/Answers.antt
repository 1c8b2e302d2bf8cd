use Rattle.std.proofs.Common.{rules}
use Rattle.gmp_seq.proofs.call.Reply.ticket.Goals as goal

pub returns-in-Got : goal.returns-in-Got
returns-in-Got c = search rules
