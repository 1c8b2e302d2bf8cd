use Rattle.std.proofs.Common.{rules}
use Rattle.gmp_seq.proofs.status.Offer.closed_answer.Goals as goal

pub returns-in-Receive : goal.returns-in-Receive
returns-in-Receive c = search rules
