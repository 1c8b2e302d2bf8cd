use Rattle.std.proofs.Common.{rules}
use Rattle.gmp_seq.proofs.status.Offer.receiver_answer.Goals as goal

pub returns-else-is_select : goal.returns-else-is_select
returns-else-is_select c = search rules
