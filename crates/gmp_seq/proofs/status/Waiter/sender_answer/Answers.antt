use Rattle.std.proofs.Common.{rules}
use Rattle.gmp_seq.proofs.status.Waiter.sender_answer.Goals as goal

pub returns-then-is_select : goal.returns-then-is_select
returns-then-is_select c = search rules
