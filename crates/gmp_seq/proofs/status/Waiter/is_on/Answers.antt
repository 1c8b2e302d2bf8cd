use Rattle.std.proofs.Common.{rules}
use Rattle.gmp_seq.proofs.status.Waiter.is_on.Goals as goal

pub returns-then-self-c : goal.returns-then-self-c
returns-then-self-c c = search rules
