use Rattle.std.proofs.Common.{rules}
use Rattle.gmp_table.proofs.wake.Rank.is_before.Goals as goal

pub returns-then-self-other-2 : goal.returns-then-self-other-2
returns-then-self-other-2 c = search rules
