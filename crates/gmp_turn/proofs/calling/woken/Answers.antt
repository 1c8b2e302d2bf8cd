use Rattle.std.proofs.Common.{rules}
use Rattle.gmp_turn.proofs.calling.woken.Goals as goal

pub returns-in-Entered : goal.returns-in-Entered
returns-in-Entered c = search rules
