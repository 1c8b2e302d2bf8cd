use Rattle.std.proofs.Common.{rules}
use Rattle.gmp_chan.proofs.waiters.earlier_of.Goals as goal

pub returns-then-v-w-3 : goal.returns-then-v-w-3
returns-then-v-w-3 c = search rules

pub returns-else-v-w-3 : goal.returns-else-v-w-3
returns-else-v-w-3 c = search rules
