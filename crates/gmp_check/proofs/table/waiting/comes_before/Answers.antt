use Rattle.std.proofs.Common.{rules}
use Rattle.gmp_check.proofs.table.waiting.comes_before.Goals as goal

pub returns-then-x-y : goal.returns-then-x-y
returns-then-x-y c = search rules

pub returns-else-x-y-2 : goal.returns-else-x-y-2
returns-else-x-y-2 c = search rules
