use Rattle.std.proofs.Common.{rules}
use Rattle.gmp_table.proofs.deadlines.Deadline.is_sooner.Goals as goal

pub returns-then-is_before : goal.returns-then-is_before
returns-then-is_before c = search rules

pub returns-then-not-is_before : goal.returns-then-not-is_before
returns-then-not-is_before c = search rules
