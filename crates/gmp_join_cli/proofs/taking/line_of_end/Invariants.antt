use Rattle.std.proofs.Common.{◌≤◌, length}
use Rattle.gmp_join_cli.proofs.taking.line_of_end.Given as goal

abbrev pub invariant-loop-i : goal.invariant-loop-i
invariant-loop-i l = l.last ≤ length l.bytes
