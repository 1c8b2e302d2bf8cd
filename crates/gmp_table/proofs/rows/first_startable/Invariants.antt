use Rattle.gmp_table.specs.Due.{NoneStartableBelow}
use Rattle.gmp_table.proofs.rows.first_startable.Given as goal

abbrev pub invariant-loop-i : goal.invariant-loop-i
invariant-loop-i l = NoneStartableBelow l.i l.fn.rows
