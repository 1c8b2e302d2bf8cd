use Rattle.std.proofs.Common.{◌≡◌, ◌++◌, drop}
use Rattle.gmp_trace.specs.StartText.{goroutines_text}
use Rattle.gmp_trace.proofs.start.put.put_rows.Given as goal

abbrev pub invariant-loop-g : goal.invariant-loop-g
invariant-loop-g l = l.out.items ++ goroutines_text l.g (drop l.g l.rows) ≡ l.fn.out.items ++ goroutines_text 0 l.rows
