use Rattle.std.proofs.Common.{◌≡◌, length}
use Rattle.gmp_trace.specs.StartNext.{AreRows}
use Rattle.gmp_trace.proofs.start.rows.rows_of.Given as goal

abbrev pub invariant-loop-count : goal.invariant-loop-count
invariant-loop-count l =
    AreRows l.limits l.bodies l.channels l.text l.rows.items l.rest × (length l.rows.items ≡ l.count)
