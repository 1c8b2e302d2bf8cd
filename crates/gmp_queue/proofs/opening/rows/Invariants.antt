use Rattle.std.proofs.Common.{◌≡◌, [], length, All}
use Rattle.std.specs.Global.{Vec}
use Rattle.gmp_queue.specs.declared.ends.Thief.{Thief}
use Rattle.gmp_queue.proofs.opening.rows.Given as goal

abbrev pub invariant-loop : goal.invariant-loop
invariant-loop l = (length l.rows.items ≡ l.counter) × All (λ (row : Vec Thief). row.items ≡ []) l.rows.items
