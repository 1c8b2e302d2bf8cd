use Rattle.std.proofs.Common.{◌≡◌, length}
use Rattle.gmp_queue.specs.Opened.{IsOpened}
use Rattle.gmp_queue.proofs.opening.open_queues.Given as goal

abbrev pub invariant-loop : goal.invariant-loop
invariant-loop l = record {
  opened : IsOpened l.run (length l.initial.rows) l.owners.items l.rows;
  many : length l.owners.items ≡ l.counter;
}
