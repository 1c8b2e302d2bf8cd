use Rattle.gmp_queue.specs.Ends.{KeepsThief}
use Rattle.gmp_test_waiters.proofs.queues.stealing.steal_all.Given as goal

abbrev pub invariant-loop : goal.invariant-loop
invariant-loop l = KeepsThief l.initial.thief l.thief
