use Rattle.gmp_queue.specs.Ends.{KeepsOwner}
use Rattle.gmp_test_waiters.proofs.queues.stealing.put_all.Given as goal

abbrev pub invariant-loop-g : goal.invariant-loop-g
invariant-loop-g l = KeepsOwner l.initial.owner l.owner
