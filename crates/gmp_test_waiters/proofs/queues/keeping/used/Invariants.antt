use Rattle.gmp_queue.specs.Ends.{KeepsOwner, KeepsThief}
use Rattle.gmp_test_waiters.proofs.queues.keeping.used.Given as goal

abbrev pub invariant-loop-g : goal.invariant-loop-g
invariant-loop-g l = KeepsOwner l.fn.owner l.owner

abbrev pub invariant-loop-g-2 : goal.invariant-loop-g-2
invariant-loop-g-2 l = KeepsOwner l.fn.owner l.owner

abbrev pub invariant-loop-g-3 : goal.invariant-loop-g-3
invariant-loop-g-3 l = KeepsThief l.fn.thief l.thief
