use Rattle.std.proofs.Common.{◌-◌, length}
use Rattle.gmp_queue.specs.Ends.{owner_view, SameOwner}
use Rattle.gmp_queue.specs.Closed.{Drains}
use Rattle.gmp_queue.proofs.Closes.{next_of}
use Rattle.gmp_queue.proofs.closing.drain.Given as goal

abbrev pub invariant-loop-owner : goal.invariant-loop-owner
invariant-loop-owner l = record {
  same : SameOwner l.initial.owner l.owner;
  drains : Drains (owner_view l.initial.owner) (owner_view l.owner) l.initial.out.items l.out.items;
}

abbrev pub decreases-loop-owner : goal.decreases-loop-owner
decreases-loop-owner l = length (owner_view l.owner).put - next_of (owner_view l.owner).took
