use Rattle.std.proofs.Common.{◌≡◌, length}
use Rattle.gmp_queue.specs.Ends.{owner_view, taken_by, SameOwner, AreTheEnds}
use Rattle.gmp_queue.proofs.closing.gather.Given as goal

abbrev pub invariant-loop-thieves : goal.invariant-loop-thieves
invariant-loop-thieves l = record {
  same : SameOwner l.initial.owner l.owner;
  ends : AreTheEnds l.owner l.thieves.items;
  put : (owner_view l.owner).put ≡ (owner_view l.initial.owner).put;
  took : taken_by l.owner l.thieves.items ≡ taken_by l.initial.owner l.initial.thieves.items;
}

abbrev pub decreases-loop-thieves : goal.decreases-loop-thieves
decreases-loop-thieves l = length l.thieves.items
