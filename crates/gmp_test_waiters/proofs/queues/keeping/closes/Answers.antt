use Rattle.std.proofs.Common.{refl}
use Rattle.gmp_test_waiters.proofs.Ends.{still_the_ends}
use Rattle.gmp_test_waiters.proofs.queues.keeping.closes.Goals as goal

pub left-requires : goal.left-requires
left-requires c =
    still_the_ends c.args.owner c.used.new.owner c.args.first c.args.second c.used.new.thief c.args.second c.requires c.used.ensures.owner c.used.ensures.thief ((refl, refl), refl)
