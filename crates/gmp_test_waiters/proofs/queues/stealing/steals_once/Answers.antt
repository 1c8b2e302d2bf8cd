use Rattle.gmp_test_waiters.proofs.Ends.{still_the_ends}
use Rattle.gmp_test_waiters.proofs.queues.stealing.steals_once.Goals as goal

pub left-requires : goal.left-requires
left-requires g c =
    let joined = c.join-owner.ensures in
    still_the_ends c.args.owner c.join-owner.result.0.0 c.args.first c.args.second c.join-owner.result.1.0.0 c.join-owner.result.1.1.0 c.requires joined.first joined.second.0 joined.second.1
