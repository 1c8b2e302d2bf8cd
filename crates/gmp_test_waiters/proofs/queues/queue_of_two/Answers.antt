use Rattle.gmp_test_waiters.proofs.Ends.{taken_off}
use Rattle.gmp_test_waiters.proofs.queues.queue_of_two.Goals as goal

pub returns : goal.returns
returns c =
    taken_off 7 c.in-Ok.owners.items c.pop.new.self.items c.in_ok-owner.owner c.in-Ok.rows.items c.pop-2.new.self.items c.pop-3.new.self.items c.in_ok-first.first c.in_ok-second.second c.pop-5.new.self.items c.pop-4.new.self.items c.in_ok-one.one c.in_ok-two.two
    c.in-Ok.ensures.opened c.in-Ok.ensures.all c.in_ok-owner.ensures.items c.in_ok-second.ensures.items c.in_ok-first.ensures.items c.in_ok-two.ensures.items c.in_ok-one.ensures.items
