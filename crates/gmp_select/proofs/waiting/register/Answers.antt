use Rattle.gmp_select.proofs.Offering.{offers_made, offers_rise}
use Rattle.gmp_select.proofs.waiting.register.Goals as goal

pub wait_on-requires-clause-rising : goal.wait_on-requires-clause-rising
wait_on-requires-clause-rising c = rw (c.of-offers.ensures, c.as_slice.ensures.value) (offers_rise 0 c.args.cases.now)

pub wait_on-requires-clause-made : goal.wait_on-requires-clause-made
wait_on-requires-clause-made c = rw (c.of-offers.ensures, c.as_slice.ensures.value) (offers_made c.args.channels.now.channels 0 c.args.cases.now c.requires.made)
