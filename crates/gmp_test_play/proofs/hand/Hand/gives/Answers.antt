use Rattle.std.proofs.Common.{refl}
use Rattle.gmp_test_play.proofs.hand.Hand.gives.Goals as goal

pub returns-in-Put : goal.returns-in-Put
returns-in-Put c = rw (c.in-Put.is, c.of.ensures) (c.args.run, refl)

pub returns-in-Claim : goal.returns-in-Claim
returns-in-Claim c = rw (c.in-Claim.is, c.of-in-Claim.ensures) (c.args.run, refl)
