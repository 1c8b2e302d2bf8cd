use Rattle.gmp_check.proofs.Firsts.{all_of, one_more}
use Rattle.gmp_check.proofs.table.waiting.first_of.Goals as goal

pub loop-offer-preserved : goal.loop-offer-preserved
loop-offer-preserved c = rw (c.sooner-first.ensures, c.then_some.ensures, c.is_on.ensures) (one_more c.args.g c.args.wait.now c.args.c c.args.direction c.as_slice-offer-items.result.now c.loop-offer.offer-index _ c.loop-offer.first c.loop-offer-test.true c.loop-offer.invariant)

pub returns : goal.returns
returns c = all_of c.args.g c.args.wait.now c.args.c c.args.direction c.as_slice-offer-items.result.now c.loop-offer.offer-index c.loop-offer.first c.as_slice-offer-items.ensures.value c.loop-offer-test.false c.loop-offer.invariant
