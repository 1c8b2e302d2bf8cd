use Rattle.std.proofs.Common.{[], ◌∷◌, length, ap, ◌∙◌, arith, length-append}
use Rattle.gmp_trace.proofs.OfferLoop.{offer_next}
use Rattle.gmp_trace.proofs.start.guess.offers.Goals as goal

pub loop-i-preserved : goal.loop-i-preserved
loop-i-preserved c =
    record {
      count = ap (λ l. length l) c.push.ensures ∙ omega (arith, c.loop-i.invariant.count, length-append c.loop-i.offers (c.offer.result ∷ []));
      room = omega arith;
      found = rw (c.push.ensures, c.offer.ensures) (offer_next (λ w. w.now) c.loop-i.offers c.args.words.now c.loop-i.i _ (omega arith) (omega arith) ∙ c.loop-i.invariant.found);
    }
