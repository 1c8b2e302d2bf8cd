use Rattle.std.proofs.Common.{refl, sym, ◌∙◌}
use Rattle.gmp_allowed.proofs.Deals.{offer_here, offer_none, offer_past, waiter_found}
use Rattle.gmp_allowed.proofs.dealing.waiter_at.Goals as goal

pub loop-offer-init : goal.loop-offer-init
loop-offer-init c = refl

pub returns-then-is_on : goal.returns-then-is_on
returns-then-is_on c =
    let a = c.args in
    let w = c.in-Waiting.wait in
    let offers = c.as_slice-offer-items.result.now in
    waiter_found a.c a.direction a.g a.status.now w offers c.loop-offer.offer-index _ c.in-Waiting.is c.as_slice-offer-items.ensures.value c.loop-offer.invariant
    (offer_here a.c a.direction a.g w.arrival w.kind offers c.loop-offer.offer-index _ c.loop-offer-test.true (sym c.is_on.ensures ∙ c.if-is_on.true))

pub loop-offer-preserved : goal.loop-offer-preserved
loop-offer-preserved c =
    let a = c.args in
    let w = c.in-Waiting.wait in
    offer_past a.c a.direction a.g w.arrival w.kind c.as_slice-offer-items.result.now c.loop-offer.offer-index _ c.loop-offer-test.true (sym c.is_on.ensures ∙ c.if-is_on.false) ∙ c.loop-offer.invariant

pub returns : goal.returns
returns c =
    let a = c.args in
    let w = c.in-Waiting.wait in
    let offers = c.as_slice-offer-items.result.now in
    waiter_found a.c a.direction a.g a.status.now w offers c.loop-offer.offer-index _ c.in-Waiting.is c.as_slice-offer-items.ensures.value c.loop-offer.invariant
    (offer_none a.c a.direction a.g w.arrival w.kind offers c.loop-offer.offer-index c.loop-offer-test.false)
