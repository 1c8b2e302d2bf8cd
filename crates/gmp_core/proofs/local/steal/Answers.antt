use Rattle.std.proofs.Common.{◌≡◌, [], get_or, is_some, refl}
use Rattle.gmp_driver.specs.declared.act.Tried.TheVariants as tried
use Rattle.gmp_driver.specs.Local.{tells}
use Rattle.gmp_driver.specs.Own.{with_found}
use Rattle.gmp_driver.specs.Table.{after}
use Rattle.gmp_driver.proofs.OwnQueue.{steal_tried, ticket_filled}
use Rattle.gmp_core.proofs.Landing.{fits_now, found_now, keeps_now}
use Rattle.gmp_core.proofs.Stealing.{was_empty, was_got, was_unsure}
use Rattle.gmp_core.proofs.local.steal.Given.{Over}
use Rattle.gmp_core.proofs.local.steal.Goals as goal

-- The race is lost

pub tell_queue-requires : goal.tell_queue-requires
tell_queue-requires g c =
    let x = c.args.driver.now in
    steal_tried x c.requires.fits c.args.drawn tried.Unsure x.hand c.requires.next refl

unsure_now : (g : Over) (c : goal.After-tell_queue g) → c.tell_queue.new.self ≡ after c.args.driver.now (tells c.args.drawn tried.Unsure)
unsure_now g c = c.tell_queue.ensures

pub returns-then-unsure-clause-acts : goal.returns-then-unsure-clause-acts
returns-then-unsure-clause-acts g c =
    rw c.if-unsure.true (was_unsure c.args.driver.now c.tell_queue.new.self c.args.drawn c.args.queues.now.queues c.args.queues.now.queues c.args.victim (unsure_now g c))

pub returns-then-unsure-clause-hand : goal.returns-then-unsure-clause-hand
returns-then-unsure-clause-hand g c = keeps_now c.args.driver.now c.tell_queue.new.self (tells c.args.drawn tried.Unsure) (unsure_now g c)

pub returns-then-unsure-clause-fits : goal.returns-then-unsure-clause-fits
returns-then-unsure-clause-fits g c =
    let x = c.args.driver.now in
    fits_now x c.tell_queue.new.self (tells c.args.drawn tried.Unsure) x.hand (steal_tried x c.requires.fits c.args.drawn tried.Unsure x.hand c.requires.next refl) (unsure_now g c)

-- The queue is empty

pub tell_queue-requires-in-None : goal.tell_queue-requires-in-None
tell_queue-requires-in-None g c =
    let x = c.args.driver.now in
    steal_tried x c.requires.fits c.args.drawn tried.Empty x.hand c.requires.next refl

empty_now : (g : Over) (c : goal.After-tell_queue-in-None g) → c.tell_queue-in-None.new.self ≡ after c.args.driver.now (tells c.args.drawn tried.Empty)
empty_now g c = c.tell_queue-in-None.ensures

pub returns-in-None-clause-acts : goal.returns-in-None-clause-acts
returns-in-None-clause-acts g c =
    let queues = c.args.queues.now.queues in
    rw c.if-unsure.false
    (was_empty c.args.driver.now c.tell_queue-in-None.new.self c.args.drawn queues c.pop.new.self.queues c.args.victim (get_or queues c.args.victim.0 []) c.in-None.ensures.pops (empty_now g c))

pub returns-in-None-clause-hand : goal.returns-in-None-clause-hand
returns-in-None-clause-hand g c = keeps_now c.args.driver.now c.tell_queue-in-None.new.self (tells c.args.drawn tried.Empty) (empty_now g c)

pub returns-in-None-clause-fits : goal.returns-in-None-clause-fits
returns-in-None-clause-fits g c =
    let x = c.args.driver.now in
    fits_now x c.tell_queue-in-None.new.self (tells c.args.drawn tried.Empty) x.hand (steal_tried x c.requires.fits c.args.drawn tried.Empty x.hand c.requires.next refl) (empty_now g c)

-- A ticket is found

pub tell_found-requires : goal.tell_found-requires
tell_found-requires g c =
    let x = c.args.driver.now in
    let has = is_some x.hand.to_claim in
    rw c.has_to_claim-has_to_claim.ensures
    (steal_tried x c.requires.fits c.args.drawn (tried.Got c.len-hint.result) (with_found c.in-Some.r has x.hand) c.requires.next (ticket_filled c.in-Some.r has x.hand))

got_now : (g : Over) (c : goal.After-tell_found g)
    → let x = c.args.driver.now in c.tell_found.new.self ≡ after (record x { hand = with_found c.in-Some.r (is_some x.hand.to_claim) x.hand }) (tells c.args.drawn (tried.Got c.len-hint.result))
got_now g c = rw c.has_to_claim-has_to_claim.ensures at c.tell_found.ensures

pub returns-in-Some-clause-acts : goal.returns-in-Some-clause-acts
returns-in-Some-clause-acts g c =
    let queues = c.args.queues.now.queues in
    rw c.if-unsure.false
    (was_got c.args.driver.now c.tell_found.new.self c.args.drawn queues c.pop.new.self.queues c.args.victim c.in-Some.r c.len-hint.result (get_or queues c.args.victim.0 []) c.in-Some.ensures.pops c.len-hint.ensures (got_now g c))

pub returns-in-Some-clause-hand : goal.returns-in-Some-clause-hand
returns-in-Some-clause-hand g c =
    let x = c.args.driver.now in
    found_now x c.tell_found.new.self (tells c.args.drawn (tried.Got c.len-hint.result)) c.in-Some.r (is_some x.hand.to_claim) (got_now g c)

pub returns-in-Some-clause-fits : goal.returns-in-Some-clause-fits
returns-in-Some-clause-fits g c =
    let x = c.args.driver.now in
    let has = is_some x.hand.to_claim in
    fits_now x c.tell_found.new.self (tells c.args.drawn (tried.Got c.len-hint.result)) (with_found c.in-Some.r has x.hand)
    (steal_tried x c.requires.fits c.args.drawn (tried.Got c.len-hint.result) (with_found c.in-Some.r has x.hand) c.requires.next (ticket_filled c.in-Some.r has x.hand)) (got_now g c)
