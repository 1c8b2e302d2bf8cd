use Rattle.std.proofs.Common.{◌≡◌, inl, inr, refl, is_some, arith}
use Rattle.gmp_base.specs.Values.{readiness_of}
use Rattle.gmp_driver.specs.declared.act.Tried.TheVariants as tried
use Rattle.gmp_driver.specs.Local.{tells}
use Rattle.gmp_driver.specs.Own.{with_found}
use Rattle.gmp_driver.specs.Table.{after}
use Rattle.gmp_worker.proofs.Tries.{beyond, empty_suits, fits_now, stolen_suits, unsure_suits, uses, was_tried}
use Rattle.gmp_worker.proofs.trying.steal.Given.{Over}
use Rattle.gmp_worker.proofs.trying.steal.Goals as goal

-- There is no such thief

pub tell_queue-requires : goal.tell_queue-requires
tell_queue-requires g c = empty_suits c.args.driver.now c.args.drawn c.requires.next c.requires.fits

none_now : (g : Over) (c : goal.After-tell_queue g) → c.tell_queue.new.self ≡ after c.args.driver.now (tells c.args.drawn tried.Empty)
none_now g c = c.tell_queue.ensures

pub returns-then-v-thieves-clause-steals : goal.returns-then-v-thieves-clause-steals
returns-then-v-thieves-clause-steals g c =
    let x = c.args.driver.now in
    was_tried x c.args.drawn c.requires.next c.requires.fits c.args.victim c.args.thieves.now c.args.thieves.now c.tell_queue.new.self tried.Empty x.hand
    (inr (beyond c.args.victim c.from-v.result c.args.thieves.now c.from-v.ensures (omega (arith, c.if-v-thieves.true)), refl), refl) (none_now g c)

pub returns-then-v-thieves-clause-fits : goal.returns-then-v-thieves-clause-fits
returns-then-v-thieves-clause-fits g c =
    let x = c.args.driver.now in
    fits_now x c.tell_queue.new.self (tells c.args.drawn tried.Empty) x.hand c.requires.fits (empty_suits x c.args.drawn c.requires.next c.requires.fits) (none_now g c)

-- A ticket is stolen

pub tell_found-requires : goal.tell_found-requires
tell_found-requires g c =
    rw c.has_to_claim-has_to_claim.ensures (stolen_suits c.args.driver.now c.args.drawn c.requires.next c.requires.fits c.spent.result c.steal_of-hint.result.0)

found_now : (g : Over) (c : goal.After-tell_found g)
    → let x = c.args.driver.now in c.tell_found.new.self ≡ after (record x { hand = with_found (readiness_of c.in-Got.ticket) (is_some x.hand.to_claim) x.hand }) (tells c.args.drawn (tried.Got c.steal_of-hint.result.0))
found_now g c = rw (c.has_to_claim-has_to_claim.ensures, c.spent.ensures) at c.tell_found.ensures

pub returns-in-Got-clause-steals : goal.returns-in-Got-clause-steals
returns-in-Got-clause-steals g c =
    let x = c.args.driver.now in
    let s = rw (c.in-Got.is, c.run.ensures) at c.steal_of-hint.ensures.step in
    let hand = with_found (readiness_of c.in-Got.ticket) (is_some x.hand.to_claim) x.hand in
    was_tried x c.args.drawn c.requires.next c.requires.fits c.args.victim c.args.thieves.now _ c.tell_found.new.self (tried.Got c.steal_of-hint.result.0) hand
    (readiness_of c.in-Got.ticket, uses c.args.victim c.from-v.result c.args.thieves.now c.index-thieves-v.result c.steal_of-hint.new.thief _ c.from-v.ensures (omega (arith, c.if-v-thieves.false)) c.steal_of-hint.ensures.same (s.1, s.2), refl)
    (found_now g c)

pub returns-in-Got-clause-fits : goal.returns-in-Got-clause-fits
returns-in-Got-clause-fits g c =
    let x = c.args.driver.now in
    fits_now x c.tell_found.new.self (tells c.args.drawn (tried.Got c.steal_of-hint.result.0)) (with_found (readiness_of c.in-Got.ticket) (is_some x.hand.to_claim) x.hand) c.requires.fits
    (stolen_suits x c.args.drawn c.requires.next c.requires.fits (readiness_of c.in-Got.ticket) c.steal_of-hint.result.0) (found_now g c)

-- The queue is empty

pub tell_queue-requires-in-Empty : goal.tell_queue-requires-in-Empty
tell_queue-requires-in-Empty g c = empty_suits c.args.driver.now c.args.drawn c.requires.next c.requires.fits

empty_now : (g : Over) (c : goal.After-tell_queue-in-Empty g) → c.tell_queue-in-Empty.new.self ≡ after c.args.driver.now (tells c.args.drawn tried.Empty)
empty_now g c = c.tell_queue-in-Empty.ensures

pub returns-in-Empty-clause-steals : goal.returns-in-Empty-clause-steals
returns-in-Empty-clause-steals g c =
    let x = c.args.driver.now in
    let s = rw c.in-Empty.is at c.steal_of-hint.ensures.step in
    was_tried x c.args.drawn c.requires.next c.requires.fits c.args.victim c.args.thieves.now _ c.tell_queue-in-Empty.new.self tried.Empty x.hand
    (inl (uses c.args.victim c.from-v.result c.args.thieves.now c.index-thieves-v.result c.steal_of-hint.new.thief _ c.from-v.ensures (omega (arith, c.if-v-thieves.false)) c.steal_of-hint.ensures.same s), refl) (empty_now g c)

pub returns-in-Empty-clause-fits : goal.returns-in-Empty-clause-fits
returns-in-Empty-clause-fits g c =
    let x = c.args.driver.now in
    fits_now x c.tell_queue-in-Empty.new.self (tells c.args.drawn tried.Empty) x.hand c.requires.fits (empty_suits x c.args.drawn c.requires.next c.requires.fits) (empty_now g c)

-- The race is lost

pub tell_queue-requires-in-Unsure : goal.tell_queue-requires-in-Unsure
tell_queue-requires-in-Unsure g c = unsure_suits c.args.driver.now c.args.drawn c.requires.next c.requires.fits

unsure_now : (g : Over) (c : goal.After-tell_queue-in-Unsure g) → c.tell_queue-in-Unsure.new.self ≡ after c.args.driver.now (tells c.args.drawn tried.Unsure)
unsure_now g c = c.tell_queue-in-Unsure.ensures

pub returns-in-Unsure-clause-steals : goal.returns-in-Unsure-clause-steals
returns-in-Unsure-clause-steals g c =
    let x = c.args.driver.now in
    let s = rw (c.in-Unsure.is, c.run.ensures) at c.steal_of-hint.ensures.step in
    was_tried x c.args.drawn c.requires.next c.requires.fits c.args.victim c.args.thieves.now _ c.tell_queue-in-Unsure.new.self tried.Unsure x.hand
    (uses c.args.victim c.from-v.result c.args.thieves.now c.index-thieves-v.result c.steal_of-hint.new.thief _ c.from-v.ensures (omega (arith, c.if-v-thieves.false)) c.steal_of-hint.ensures.same s, refl) (unsure_now g c)

pub returns-in-Unsure-clause-fits : goal.returns-in-Unsure-clause-fits
returns-in-Unsure-clause-fits g c =
    let x = c.args.driver.now in
    fits_now x c.tell_queue-in-Unsure.new.self (tells c.args.drawn tried.Unsure) x.hand c.requires.fits (unsure_suits x c.args.drawn c.requires.next c.requires.fits) (unsure_now g c)
