use Rattle.std.proofs.Common.{◌≡◌, refl, sym, ◌∙◌}
use Rattle.gmp_driver.specs.declared.act.Told.TheVariants as told
use Rattle.gmp_driver.specs.Local.{popped_for}
use Rattle.gmp_driver.specs.Own.{with_found}
use Rattle.gmp_driver.specs.Table.{after}
use Rattle.gmp_driver.proofs.OwnQueue.{pop_found, pop_none, ticket_filled}
use Rattle.gmp_core.proofs.Landing.{fits_now, found_now, keeps_now}
use Rattle.gmp_core.proofs.Owning.{pop_owns, was_empty, was_got}
use Rattle.gmp_core.proofs.local.pop.Given.{Over}
use Rattle.gmp_core.proofs.local.pop.Goals as goal

pub unreachable-requires : goal.unreachable-requires
unreachable-requires g c = pop_owns c.args.driver.now c.args.is_to_store c.requires.next c.requires.fits (sym c.processor.ensures ∙ c.in_default.is)

-- The queue is empty

pub tell_queue-requires : goal.tell_queue-requires
tell_queue-requires g c =
    let x = c.args.driver.now in
    pop_none x c.requires.fits c.args.is_to_store x.hand c.requires.next refl

pub returns-in-None-clause-acts : goal.returns-in-None-clause-acts
returns-in-None-clause-acts g c =
    was_empty c.args.driver.now c.tell_queue.new.self c.args.queues.now.queues c.pop.new.self.queues c.in-Some.p (sym c.processor.ensures ∙ c.in-Some.is) c.args.is_to_store c.in-None.ensures.pops c.tell_queue.ensures

pub returns-in-None-clause-hand : goal.returns-in-None-clause-hand
returns-in-None-clause-hand g c = keeps_now c.args.driver.now c.tell_queue.new.self told.Empty c.tell_queue.ensures

pub returns-in-None-clause-fits : goal.returns-in-None-clause-fits
returns-in-None-clause-fits g c =
    let x = c.args.driver.now in
    fits_now x c.tell_queue.new.self told.Empty x.hand (pop_none x c.requires.fits c.args.is_to_store x.hand c.requires.next refl) c.tell_queue.ensures

-- A ticket is found

pub tell_found-requires : goal.tell_found-requires
tell_found-requires g c =
    let x = c.args.driver.now in
    pop_found x c.requires.fits c.args.is_to_store (with_found c.in-Some-pop.r c.args.is_to_store x.hand) c.requires.next (ticket_filled c.in-Some-pop.r c.args.is_to_store x.hand)

got_now : (g : Over) (c : goal.After-tell_found g)
    → c.tell_found.new.self ≡ after (record c.args.driver.now { hand = with_found c.in-Some-pop.r c.args.is_to_store c.args.driver.now.hand }) (popped_for c.args.is_to_store)
got_now g c = c.tell_found.ensures

pub returns-in-Some-pop-clause-acts : goal.returns-in-Some-pop-clause-acts
returns-in-Some-pop-clause-acts g c =
    was_got c.args.driver.now c.tell_found.new.self c.args.queues.now.queues c.pop.new.self.queues c.in-Some.p (sym c.processor.ensures ∙ c.in-Some.is) c.args.is_to_store c.in-Some-pop.r c.in-Some-pop.ensures.pops (got_now g c)

pub returns-in-Some-pop-clause-hand : goal.returns-in-Some-pop-clause-hand
returns-in-Some-pop-clause-hand g c = found_now c.args.driver.now c.tell_found.new.self (popped_for c.args.is_to_store) c.in-Some-pop.r c.args.is_to_store (got_now g c)

pub returns-in-Some-pop-clause-fits : goal.returns-in-Some-pop-clause-fits
returns-in-Some-pop-clause-fits g c =
    let x = c.args.driver.now in
    fits_now x c.tell_found.new.self (popped_for c.args.is_to_store) (with_found c.in-Some-pop.r c.args.is_to_store x.hand)
    (pop_found x c.requires.fits c.args.is_to_store (with_found c.in-Some-pop.r c.args.is_to_store x.hand) c.requires.next (ticket_filled c.in-Some-pop.r c.args.is_to_store x.hand)) (got_now g c)
