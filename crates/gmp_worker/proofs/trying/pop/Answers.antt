use Rattle.std.proofs.Common.{◌≡◌}
use Rattle.gmp_base.specs.Values.{readiness_of}
use Rattle.gmp_driver.specs.declared.act.Told.TheVariants as told
use Rattle.gmp_driver.specs.Local.{popped_for}
use Rattle.gmp_driver.specs.Own.{with_found, with_owner}
use Rattle.gmp_driver.specs.Table.{after}
use Rattle.gmp_worker.proofs.Tries.{fits_now, found_suits, none_suits, pop_owns, was_empty, was_popped}
use Rattle.gmp_worker.proofs.trying.pop.Given.{Over}
use Rattle.gmp_worker.proofs.trying.pop.Goals as goal

pub unreachable-requires : goal.unreachable-requires
unreachable-requires g c = pop_owns c.args.driver.now c.args.is_to_store c.requires.next c.requires.fits (rw c.in-None.is at c.owner.ensures.owner)

pub tell_found-requires : goal.tell_found-requires
tell_found-requires g c = found_suits c.args.driver.now c.args.is_to_store c.requires.next c.requires.fits c.pop_of-popped.new.owner c.spent.result

pub tell_queue-requires : goal.tell_queue-requires
tell_queue-requires g c = none_suits c.args.driver.now c.args.is_to_store c.requires.next c.requires.fits c.pop_of-popped.new.owner

found_now : (g : Over) (c : goal.After-tell_found g)
    → c.tell_found.new.self ≡ after (record c.args.driver.now { hand = with_found (readiness_of c.in-Some-popped.ticket) c.args.is_to_store (with_owner c.pop_of-popped.new.owner c.args.driver.now.hand) }) (popped_for c.args.is_to_store)
found_now g c = rw c.spent.ensures at c.tell_found.ensures

pub returns-in-Some-popped-clause-pops : goal.returns-in-Some-popped-clause-pops
returns-in-Some-popped-clause-pops g c =
    was_popped c.args.driver.now c.tell_found.new.self c.in-Some.owner.now c.pop_of-popped.new.owner (rw c.in-Some.is at c.owner.ensures.owner) c.in-Some-popped.ensures.same c.args.is_to_store c.in-Some-popped.ticket
    (rw c.run-run.ensures at c.in-Some-popped.ensures.got) (found_now g c)

pub returns-in-Some-popped-clause-fits : goal.returns-in-Some-popped-clause-fits
returns-in-Some-popped-clause-fits g c =
    fits_now c.args.driver.now c.tell_found.new.self (popped_for c.args.is_to_store) (with_found (readiness_of c.in-Some-popped.ticket) c.args.is_to_store (with_owner c.pop_of-popped.new.owner c.args.driver.now.hand)) c.requires.fits
    (found_suits c.args.driver.now c.args.is_to_store c.requires.next c.requires.fits c.pop_of-popped.new.owner (readiness_of c.in-Some-popped.ticket)) (found_now g c)

pub returns-in-None-popped-clause-pops : goal.returns-in-None-popped-clause-pops
returns-in-None-popped-clause-pops g c =
    was_empty c.args.driver.now c.tell_queue.new.self c.in-Some.owner.now c.pop_of-popped.new.owner (rw c.in-Some.is at c.owner.ensures.owner) c.in-None-popped.ensures.same c.args.is_to_store
    (rw c.run-run.ensures at c.in-None-popped.ensures.none) c.tell_queue.ensures

pub returns-in-None-popped-clause-fits : goal.returns-in-None-popped-clause-fits
returns-in-None-popped-clause-fits g c =
    fits_now c.args.driver.now c.tell_queue.new.self told.Empty (with_owner c.pop_of-popped.new.owner c.args.driver.now.hand) c.requires.fits
    (none_suits c.args.driver.now c.args.is_to_store c.requires.next c.requires.fits c.pop_of-popped.new.owner) c.tell_queue.ensures
