use Rattle.std.proofs.Common.{None, sym, ◌∙◌}
use Rattle.gmp_driver.specs.declared.act.Told.TheVariants as told
use Rattle.gmp_driver.specs.Own.{with_owner}
use Rattle.gmp_worker.proofs.Tries.{fits_now, push_has, push_owns, pushed_suits, refused_suits, was_pushed, was_refused}
use Rattle.gmp_worker.proofs.trying.push.Goals as goal

pub unreachable-requires : goal.unreachable-requires
unreachable-requires g c = push_has c.args.driver.now c.requires.next c.requires.fits (sym c.to_store.ensures ∙ c.in_default.is)

pub unreachable-requires-in-None : goal.unreachable-requires-in-None
unreachable-requires-in-None g c = push_owns c.args.driver.now c.requires.next c.requires.fits (rw c.in-None.is at c.owner.ensures.owner)

pub tell_stored-requires : goal.tell_stored-requires
tell_stored-requires g c = pushed_suits c.args.driver.now c.requires.next c.requires.fits c.push-pushed.new.self

pub tell_queue-requires : goal.tell_queue-requires
tell_queue-requires g c = refused_suits c.args.driver.now c.requires.next c.requires.fits c.push-pushed.new.self

pub returns-in-Ok-clause-pushes : goal.returns-in-Ok-clause-pushes
returns-in-Ok-clause-pushes g c =
    was_pushed c.args.driver.now c.tell_stored.new.self c.in-Some-owner.owner.now c.push-pushed.new.self (rw c.in-Some-owner.is at c.owner.ensures.owner) c.in-Ok.ensures.same c.in-Some.r (sym c.to_store.ensures ∙ c.in-Some.is)
    (rw (c.by.ensures, c.run-run.ensures) at c.in-Ok.ensures.step) c.tell_stored.ensures

pub returns-in-Ok-clause-fits : goal.returns-in-Ok-clause-fits
returns-in-Ok-clause-fits g c =
    fits_now c.args.driver.now c.tell_stored.new.self told.Pushed (record (with_owner c.push-pushed.new.self c.args.driver.now.hand) { to_store = None }) c.requires.fits
    (pushed_suits c.args.driver.now c.requires.next c.requires.fits c.push-pushed.new.self) c.tell_stored.ensures

pub returns-in-Err-clause-pushes : goal.returns-in-Err-clause-pushes
returns-in-Err-clause-pushes g c =
    was_refused c.args.driver.now c.tell_queue.new.self c.in-Some-owner.owner.now c.push-pushed.new.self (rw c.in-Some-owner.is at c.owner.ensures.owner) c.in-Err.ensures.same c.in-Err.ensures.step.1 c.tell_queue.ensures

pub returns-in-Err-clause-fits : goal.returns-in-Err-clause-fits
returns-in-Err-clause-fits g c =
    fits_now c.args.driver.now c.tell_queue.new.self told.PushRefused (with_owner c.push-pushed.new.self c.args.driver.now.hand) c.requires.fits
    (refused_suits c.args.driver.now c.requires.next c.requires.fits c.push-pushed.new.self) c.tell_queue.ensures
