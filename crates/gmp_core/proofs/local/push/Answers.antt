use Rattle.std.proofs.Common.{refl, sym, ◌∙◌}
use Rattle.gmp_driver.specs.declared.act.Told.TheVariants as told
use Rattle.gmp_driver.proofs.OwnQueue.{push_done, push_refused}
use Rattle.gmp_core.proofs.Landing.{fits_now, keeps_now, stored_now, without_stored}
use Rattle.gmp_core.proofs.Owning.{found_ticket, push_owns, was_pushed, was_refused}
use Rattle.gmp_core.proofs.local.push.Goals as goal

-- The push is refused

pub tell_queue-requires : goal.tell_queue-requires
tell_queue-requires g c =
    let x = c.args.driver.now in
    push_refused x c.requires.fits x.hand c.requires.next refl

pub returns-then-refused-clause-acts : goal.returns-then-refused-clause-acts
returns-then-refused-clause-acts g c =
    let x = c.args.driver.now in
    rw c.if-refused.true (was_refused x c.tell_queue.new.self c.args.queues.now.queues (found_ticket x c.requires.next c.requires.fits) c.tell_queue.ensures)

pub returns-then-refused-clause-hand : goal.returns-then-refused-clause-hand
returns-then-refused-clause-hand g c = keeps_now c.args.driver.now c.tell_queue.new.self told.PushRefused c.tell_queue.ensures

pub returns-then-refused-clause-fits : goal.returns-then-refused-clause-fits
returns-then-refused-clause-fits g c =
    let x = c.args.driver.now in
    fits_now x c.tell_queue.new.self told.PushRefused x.hand (push_refused x c.requires.fits x.hand c.requires.next refl) c.tell_queue.ensures

-- The push is taken

pub unreachable-requires : goal.unreachable-requires
unreachable-requires g c = push_owns c.args.driver.now c.requires.next c.requires.fits (sym c.processor.ensures ∙ c.in_default.is)

pub push-requires-clause-there : goal.push-requires-clause-there
push-requires-clause-there g c = (c.requires.room c.in-Some-to_store.r (sym c.to_store.ensures ∙ c.in-Some-to_store.is) c.in-Some.p (sym c.processor.ensures ∙ c.in-Some.is)).0

pub push-requires-clause-room : goal.push-requires-clause-room
push-requires-clause-room g c = (c.requires.room c.in-Some-to_store.r (sym c.to_store.ensures ∙ c.in-Some-to_store.is) c.in-Some.p (sym c.processor.ensures ∙ c.in-Some.is)).1

pub tell_stored-requires : goal.tell_stored-requires
tell_stored-requires g c =
    let x = c.args.driver.now in
    push_done x c.requires.fits (without_stored x.hand) c.requires.next refl

pub returns-clause-acts : goal.returns-clause-acts
returns-clause-acts g c =
    rw (c.if-refused.false, c.push.ensures)
    (was_pushed c.args.driver.now c.tell_stored.new.self c.args.queues.now.queues _ c.in-Some.p (sym c.processor.ensures ∙ c.in-Some.is) c.in-Some-to_store.r (sym c.to_store.ensures ∙ c.in-Some-to_store.is) refl c.tell_stored.ensures)

pub returns-clause-hand : goal.returns-clause-hand
returns-clause-hand g c = stored_now c.args.driver.now c.tell_stored.new.self told.Pushed c.tell_stored.ensures

pub returns-clause-fits : goal.returns-clause-fits
returns-clause-fits g c =
    let x = c.args.driver.now in
    fits_now x c.tell_stored.new.self told.Pushed (without_stored x.hand) (push_done x c.requires.fits (without_stored x.hand) c.requires.next refl) c.tell_stored.ensures
