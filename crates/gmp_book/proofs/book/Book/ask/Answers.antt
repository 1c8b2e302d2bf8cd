use Rattle.std.proofs.Common.{None, Some}
use Rattle.gmp_journal.specs.Handed.{by_held}
use Rattle.gmp_journal.specs.Refusals.{refusal_of}
use Rattle.gmp_book.proofs.Asking.{Asked, asked, ours, plain}
use Rattle.gmp_book.proofs.book.Book.ask.Given.{Over}
use Rattle.gmp_book.proofs.book.Book.ask.Goals as goal

pub returns-in-Ok-clause-plain : goal.returns-in-Ok-clause-plain
returns-in-Ok-clause-plain g c = λ needs.
    let old = c.args.self.now.log in
    plain c.args.call old.limits old.state (refusal_of old c.args.pass.now c.args.call (by_held c.args.held)) None needs (rw (c.in-Ok.is, c.of-values.ensures) at c.call-values.ensures.refused)

pub returns-in-Err-clause-plain : goal.returns-in-Err-clause-plain
returns-in-Err-clause-plain g c = λ needs.
    let old = c.args.self.now.log in
    plain c.args.call old.limits old.state (refusal_of old c.args.pass.now c.args.call (by_held c.args.held)) (Some c.in-Err.why) needs (rw (c.in-Err.is, c.of-values.ensures) at c.call-values.ensures.refused)

its : (g : Over) (c : goal.After-of g) → Asked c.args.call c.in-Ok.reply c.args.held c.call-values.result.0 c.args.self.now c.call-values.new.self
its g c =
    let k = c.call-values.ensures in
    let old = c.args.self.now in
    let same = ours old.log.run c.args.held (rw (c.in-Ok.is, c.of-values.ensures) at k.ours) in
    let effect = (rw c.in-Ok.is at k.records).step.1 in
    asked old.log.limits c.args.call c.args.pass.now.m c.in-Ok.reply c.args.held c.call-values.result.0 old c.call-values.new.self c.requires.own same effect
    (rw (c.in-Ok.is, c.of-values.ensures) at k.hands)

pub returns-in-Ok-clause-goes : goal.returns-in-Ok-clause-goes
returns-in-Ok-clause-goes g c = rw (c.of.ensures, c.parts-held.ensures) (its g c).goes

pub returns-in-Ok-clause-moves : goal.returns-in-Ok-clause-moves
returns-in-Ok-clause-moves g c = rw (c.of.ensures, c.parts-held.ensures) (its g c).moves

pub returns-in-Ok-clause-body : goal.returns-in-Ok-clause-body
returns-in-Ok-clause-body g c = rw (c.of.ensures, c.parts-held.ensures) (its g c).body

pub returns-in-Ok-clause-refused : goal.returns-in-Ok-clause-refused
returns-in-Ok-clause-refused g c = rw (c.in-Ok.is, c.of-values.ensures) at c.call-values.ensures.refused

pub returns-in-Err-clause-refused : goal.returns-in-Err-clause-refused
returns-in-Err-clause-refused g c = rw (c.in-Err.is, c.of-values.ensures) at c.call-values.ensures.refused

pub returns-in-Ok-clause-done : goal.returns-in-Ok-clause-done
returns-in-Ok-clause-done g c = rw (c.in-Ok.is, c.of-values.ensures) at c.call-values.ensures.done
