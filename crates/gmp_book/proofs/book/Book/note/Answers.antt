use Rattle.std.proofs.Common.{None, Some}
use Rattle.gmp_journal.specs.Handed.{nothing_handed}
use Rattle.gmp_journal.specs.Refusals.{refusal_of}
use Rattle.gmp_book.proofs.Asking.{plain}
use Rattle.gmp_book.proofs.Staying.{values_kept}
use Rattle.gmp_book.proofs.book.Book.note.Goals as goal

pub returns-in-Ok-clause-refused : goal.returns-in-Ok-clause-refused
returns-in-Ok-clause-refused g c =
    let old = c.args.self.now.log in
    plain c.args.call old.limits old.state (refusal_of old c.args.pass.now c.args.call nothing_handed) None c.requires.plain (rw (c.in-Ok.is, c.of-values.ensures) at c.call-values.ensures.refused)

pub returns-in-Err-clause-refused : goal.returns-in-Err-clause-refused
returns-in-Err-clause-refused g c =
    let old = c.args.self.now.log in
    plain c.args.call old.limits old.state (refusal_of old c.args.pass.now c.args.call nothing_handed) (Some c.in-Err.why) c.requires.plain (rw (c.in-Err.is, c.of-values.ensures) at c.call-values.ensures.refused)

pub returns-in-Ok-clause-done : goal.returns-in-Ok-clause-done
returns-in-Ok-clause-done g c = rw (c.in-Ok.is, c.of-values.ensures) at c.call-values.ensures.done

pub returns-in-Ok-clause-values : goal.returns-in-Ok-clause-values
returns-in-Ok-clause-values g c =
    let records = rw c.in-Ok.is at c.call-values.ensures.records in
    let hands = rw c.in-Ok.is at c.call-values.ensures.hands in
    values_kept c.args.call c.in-Ok.reply c.of-values.result c.call-values.result.0 c.args.self.now c.call-values.new.self c.args.pass.now.m c.requires.still c.of-values.ensures records.step.1 hands
