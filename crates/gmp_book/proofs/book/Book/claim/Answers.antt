use Rattle.std.proofs.Common.{refl}
use Rattle.gmp_journal.proofs.Saying.{says_alone}
use Rattle.gmp_book.proofs.book.Book.claim.Goals as goal

pub call-values-requires-clause-suits : goal.call-values-requires-clause-suits
call-values-requires-clause-suits g c = (c.args.ticket.run, rw (c.of-values.ensures, c.readiness.ensures) refl)

pub returns-in-None-None-Some-None-Err-clause-refused : goal.returns-in-None-None-Some-None-Err-clause-refused
returns-in-None-None-Some-None-Err-clause-refused g c =
    let k = c.in-None-None-Some-None-Err in
    says_alone _ _ (rw (k.is-4, c.of-values.ensures) at c.call-values.ensures.refused)

pub returns-in-Some-None-None-None-Ok-clause-refused : goal.returns-in-Some-None-None-None-Ok-clause-refused
returns-in-Some-None-None-None-Ok-clause-refused g c = says_alone _ _ (rw (c.in-Some-None-None-None-Ok.is-4, c.of-values.ensures) at c.call-values.ensures.refused)
