use Rattle.std.proofs.Common.{refl}
use Rattle.gmp_journal.proofs.Saying.{says_alone}
use Rattle.gmp_book.proofs.book.Book.leave.Goals as goal

pub call-values-requires-clause-suits : goal.call-values-requires-clause-suits
call-values-requires-clause-suits g c = (c.args.called.run, c.args.called.g, rw c.of-values.ensures refl)

pub returns-in-None-Some-None-None-Err-clause-refused : goal.returns-in-None-Some-None-None-Err-clause-refused
returns-in-None-Some-None-None-Err-clause-refused g c = says_alone _ _ (rw (c.in-None-Some-None-None-Err.is-4, c.of-values.ensures) at c.call-values.ensures.refused)
