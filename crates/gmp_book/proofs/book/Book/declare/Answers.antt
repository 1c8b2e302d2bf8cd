use Rattle.std.proofs.Common.{refl}
use Rattle.gmp_journal.proofs.Saying.{says_alone}
use Rattle.gmp_book.proofs.book.Book.declare.Goals as goal

pub call-values-requires-clause-suits : goal.call-values-requires-clause-suits
call-values-requires-clause-suits g c = (c.args.proc.run, c.args.proc.p, rw c.of-values.ensures refl)

pub returns-in-None-None-None-Some-Err-clause-refused : goal.returns-in-None-None-None-Some-Err-clause-refused
returns-in-None-None-None-Some-Err-clause-refused g c = says_alone _ _ (rw (c.in-None-None-None-Some-Err.is-4, c.of-values.ensures) at c.call-values.ensures.refused)

pub returns-in-None-None-None-None-Ok-clause-refused : goal.returns-in-None-None-None-None-Ok-clause-refused
returns-in-None-None-None-None-Ok-clause-refused g c = says_alone _ _ (rw (c.in-None-None-None-None-Ok.is-4, c.of-values.ensures) at c.call-values.ensures.refused)
