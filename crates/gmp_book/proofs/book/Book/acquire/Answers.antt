use Rattle.gmp_journal.proofs.Saying.{says_alone}
use Rattle.gmp_book.proofs.book.Book.acquire.Goals as goal

pub returns-in-None-None-None-None-Err-clause-refused : goal.returns-in-None-None-None-None-Err-clause-refused
returns-in-None-None-None-None-Err-clause-refused g c = says_alone _ _ (rw (c.in-None-None-None-None-Err.is-4, c.of-values.ensures) at c.call-values.ensures.refused)
