use Rattle.std.proofs.Common.{rules}
use Rattle.gmp_book.proofs.book.Book.surrender_proc.Goals as goal

pub returns-clause-ok : goal.returns-clause-ok
returns-clause-ok g c = search rules
