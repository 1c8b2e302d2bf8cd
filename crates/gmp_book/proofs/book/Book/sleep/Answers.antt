use Rattle.std.proofs.Common.{rules}
use Rattle.gmp_book.proofs.book.Book.sleep.Goals as goal

pub returns-clause-entry : goal.returns-clause-entry
returns-clause-entry g c = search rules

pub returns-clause-waits : goal.returns-clause-waits
returns-clause-waits g c = search rules
