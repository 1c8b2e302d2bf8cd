use Rattle.std.proofs.Common.{rules}
use Rattle.gmp_book.proofs.book.Book.outcome.Goals as goal

pub returns-clause-outcome : goal.returns-clause-outcome
returns-clause-outcome g c = search rules
