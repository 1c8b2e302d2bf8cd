use Rattle.std.proofs.Common.{rules}
use Rattle.gmp_book.proofs.book.Book.surrender_ticket.Goals as goal

pub returns-clause-refused : goal.returns-clause-refused
returns-clause-refused g c = search rules
