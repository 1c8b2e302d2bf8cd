use Rattle.std.proofs.Common.{rules}
use Rattle.gmp_book.proofs.book.Book.surrender_held.Goals as goal

pub put-requires : goal.put-requires
put-requires g c = search rules

pub returns-clause-refused : goal.returns-clause-refused
returns-clause-refused g c = search rules
