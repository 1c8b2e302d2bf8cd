use Rattle.std.proofs.Common.{rules}
use Rattle.gmp_book.proofs.book.Book.surrender_refusal.Goals as goal

pub returns : goal.returns
returns g c = search rules
