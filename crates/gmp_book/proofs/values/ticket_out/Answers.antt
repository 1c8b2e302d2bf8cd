use Rattle.std.proofs.Common.{rules}
use Rattle.gmp_book.proofs.values.ticket_out.Goals as goal

pub returns : goal.returns
returns c = search rules
