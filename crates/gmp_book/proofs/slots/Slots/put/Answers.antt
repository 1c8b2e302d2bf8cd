use Rattle.std.proofs.Common.{rules}
use Rattle.gmp_book.proofs.slots.Slots.put.Goals as goal

pub returns : goal.returns
returns g c = search rules
