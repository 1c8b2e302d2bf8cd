use Rattle.std.proofs.Common.{rules}
use Rattle.gmp_book.proofs.slots.Slots.take.Goals as goal

pub returns-clause-slots : goal.returns-clause-slots
returns-clause-slots g c = search rules
