use Rattle.std.proofs.Common.{rules}
use Rattle.gmp_book.proofs.values.handed_back.Goals as goal

pub returns-in-OutOfMemory : goal.returns-in-OutOfMemory
returns-in-OutOfMemory g c = search rules
