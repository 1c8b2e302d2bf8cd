use Rattle.std.proofs.Common.{rules}
use Rattle.gmp_book.proofs.slots.Slots.of.Goals as goal

pub returns-clause-ok : goal.returns-clause-ok
returns-clause-ok g c = search rules

pub returns-in_default-clause-err : goal.returns-in_default-clause-err
returns-in_default-clause-err g c = search rules
