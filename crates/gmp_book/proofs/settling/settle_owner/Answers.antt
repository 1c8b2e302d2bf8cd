use Rattle.std.proofs.Common.{rules}
use Rattle.gmp_book.proofs.settling.settle_owner.Goals as goal

pub returns-in-Proc : goal.returns-in-Proc
returns-in-Proc c = search rules
