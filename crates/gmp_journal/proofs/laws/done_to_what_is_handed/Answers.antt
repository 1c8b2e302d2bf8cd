use Rattle.gmp_journal.proofs.Done.{done}
use Rattle.gmp_journal.proofs.laws.done_to_what_is_handed.Goals as goal

pub returns : goal.returns
returns c = done
