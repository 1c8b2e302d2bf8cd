use Rattle.gmp_journal.proofs.Segmented.{from_opening}
use Rattle.gmp_journal.proofs.laws.whole_from_opening.Goals as goal

pub returns : goal.returns
returns c = from_opening
