use Rattle.gmp_journal.proofs.Needed.{granted_where}
use Rattle.gmp_journal.proofs.laws.granted_where_needed.Goals as goal

pub returns : goal.returns
returns c = granted_where
