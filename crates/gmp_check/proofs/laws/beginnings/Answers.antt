use Rattle.gmp_check.proofs.Beginning.{begins_on, opening_begins}
use Rattle.gmp_check.proofs.laws.beginnings.Goals as goal

pub returns : goal.returns
returns c = record { opening = opening_begins; later = begins_on }
