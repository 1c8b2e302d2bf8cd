use Rattle.gmp_acts.proofs.Granted.{granted}
use Rattle.gmp_acts.proofs.Losing.{entry_or_memory}
use Rattle.gmp_acts.proofs.laws.calls_are_granted.Goals as goal

pub returns-clause-granted : goal.returns-clause-granted
returns-clause-granted c = λ k m asked s inside acts goes. granted k m asked inside s acts goes

pub returns-clause-entry : goal.returns-clause-entry
returns-clause-entry c = λ k m choice asked end s inside next goes acts. entry_or_memory k m choice asked end s inside next goes acts
