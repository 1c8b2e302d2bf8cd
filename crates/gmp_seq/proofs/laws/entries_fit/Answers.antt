use Rattle.gmp_seq.proofs.Fitting.{legal_entries_fit}
use Rattle.gmp_seq.proofs.laws.entries_fit.Goals as goal

pub returns : goal.returns
returns c = legal_entries_fit
