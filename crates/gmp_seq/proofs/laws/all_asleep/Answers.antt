use Rattle.gmp_seq.proofs.Ends.{legal_all_asleep}
use Rattle.gmp_seq.proofs.laws.all_asleep.Goals as goal

pub returns : goal.returns
returns c = legal_all_asleep
