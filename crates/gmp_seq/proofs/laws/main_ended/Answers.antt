use Rattle.gmp_seq.proofs.Ends.{legal_main_ended}
use Rattle.gmp_seq.proofs.laws.main_ended.Goals as goal

pub returns : goal.returns
returns c = legal_main_ended
