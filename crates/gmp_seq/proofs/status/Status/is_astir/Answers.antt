use Rattle.std.proofs.Common.{rules}
use Rattle.gmp_seq.proofs.status.Status.is_astir.Goals as goal

pub returns-in-Waiting : goal.returns-in-Waiting
returns-in-Waiting c = search rules
