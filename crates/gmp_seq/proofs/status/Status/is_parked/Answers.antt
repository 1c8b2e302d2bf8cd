use Rattle.std.proofs.Common.{rules}
use Rattle.gmp_seq.proofs.status.Status.is_parked.Goals as goal

pub returns-in-Parked : goal.returns-in-Parked
returns-in-Parked c = search rules
