use Rattle.std.proofs.Common.{rules}
use Rattle.gmp_check.proofs.state.State.park.Goals as goal

pub returns-in-Parked-clause-decides : goal.returns-in-Parked-clause-decides
returns-in-Parked-clause-decides c = search rules
