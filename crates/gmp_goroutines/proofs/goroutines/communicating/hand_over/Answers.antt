use Rattle.std.proofs.Common.{rules}
use Rattle.gmp_goroutines.proofs.goroutines.communicating.hand_over.Goals as goal

pub returns-clause-table : goal.returns-clause-table
returns-clause-table c = search rules
