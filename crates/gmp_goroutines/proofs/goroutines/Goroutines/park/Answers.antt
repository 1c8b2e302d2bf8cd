use Rattle.std.proofs.Common.{rules}
use Rattle.gmp_goroutines.proofs.goroutines.Goroutines.park.Goals as goal

pub returns-clause-parks : goal.returns-clause-parks
returns-clause-parks c = search rules
