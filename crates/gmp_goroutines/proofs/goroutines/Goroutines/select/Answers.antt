use Rattle.std.proofs.Common.{rules}
use Rattle.gmp_goroutines.proofs.goroutines.Goroutines.select.Goals as goal

pub returns-in-None-2-clause-selects : goal.returns-in-None-2-clause-selects
returns-in-None-2-clause-selects c = search rules
