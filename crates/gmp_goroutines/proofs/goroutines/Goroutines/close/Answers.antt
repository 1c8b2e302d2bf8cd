use Rattle.std.proofs.Common.{rules}
use Rattle.gmp_goroutines.proofs.goroutines.Goroutines.close.Goals as goal

pub returns-clause-closes : goal.returns-clause-closes
returns-clause-closes c = search rules

pub returns-clause-shelf : goal.returns-clause-shelf
returns-clause-shelf c = search rules
