use Rattle.std.proofs.Common.{rules}
use Rattle.gmp_goroutines.proofs.goroutines.Goroutines.make.Goals as goal

pub returns-then-is_full-clause-makes : goal.returns-then-is_full-clause-makes
returns-then-is_full-clause-makes c = search rules

pub returns-in_err-c-clause-needed : goal.returns-in_err-c-clause-needed
returns-in_err-c-clause-needed c = search rules

pub returns-clause-makes : goal.returns-clause-makes
returns-clause-makes c = search rules
