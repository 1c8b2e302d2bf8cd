use Rattle.std.proofs.Common.{rules}
use Rattle.gmp_goroutines.proofs.Common.{refl}
use Rattle.gmp_goroutines.proofs.Ties.{kept}
use Rattle.gmp_goroutines.proofs.goroutines.Goroutines.yield_to.Goals as goal

pub invariant_of-self : goal.invariant_of-self
invariant_of-self c = let runs = rw (← c.self.view_is) at c.requires.runs in kept c.self.invariant c.args.g _ _ _ runs.1 refl refl c.requeue.ensures.table

pub returns-clause-yields : goal.returns-clause-yields
returns-clause-yields c = search rules
