use Rattle.gmp_goroutines.proofs.Common.{refl, ap, status_of}
use Rattle.gmp_goroutines.proofs.Ties.{kept}
use Rattle.gmp_goroutines.proofs.goroutines.Goroutines.put.Goals as goal

pub invariant_of-self : goal.invariant_of-self
invariant_of-self c = let puts = c.shelve.ensures.puts in kept c.self.invariant c.args.r.g _ _ _ (ap status_of puts.1) refl refl puts.2
