use Rattle.gmp_goroutines.proofs.Common.{refl}
use Rattle.gmp_goroutines.proofs.Ties.{kept}
use Rattle.gmp_goroutines.proofs.goroutines.Goroutines.go.Goals as goal

pub invariant_of-self : goal.invariant_of-self
invariant_of-self c = let starts = c.start.ensures.starts in kept c.self.invariant c.args.body _ _ _ starts.0 refl refl starts.2
