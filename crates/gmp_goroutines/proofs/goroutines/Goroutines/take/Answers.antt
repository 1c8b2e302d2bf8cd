use Rattle.gmp_goroutines.proofs.Common.{refl, ap, status_of}
use Rattle.gmp_goroutines.proofs.Ties.{kept}
use Rattle.gmp_goroutines.proofs.goroutines.Goroutines.take.Goals as goal
use Rattle.gmp_goroutines.proofs.goroutines.Goroutines.take.Goals.{in-Some, in-None}

pub invariant_of-self : goal.invariant_of-self
invariant_of-self c = elim c.match-unshelve.branch [
  | in-Some w ↦ let takes = w.in-Some.ensures.taken in kept c.self.invariant w.in-Some.r.g _ _ _ (ap status_of takes.1) refl refl takes.2
  | in-None w ↦ rw w.in-None.ensures.none.1 c.self.invariant
]
