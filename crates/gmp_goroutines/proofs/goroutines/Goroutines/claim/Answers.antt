use Rattle.gmp_goroutines.proofs.Common.{refl, ap, status_of}
use Rattle.gmp_goroutines.proofs.Ties.{claimed_kept}
use Rattle.gmp_goroutines.proofs.goroutines.Goroutines.claim.Goals as goal

pub invariant_of-self : goal.invariant_of-self
invariant_of-self c =
    let needs = rw (← c.self.view_is) at c.requires in
    let claims = c.claim.ensures.claims in
    claimed_kept c.self.invariant c.args.m c.args.r.g _ _ _ (ap status_of claims.1) refl needs.free needs.there claims.2
