use Rattle.gmp_goroutines.proofs.Common.{refl}
use Rattle.gmp_goroutines.proofs.Ties.{claimed_kept}
use Rattle.gmp_goroutines.proofs.goroutines.Goroutines.run_on.Goals as goal

pub invariant_of-self : goal.invariant_of-self
invariant_of-self c =
    let needs = rw (← c.self.view_is) at c.requires in
    claimed_kept c.self.invariant c.args.m c.args.g _ _ _ needs.calls refl needs.free needs.there c.leave.ensures.table
