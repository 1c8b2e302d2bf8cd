use Rattle.gmp_goroutines.proofs.Ties.{latest, runner_unlisted, waits_kept}
use Rattle.gmp_seq.specs.declared.status.Kind.TheVariants as kind
use Rattle.gmp_seq.specs.Waits.{offers_of}
use Rattle.gmp_goroutines.proofs.goroutines.Goroutines.wait_for_any.Goals as goal

pub register-offers-requires-clause-fresh : goal.register-offers-requires-clause-fresh
register-offers-requires-clause-fresh c = let runs = rw (← c.self.view_is) at c.requires.runs in runner_unlisted c.self.invariant _ c.args.g runs.1

pub register-offers-requires-clause-later : goal.register-offers-requires-clause-later
register-offers-requires-clause-later c = rw c.arrivals.ensures (latest c.self.invariant)

pub invariant_of-self : goal.invariant_of-self
invariant_of-self c =
    let runs = rw (← c.self.view_is) at c.requires.runs in
    rw (c.register-offers.ensures.waiters, c.arrivals.ensures)
    (waits_kept c.self.invariant _ c.args.g kind.Select (offers_of c.args.cases.now) c.args.until _ runs.1 (λ e. absurd cc) (rw c.register-offers.ensures.offers at c.wait.ensures.table))
