use Rattle.gmp_goroutines.proofs.Ties.{latest, runner_unlisted, waits_kept}
use Rattle.gmp_goroutines.proofs.goroutines.Goroutines.wait.Goals as goal

pub wait_on-requires-clause-fresh : goal.wait_on-requires-clause-fresh
wait_on-requires-clause-fresh c = let runs = rw (← c.self.view_is) at c.requires.runs in runner_unlisted c.self.invariant _ c.args.g runs.1

pub wait_on-requires-clause-later : goal.wait_on-requires-clause-later
wait_on-requires-clause-later c = rw c.arrivals.ensures (latest c.self.invariant)

pub invariant_of-self : goal.invariant_of-self
invariant_of-self c =
    let runs = rw (← c.self.view_is) at c.requires.runs in
    rw (c.wait_on.ensures, c.arrivals.ensures) (waits_kept c.self.invariant _ c.args.g c.args.kind c.args.offers c.args.until _ runs.1 c.requires.bare c.wait.ensures.table)
