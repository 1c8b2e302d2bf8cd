use Rattle.gmp_goroutines.proofs.Ties.{proceeds_kept, served_off}
use Rattle.gmp_goroutines.proofs.goroutines.Goroutines.take_case.Goals as goal

pub serve-requires-clause-off : goal.serve-requires-clause-off
serve-requires-clause-off c = λ w. served_off c.self.invariant _ _ c.args.case c.unwrap-how.result w (rw c.unwrap-how.ensures at c.complete.ensures.proceeds)

pub invariant_of-self : goal.invariant_of-self
invariant_of-self c =
    let done = rw c.unwrap-how.ensures at c.complete.ensures in
    rw (done.waiters, done.bodies) (proceeds_kept c.self.invariant _ _ c.args.case c.unwrap-how.result _ done.proceeds c.serve.ensures.table)
