use Rattle.gmp_goroutines.proofs.Ties.{proceeds_kept, served_off}
use Rattle.gmp_goroutines.proofs.goroutines.Goroutines.proceed.Goals as goal

pub serve_plain-requires-clause-off : goal.serve_plain-requires-clause-off
serve_plain-requires-clause-off c = λ w. served_off c.self.invariant _ _ c.args.case c.in-Some.how w c.in-Some.ensures.proceeds

pub invariant_of-self : goal.invariant_of-self
invariant_of-self c =
    rw (c.in-Some.ensures.waiters, c.in-Some.ensures.bodies)
    (proceeds_kept c.self.invariant _ _ c.args.case c.in-Some.how _ c.in-Some.ensures.proceeds c.serve_plain.ensures.table)
