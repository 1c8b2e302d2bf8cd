use Rattle.gmp_driver.specs.Registers.{used}
use Rattle.gmp_driver.proofs.OfRun.{of_run}
use Rattle.gmp_driver.proofs.driver.Driver.give.Goals as goal

pub returns-clause-run : goal.returns-clause-run
returns-clause-run g c =
    let i = c.self.inside in
    rw (c.take_used.ensures.used, ← c.self.view_is) (of_run i.run c.hand_out-pass.result (used c.next-act.result i.hand) (rw (c.hand_out-pass.ensures.pass) at c.self.invariant.pass))
