use Rattle.gmp_goroutines.proofs.Common.{refl, sym, ◌∙◌}
use Rattle.gmp_goroutines.proofs.Ties.{runs_told}
use Rattle.gmp_goroutines.proofs.goroutines.Goroutines.runs_some.Goals as goal

pub returns-in-Some : goal.returns-in-Some
returns-in-Some c =
    rw (← c.self.view_is) (runs_told c.args.m _ _ c.self.invariant (sym (rw c.deref.ensures.value at c.last_on.ensures) ∙ c.in-Some.is) tt c.runs.ensures)

pub returns-in-None : goal.returns-in-None
returns-in-None c =
    rw (← c.self.view_is) (runs_told c.args.m _ _ c.self.invariant (sym (rw c.deref.ensures.value at c.last_on.ensures) ∙ c.in-None.is) refl tt)
