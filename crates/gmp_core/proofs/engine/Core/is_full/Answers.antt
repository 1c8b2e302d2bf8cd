use Rattle.std.proofs.Common.{ap}
use Rattle.gmp_core.specs.Whole.{Whole}
use Rattle.gmp_core.proofs.Together.{never_waits}
use Rattle.gmp_core.proofs.engine.Core.is_full.Goals as goal

pub returns-then-is_full-clause-kept : goal.returns-then-is_full-clause-kept
returns-then-is_full-clause-kept g c = λ kept whole.
    let system = ap (λ (w : Whole _). w.system) c.self.view_is in
    never_waits _ c.self.invariant (rw (← system) at kept) (rw (← system) at whole) c.is_over.result c.is_over.ensures (c.is_full.ensures.0 c.if-is_full.true)
