use Rattle.std.proofs.Common.{ap}
use Rattle.gmp_core.specs.Whole.{Whole}
use Rattle.gmp_core.proofs.Together.{core_headline}
use Rattle.gmp_core.proofs.engine.Core.keeps.Goals as goal

pub returns-clause-headline : goal.returns-clause-headline
returns-clause-headline g c = rw (← ap (λ (w : Whole _). w.system) c.self.view_is) (core_headline _ c.self.invariant)

pub returns-clause-awake : goal.returns-clause-awake
returns-clause-awake g c = rw (← ap (λ (w : Whole _). w.system) c.self.view_is) c.self.invariant.watchful.awake
