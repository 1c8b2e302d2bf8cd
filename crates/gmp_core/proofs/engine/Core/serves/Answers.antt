use Rattle.std.proofs.Common.{ap}
use Rattle.gmp_core.specs.Whole.{Whole}
use Rattle.gmp_core.proofs.Served.{served}
use Rattle.gmp_core.proofs.engine.Core.serves.Goals as goal

pub returns : goal.returns
returns g c = record {
  served = λ m r moves count end. served _ c.args.self.now m r moves count end c.self.invariant (ap (λ (w : Whole _). w.system) c.self.view_is);
}
