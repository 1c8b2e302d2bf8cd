use Rattle.std.proofs.Common.{ap}
use Rattle.gmp_core.specs.Whole.{Whole}
use Rattle.gmp_core.proofs.Stock.{found}
use Rattle.gmp_core.proofs.Together.{speaker_is}
use Rattle.gmp_core.proofs.engine.Core.speaker.Goals as goal

pub returns : goal.returns
returns g c =
    let at = found c.deref.result.now c.args.m.0 c.in_ok-get.field-0.now c.in_ok-get.ensures.lookup.3.0 c.in_ok-get.ensures.lookup.1 in
    rw (← ap (λ (w : Whole _). w.system) c.self.view_is, c.speaker.ensures) (speaker_is (record { book = c.self.inside.book; rings = c.self.inside.queues; machines = c.self.inside.drivers.items }) c.args.m c.in_ok-get.field-0.now (rw (← c.deref.ensures.value) at))
