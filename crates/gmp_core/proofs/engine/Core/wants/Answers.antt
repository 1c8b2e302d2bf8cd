use Rattle.std.proofs.Common.{ap, sym}
use Rattle.gmp_core.specs.Whole.{Whole, wanted_by}
use Rattle.gmp_core.proofs.Stock.{found}
use Rattle.gmp_core.proofs.Together.{has_pass, next_is}
use Rattle.gmp_core.proofs.Wanting.{reads_of_body}
use Rattle.gmp_core.proofs.engine.Core.wants.Goals as goal

pub wanted_next-requires : goal.wanted_next-requires
wanted_next-requires g c =
    let at = found c.deref.result.now c.args.m.0 c.in-Some.driver.now c.in-Some.ensures.lookup.3.0 c.in-Some.ensures.lookup.1 in
    has_pass _ c.args.m c.in-Some.driver.now (rw (← c.deref.ensures.value) at) c.self.invariant

pub returns-in-Some-clause-wants : goal.returns-in-Some-clause-wants
returns-in-Some-clause-wants g c =
    let at = found c.deref.result.now c.args.m.0 c.in-Some.driver.now c.in-Some.ensures.lookup.3.0 c.in-Some.ensures.lookup.1 in
    rw (← ap (λ (w : Whole _). w.system) c.self.view_is, c.wanted_next.ensures) (ap wanted_by (sym (next_is (record { book = c.self.inside.book; rings = c.self.inside.queues; machines = c.self.inside.drivers.items }) c.args.m c.in-Some.driver.now (rw (← c.deref.ensures.value) at))))

pub returns-in-Some-clause-body : goal.returns-in-Some-clause-body
returns-in-Some-clause-body g c =
    let at = found c.deref.result.now c.args.m.0 c.in-Some.driver.now c.in-Some.ensures.lookup.3.0 c.in-Some.ensures.lookup.1 in
    rw (← ap (λ (w : Whole _). w.system) c.self.view_is, c.wanted_next.ensures, ← next_is (record { book = c.self.inside.book; rings = c.self.inside.queues; machines = c.self.inside.drivers.items }) c.args.m c.in-Some.driver.now (rw (← c.deref.ensures.value) at))
    (reads_of_body (record { book = c.self.inside.book; rings = c.self.inside.queues; machines = c.self.inside.drivers.items }) c.args.m c.in-Some.driver.now (rw (← c.deref.ensures.value) at) c.self.invariant)
