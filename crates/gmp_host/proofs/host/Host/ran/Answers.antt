use Rattle.std.proofs.Common.{length, refl, rules, sym, tests}
use Rattle.gmp_host.specs.Ends.{TellsOf}
use Rattle.gmp_host.proofs.Pieces.{said_same, traced_whole}
use Rattle.gmp_host.proofs.host.Host.ran.Goals as goal

pub returns-clause-traced : goal.returns-clause-traced
returns-clause-traced g c =
    let count = length c.args.self.bodies.items in
    let tells : TellsOf c.limits-limits.result count c.as_slice.result.now c.in-Ok.report.history.list c.unwrap-outcome.result c.in_ok-told.told.waiting.items c.in_ok-told.told.lately.items = search rules in
    traced_whole c.limits-limits.result _ c.as_slice.result.now c.args.self.capacities.items count c.in-Ok.report _ c.limits-limits.ensures c.as_slice.ensures.value c.in-Ok.ensures.report
    (search (rules, tests)) (sym c.len.ensures.value) tells refl c.limits-limits.ensures refl (search rules)

-- the history is what was said
pub returns-clause-said : goal.returns-clause-said
returns-clause-said g c =
    (c.in-Ok.report.bodies.items, said_same c.limits-limits.result _ c.as_slice.result.now c.args.self.capacities.items _ _ _ c.limits-limits.ensures c.as_slice.ensures.value c.in-Ok.ensures.says)
