use Rattle.gmp_core.proofs.Lent.{lent_core, lent_is_in_hand, lent_where_held, same_core, same_read, whole_lent, whole_same}
use Rattle.gmp_core.proofs.Stock.{found}
use Rattle.gmp_core.proofs.engine.Core.body.Goals as goal

pub invariant_of-self-lent : goal.invariant_of-self-lent
invariant_of-self-lent g c =
    let x = c.in_ok-self-inside.field-0.now in
    let at = found c.self.inside.drivers.items c.args.m.0 x c.in_ok-self-inside.ensures.item.3.0 c.in_ok-self-inside.ensures.value in
    λ r. (lent_core _ c.args.m x at c.self.invariant, same_core _ c.args.m x at c.self.invariant)

pub returns : goal.returns
returns g c =
    let x = c.in_ok-self-inside.field-0.now in
    let at = found c.self.inside.drivers.items c.args.m.0 x c.in_ok-self-inside.ensures.item.3.0 c.in_ok-self-inside.ensures.value in
    let core = c.self.invariant in
    let k = c.args.self.now in (
      same_read _ _ _ _ _ (whole_lent _ c.args.m x at core k c.self.view_is) (whole_same _ c.args.m x at core k c.self.view_is),
      record {
        lends = tt;
        some = lent_where_held _ c.args.m x at core k c.self.view_is c.body.result c.body.ensures.body;
        body = lent_is_in_hand _ c.args.m x at core k c.self.view_is c.body.result c.body.ensures.body;
      },
    )
