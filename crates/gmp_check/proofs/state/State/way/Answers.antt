use Rattle.std.proofs.Common.{Option, sym, subst}
use Rattle.gmp_base.specs.declared.cases.Case.{Case}
use Rattle.gmp_base.specs.declared.cases.Case.TheVariants as case
use Rattle.gmp_base.specs.declared.number.CNo.{CNo}
use Rattle.gmp_check.specs.Ways.{IsWay}
use Rattle.gmp_check.proofs.state.State.way.Goals as goal

pub returns-in_ok-c-in-Send : goal.returns-in_ok-c-in-Send
returns-in_ok-c-in-Send c =
    let k = c.in-Send in
    subst (λ (x : Case). IsWay c.args.self.now x c.way_of_send.result) (sym k.is)
    (subst (λ (o : Option CNo). IsWay c.args.self.now (case.Send o k.field-1) c.way_of_send.result) (sym c.in_ok-c-in-Send.was) (c.way_of_send.ensures k.field-1))
