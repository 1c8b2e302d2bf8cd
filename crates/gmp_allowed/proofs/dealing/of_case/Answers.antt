use Rattle.std.proofs.Common.{Option, ap, sym, subst, ◌∙◌}
use Rattle.gmp_base.specs.declared.cases.Case.{Case}
use Rattle.gmp_base.specs.declared.cases.Case.TheVariants as case
use Rattle.gmp_base.specs.declared.number.CNo.{CNo}
use Rattle.gmp_start.specs.Start.{state_of}
use Rattle.gmp_allowed.specs.Tried.{AddsEach, IsDealt}
use Rattle.gmp_allowed.proofs.Results.{on_ok}
use Rattle.gmp_allowed.proofs.dealing.of_case.Goals as goal

pub returns-in-Send-Some-default : goal.returns-in-Send-Some-default
returns-in-Send-Some-default c =
    let a = c.args in
    let send = c.in-Send-Some-default in
    let some = rw send.is at send.field-0-is in
    let is = send.is ∙ ap (λ (o : Option CNo). case.Send o send.field-1) some in
    on_ok c.of_send.result (λ h. subst (λ (x : Case). AddsEach (IsDealt a.i x (state_of a.last.now)) a.out.now.items c.of_send.new.out.items) (sym is) (h send.field-1)) c.of_send.ensures
