use Rattle.std.proofs.Common.{false, sym, subst, ◌∙◌}
use Rattle.gmp_check.proofs.Deciding.{decides_as, decides_chosen, not_chosen}
use Rattle.gmp_check.specs.Decides.{Decides}
use Rattle.gmp_seq.specs.declared.call.Reply.TheVariants as reply
use Rattle.gmp_seq.specs.declared.status.Kind.TheVariants as kind
use Rattle.gmp_seq.specs.Step.{Blocks, Selects}
use Rattle.gmp_check.proofs.state.State.select.Goals as goal

pub returns-in-Some-clause-decides : goal.returns-in-Some-clause-decides
returns-in-Some-clause-decides c =
    let a = c.args in
    subst (λ r. Decides (Selects a.g a.cases.now a.has_default a.until r) a.self.now c.communicate.new.self c.communicate.result) (sym c.in-Chose.is)
    (decides_chosen a.g a.cases.now a.has_default a.until c.in-Chose.i c.in-Chose.told c.in-Some.case a.self.now c.communicate.new.self c.communicate.result
    (sym c.none_missing-has.ensures ∙ c.if-has.true) (sym c.case_at.ensures ∙ c.in-Some.is) c.communicate.ensures.decides)

pub returns-in-None-clause-decides : goal.returns-in-None-clause-decides
returns-in-None-clause-decides c =
    let a = c.args in
    subst (λ r. Decides (Selects a.g a.cases.now a.has_default a.until r) a.self.now a.self.now false) (sym c.in-Chose.is)
    (not_chosen a.g a.cases.now a.has_default a.until c.in-Chose.i c.in-Chose.told a.self.now (sym c.case_at.ensures ∙ c.in-None.is))

pub returns-in-Waits-clause-decides : goal.returns-in-Waits-clause-decides
returns-in-Waits-clause-decides c =
    let a = c.args in
    subst (λ r. Decides (Selects a.g a.cases.now a.has_default a.until r) a.self.now c.block.new.self c.block.result) (sym c.in-Waits.is)
    (decides_as (Blocks a.g kind.Select a.cases.now a.until) (Selects a.g a.cases.now a.has_default a.until reply.Waits) a.self.now c.block.new.self c.block.result
    (λ other is. (sym c.none_missing-has.ensures ∙ c.if-has-3.true, c.if-not-has_default.true, is)) (λ other is. is.2) c.block.ensures.decides)
