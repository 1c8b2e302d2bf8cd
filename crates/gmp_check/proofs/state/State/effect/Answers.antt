use Rattle.std.proofs.Common.{sym, ◌∙◌, subst}
use Rattle.std.proofs.lemmas.Bool.{false≢true}
use Rattle.gmp_check.proofs.Parts.{by_calling}
use Rattle.gmp_check.proofs.Consistency.{consistent_young, free_alone}
use Rattle.gmp_check.specs.Decides.{Decides}
use Rattle.gmp_seq.specs.State.{State}
use Rattle.gmp_seq.specs.Step.{Effect}
use Rattle.gmp_seq.specs.Table.{IsCalling}
use Rattle.gmp_check.proofs.state.State.effect.Goals.{then-is_free, else-is_free}
use Rattle.gmp_check.proofs.state.State.effect.Goals as goal

pub tick-requires : goal.tick-requires
tick-requires c = record { young = consistent_young c.args.self.now _ c.self-in-Tick.view_is c.requires }

pub returns-in-Some-clause-decides : goal.returns-in-Some-clause-decides
returns-in-Some-clause-decides c =
    let a = c.args in
    let k = c.in-Some in
    let calls = subst (λ (s : State). IsCalling s.table k.g a.m) c.self-in-Leave.view_is k.ensures.some in
    subst (λ x. Decides (Effect a.limits a.m x a.reply) a.self.now c.leave.new.self c.leave.result) (sym c.in-Leave.is)
    (by_calling a.limits a.m k.g c.in-Leave.number a.reply a.self.now c.leave.new.self c.leave.result c.requires calls c.leave.ensures.decides)

pub claim-requires : goal.claim-requires
claim-requires c =
    free_alone c.args.self.now _ c.self-in-Claim.view_is c.requires c.args.m (
    elim c.if-is_free.branch [
      | then-is_free w ↦ c.is_free.ensures.0 w.if-is_free.true
      | else-is_free w ↦ absurd (false≢true (sym w.if-is_free.false ∙ sym w.value-is ∙ c.if-has_processor.true))
    ]
    )
