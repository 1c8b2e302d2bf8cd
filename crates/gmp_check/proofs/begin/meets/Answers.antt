use Rattle.std.proofs.Common.{◌≡◌, ◌∙◌, List, None, refl, sym, subst, rules, arith}
use Rattle.std.proofs.lemmas.List.{take_all}
use Rattle.gmp_seq.specs.declared.call.Entry.{Entry}
use Rattle.gmp_seq.specs.Run.{Run}
use Rattle.gmp_seq.specs.State.{State}
use Rattle.gmp_start.specs.Start.{state_of}
use Rattle.gmp_check.proofs.Beginning.{ended_not, none_is, without_outcome}
use Rattle.gmp_check.proofs.Keeping.{run_fixed}
use Rattle.gmp_check.proofs.begin.meets.Goals as goal

pub returns-then-is_some : goal.returns-then-is_some
returns-then-is_some c =
    let start : State = state_of c.args.first.now in
    let es : List Entry = c.args.entries.now.list in
    let led = subst (λ (h : List Entry). Run c.args.limits start h c.in_ok-replay.replay.state) (take_all c.len.result es (omega (arith, c.len.ensures.value))) c.in_ok-replay.ensures in (
      (λ f. search (rules, f)),
      (λ run. absurd (ended_not c.args.limits start c.in_ok-replay.replay.state (state_of c.args.second.now) es c.outcome.result c.requires.begins led c.outcome.ensures.value
          (sym c.is_some.ensures ∙ c.if-is_some.true) refl run)),
    )

pub returns : goal.returns
returns c =
    let start : State = state_of c.args.first.now in
    let there : State = state_of c.args.second.now in
    let es : List Entry = c.args.entries.now.list in
    let at : State = c.in_ok-replay.replay.state in
    let led = subst (λ (h : List Entry). Run c.args.limits start h at) (take_all c.len.result es (omega (arith, c.len.ensures.value))) c.in_ok-replay.ensures in
    let none : at.outcome ≡ None = sym c.outcome.ensures.value ∙ none_is c.outcome.result (sym c.is_some.ensures ∙ c.if-is_some.false) in
    let here : state_of c.in_ok-copied.field-0 ≡ at = c.in_ok-copied.ensures ∙ without_outcome at none in (
      (λ yes. subst (λ (y : State). Run c.args.limits start es y) (sym here ∙ c.same.ensures.0 yes) led),
      (λ run. c.same.ensures.1 (here ∙ run_fixed c.args.limits start at there es c.requires.begins.consistent led run)),
    )
