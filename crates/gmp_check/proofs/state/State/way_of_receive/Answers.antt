use Rattle.std.proofs.Common.{sym, ap, ◌∙◌}
use Rattle.std.specs.List.{slice_get}
use Rattle.gmp_seq.specs.Channels.{is_closed, items_at}
use Rattle.gmp_seq.specs.State.{State}
use Rattle.gmp_check.proofs.Going.{way_drained, way_first, way_relayed, way_relayed_alone}
use Rattle.gmp_check.proofs.state.State.way_of_receive.Goals as goal

pub returns-in-Some-Some : goal.returns-in-Some-Some
returns-in-Some-Some c =
    let first = ap (λ (s : State). slice_get (items_at s.channels c.args.c) 0) (sym c.self.view_is) ∙ sym c.first.ensures ∙ c.in-Some-Some.is-0 in
    way_relayed c.args.self.now c.args.c c.in-Some-Some.v c.in-Some-Some.w first (sym c.first_on.ensures ∙ c.in-Some-Some.is-1)

pub returns-in-Some-None : goal.returns-in-Some-None
returns-in-Some-None c =
    let first = ap (λ (s : State). slice_get (items_at s.channels c.args.c) 0) (sym c.self.view_is) ∙ sym c.first.ensures ∙ c.in-Some-None.is-0 in
    way_first c.args.self.now c.args.c c.in-Some-None.v first (sym c.first_on.ensures ∙ c.in-Some-None.is-1)

pub returns-in-None-Some : goal.returns-in-None-Some
returns-in-None-Some c =
    let first = ap (λ (s : State). slice_get (items_at s.channels c.args.c) 0) (sym c.self.view_is) ∙ sym c.first.ensures ∙ c.in-None-Some.is-0 in
    rw c.offered.ensures (way_relayed_alone c.args.self.now c.args.c c.in-None-Some.w first (sym c.first_on.ensures ∙ c.in-None-Some.is-1))

pub returns-in-None-None : goal.returns-in-None-None
returns-in-None-None c =
    let first = ap (λ (s : State). slice_get (items_at s.channels c.args.c) 0) (sym c.self.view_is) ∙ sym c.first.ensures ∙ c.in-None-None.is-0 in
    let closed = ap (λ (s : State). is_closed s.channels c.args.c) (sym c.self.view_is) ∙ sym c.is_closed.ensures ∙ c.if-is_closed.true in
    way_drained c.args.self.now c.args.c first (sym c.first_on.ensures ∙ c.in-None-None.is-1) closed
