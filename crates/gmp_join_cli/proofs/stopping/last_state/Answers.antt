use Rattle.std.proofs.Common.{◌≡◌, ◌∙◌, take, sym, ap, subst}
use Rattle.gmp_seq.specs.Run.{Run}
use Rattle.gmp_seq.specs.State.{State, opening}
use Rattle.gmp_start.specs.Start.{state_of}
use Rattle.gmp_trace.specs.declared.trace.Beginning.{Beginning}
use Rattle.gmp_trace.specs.Text.{begins_at, content}
use Rattle.gmp_check.proofs.Beginning.{starts_begin}
use Rattle.gmp_check.specs.Checked.{start_at, start_of}
use Rattle.gmp_check.specs.Consistent.{MayBegin}
use Rattle.gmp_join_cli.proofs.Stops.{lasts_behind}
use Rattle.gmp_join_cli.proofs.stopping.last_state.Goals as goal

pub state_before-requires-clause-begins : goal.state_before-requires-clause-begins
state_before-requires-clause-begins c =
    let t = c.args.trace.now in
    let here : state_of c.in_ok-start-in-Opening.start ≡ start_of (content t) =
    c.in_ok-start-in-Opening.ensures ∙ ap (opening t.limits t.bodies) c.deref.ensures.value
    ∙ sym (ap (λ (b : Beginning). start_at t.limits t.bodies (begins_at b)) c.in-Opening.is) in
    subst (λ (s : State). MayBegin t.limits s) (sym here) (starts_begin t.limits t.bodies (begins_at t.beginning) c.requires.right.1.range)

pub state_before-requires-clause-goes_on : goal.state_before-requires-clause-goes_on
state_before-requires-clause-goes_on c s led =
    let t = c.args.trace.now in
    let here : state_of c.in_ok-start-in-Opening.start ≡ start_of (content t) =
    c.in_ok-start-in-Opening.ensures ∙ ap (opening t.limits t.bodies) c.deref.ensures.value
    ∙ sym (ap (λ (b : Beginning). start_at t.limits t.bodies (begins_at b)) c.in-Opening.is) in
    lasts_behind (content t) c.requires.right.0 c.len.result c.requires.right.1 c.requires.lasts c.len.ensures.value s
    (subst (λ (a : State). Run t.limits a (take c.len.result t.entries.list) s) here led)

pub state_before-requires-in-Start-clause-goes_on : goal.state_before-requires-in-Start-clause-goes_on
state_before-requires-in-Start-clause-goes_on c s led =
    let t = c.args.trace.now in
    let here : state_of c.in-Start.start ≡ start_of (content t) = sym (ap (λ (b : Beginning). start_at t.limits t.bodies (begins_at b)) c.in-Start.is) in
    lasts_behind (content t) c.requires.right.0 c.len-in-Start.result c.requires.right.1 c.requires.lasts c.len-in-Start.ensures.value s
    (subst (λ (a : State). Run t.limits a (take c.len-in-Start.result t.entries.list) s) here led)
