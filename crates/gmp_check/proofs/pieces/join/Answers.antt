use Rattle.std.proofs.Common.{IsTrue, rules, sym, subst}
use Rattle.gmp_seq.specs.State.{State}
use Rattle.gmp_start.specs.Start.{state_of}
use Rattle.gmp_trace.specs.Text.{Content, IsCounted, begins_at, content}
use Rattle.gmp_check.proofs.Beginning.{starts_begin}
use Rattle.gmp_check.proofs.Texts.{join_joined, joined_right, meet, start_counted}
use Rattle.gmp_check.specs.Consistent.{MayBegin}
use Rattle.gmp_check.proofs.pieces.join.Goals as goal

pub join_runs-requires-clause-begins : goal.join_runs-requires-clause-begins
join_runs-requires-clause-begins c =
    let t = c.args.first.now in
    subst (λ (s : State). MayBegin t.limits s) (sym c.in_ok-start.ensures) (starts_begin t.limits t.bodies (begins_at t.beginning) c.requires.first.1.range)

pub returns-clause-joined : goal.returns-clause-joined
returns-clause-joined c =
    let x : Content = content c.args.first.now in
    let y : Content = content c.args.second.now in
    let yes : IsTrue c.are_alike.result = search rules in
    let alike = c.are_alike.ensures.0 yes in
    let runs = c.in_ok-entries.ensures.joined in
    join_joined x y (begins_at c.in_ok-copied.field-0) c.in_ok-entries.entries.list
    (meet x y (state_of c.in_ok-start.start) (state_of c.in_ok-next.next) alike.0 alike.1 c.in_ok-start.ensures c.in_ok-next.ensures runs.led)
    c.in_ok-copied.ensures runs.all_are

pub returns-clause-right : goal.returns-clause-right
returns-clause-right c o right =
    let x : Content = content c.args.first.now in
    let y : Content = content c.args.second.now in
    let yes : IsTrue c.are_alike.result = search rules in
    let alike = c.are_alike.ensures.0 yes in
    let runs = c.in_ok-entries.ensures.joined in
    let joined = join_joined x y (begins_at c.in_ok-copied.field-0) c.in_ok-entries.entries.list
    (meet x y (state_of c.in_ok-start.start) (state_of c.in_ok-next.next) alike.0 alike.1 c.in_ok-start.ensures c.in_ok-next.ensures runs.led)
    c.in_ok-copied.ensures runs.all_are in
    joined_right x y _ o c.requires.first.1.range right joined

pub returns-clause-counted : goal.returns-clause-counted
returns-clause-counted c =
    let x : Content = content c.args.first.now in
    subst IsCounted (sym c.in_ok-copied.ensures) (start_counted x.limits x.bodies x.begins c.requires.first.1.range)
