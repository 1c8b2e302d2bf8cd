use Rattle.std.proofs.Common.{sym, subst}
use Rattle.gmp_seq.specs.State.{State}
use Rattle.gmp_start.specs.Start.{state_of}
use Rattle.gmp_trace.specs.Text.{Content, begins_at, content}
use Rattle.gmp_trace.specs.Text.Begins.{AtState}
use Rattle.gmp_check.proofs.Beginning.{starts_begin}
use Rattle.gmp_check.proofs.Texts.{part_right, split_part, start_counted}
use Rattle.gmp_check.specs.Consistent.{MayBegin}
use Rattle.gmp_check.specs.Parts.{IsPart}
use Rattle.gmp_check.proofs.pieces.split.Goals as goal

pub split_run-requires-clause-begins : goal.split_run-requires-clause-begins
split_run-requires-clause-begins c =
    let t = c.args.trace.now in
    subst (λ (s : State). MayBegin t.limits s) (sym c.in_ok-start.ensures) (starts_begin t.limits t.bodies (begins_at t.beginning) c.requires.1.range)

pub returns-clause-right : goal.returns-clause-right
returns-clause-right c o right =
    let x : Content = content c.args.trace.now in
    let second : State = state_of c.in_ok-second.second in
    let y : Content = record x { begins = AtState second; entries = c.in_ok-second.rest.list } in
    let is : IsPart x c.args.n y = split_part x (state_of c.in_ok-start.start) second c.args.n c.in_ok-second.rest.list c.in_ok-start.ensures c.in_ok-second.ensures in
    part_right x y c.args.n o right is

pub returns-clause-counted : goal.returns-clause-counted
returns-clause-counted c =
    let x : Content = content c.args.trace.now in
    let second : State = state_of c.in_ok-second.second in
    let y : Content = record x { begins = AtState second; entries = c.in_ok-second.rest.list } in
    let is : IsPart x c.args.n y = split_part x (state_of c.in_ok-start.start) second c.args.n c.in_ok-second.rest.list c.in_ok-start.ensures c.in_ok-second.ensures in
    start_counted x.limits x.bodies (AtState second) (part_right x y c.args.n c.requires.0 c.requires.1 is).range
