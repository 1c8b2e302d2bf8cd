use Rattle.std.proofs.Common.{◌≡◌, ◌≢◌, ◌<◌, ◌^◌, ℕ, List, [], IfOk, None, length, ap, rules, subst, sym, tests, ◌∙◌}
use Rattle.gmp_seq.specs.declared.call.Limits.{Limits}
use Rattle.gmp_run.specs.Counts.{all_calls}
use Rattle.gmp_run.specs.Reports.{IsPiecesReport}
use Rattle.gmp_history.specs.declared.auditing.PassLog.{PassLog}
use Rattle.gmp_host.specs.declared.ending.Ended.{Ended}
use Rattle.gmp_host.specs.Ends.{IsOfPieces, StopsPieces, TakesLeft, TellsNobody}
use Rattle.gmp_host.proofs.Pieces.{few_calls, in_pieces, of_ok, said_pieces, said_to_stop, stopped_at_last, stopped_on_the_way}
use Rattle.gmp_host.proofs.host.Host.run_into.Goals as goal

pub made-requires : goal.made-requires
made-requires g c =
    let takes = g.S.Sink.takes in
    let refuses = g.S.Sink.refuses in
    let mid = c.run_into_fair-ran.result.1 in
    let bodies = length c.args.self.bodies.items in
    let ran : IsPiecesReport takes refuses c.limits.result c.as_slice.result.now bodies c.args.sink c.in-Ok.report mid =
    subst (λ ran. IfOk ran (λ r. IsPiecesReport takes refuses c.limits.result c.as_slice.result.now bodies c.args.sink r mid)) c.in-Ok.is c.run_into_fair-ran.ensures.report in
    record {
      few = subst (λ (logs : List PassLog). all_calls logs < 2 ^ 64) (sym c.deref.ensures.value) (few_calls takes refuses c.limits.result c.as_slice.result.now bodies c.args.sink c.in-Ok.report mid ran);
    }

-- what is left is the sink's too
pub returns-clause-ended : goal.returns-clause-ended
returns-clause-ended g c =
    let takes = g.S.Sink.takes in
    let refuses = g.S.Sink.refuses in
    let mid = c.run_into_fair-ran.result.1 in
    let sink = c.hand_rest.new.sink in
    let bodies = length c.args.self.bodies.items in
    let ran : IsPiecesReport takes refuses c.limits.result c.as_slice.result.now bodies c.args.sink c.in-Ok.report mid =
    subst (λ ran. IfOk ran (λ r. IsPiecesReport takes refuses c.limits.result c.as_slice.result.now bodies c.args.sink r mid)) c.in-Ok.is c.run_into_fair-ran.ensures.report in
    let made : c.made.result ≡ all_calls c.in-Ok.report.logs.items = c.made.ensures ∙ ap all_calls c.deref.ensures.value in
    let took : TakesLeft takes mid c.in-Ok.report.history.list sink = search (rules, tests) in
    let ended : Ended = record { outcome = c.in-Some.outcome; entries = c.made.result; lost = c.first.result; waiting = c.new.result; lately = c.new-2.result } in
    let nobody : TellsNobody ended = search (rules, tests) in
    let all = in_pieces takes refuses c.limits.result c.as_slice.result.now bodies c.args.sink c.in-Ok.report mid ran sink ended took (sym c.in-Some.is) made nobody in
    subst (λ (limits : Limits). IsOfPieces takes limits c.args.self.capacities.items bodies c.args.sink ended sink) c.limits.ensures
    (subst (λ (capacities : List ℕ). IsOfPieces takes c.limits.result capacities bodies c.args.sink ended sink) c.as_slice.ensures.value all)

-- and it is what was said
pub returns-clause-said : goal.returns-clause-said
returns-clause-said g c =
    let takes = g.S.Sink.takes in
    let refuses = g.S.Sink.refuses in
    let mid = c.run_into_fair-ran.result.1 in
    let sink = c.hand_rest.new.sink in
    let given = c.args.self.bodies.items in
    let made : c.made.result ≡ all_calls c.in-Ok.report.logs.items = c.made.ensures ∙ ap all_calls c.deref.ensures.value in
    let took : TakesLeft takes mid c.in-Ok.report.history.list sink = search (rules, tests) in
    let ended : Ended = record { outcome = c.in-Some.outcome; entries = c.made.result; lost = c.first.result; waiting = c.new.result; lately = c.new-2.result } in
    let nobody : TellsNobody ended = search (rules, tests) in
    said_pieces takes refuses c.limits.result _ c.as_slice.result.now c.args.self.capacities.items given c.args.sink c.in-Ok.report mid sink ended 0 c.args.self.settings.fair c.limits.ensures c.as_slice.ensures.value
    (of_ok _ c.run_into_fair-ran.result.0 c.in-Ok.report c.in-Ok.is c.run_into_fair-ran.ensures.says) took (sym c.in-Some.is) made nobody

-- a piece was left
pub returns-in_default-outcome-clause-stopped : goal.returns-in_default-outcome-clause-stopped
returns-in_default-outcome-clause-stopped g c is =
    let takes = g.S.Sink.takes in
    let refuses = g.S.Sink.refuses in
    let mid = c.run_into_fair-ran.result.1 in
    let bodies = length c.args.self.bodies.items in
    let ran : IsPiecesReport takes refuses c.limits.result c.as_slice.result.now bodies c.args.sink c.in-Ok.report mid =
    subst (λ ran. IfOk ran (λ r. IsPiecesReport takes refuses c.limits.result c.as_slice.result.now bodies c.args.sink r mid)) c.in-Ok.is c.run_into_fair-ran.ensures.report in
    let none : c.in-Ok.report.outcome ≡ None = search (rules, tests) in
    let all = stopped_on_the_way takes refuses c.limits.result c.as_slice.result.now bodies c.args.sink c.in-Ok.report mid ran none in
    subst (λ (limits : Limits). StopsPieces takes refuses limits c.args.self.capacities.items bodies c.args.sink mid) c.limits.ensures
    (subst (λ (capacities : List ℕ). StopsPieces takes refuses c.limits.result capacities bodies c.args.sink mid) c.as_slice.ensures.value all.0)

-- what is left was left by the sink too
pub returns-then-is_err-clause-stopped : goal.returns-then-is_err-clause-stopped
returns-then-is_err-clause-stopped g c is =
    let takes = g.S.Sink.takes in
    let refuses = g.S.Sink.refuses in
    let mid = c.run_into_fair-ran.result.1 in
    let sink = c.hand_rest.new.sink in
    let bodies = length c.args.self.bodies.items in
    let ran : IsPiecesReport takes refuses c.limits.result c.as_slice.result.now bodies c.args.sink c.in-Ok.report mid =
    subst (λ ran. IfOk ran (λ r. IsPiecesReport takes refuses c.limits.result c.as_slice.result.now bodies c.args.sink r mid)) c.in-Ok.is c.run_into_fair-ran.ensures.report in
    let refused : refuses mid c.in-Ok.report.history.list sink = search (rules, tests) in
    let some : c.in-Ok.report.history.list ≢ [] = search (rules, tests) in
    let all = stopped_at_last takes refuses c.limits.result c.as_slice.result.now bodies c.args.sink c.in-Ok.report mid ran sink c.in-Some.outcome c.in-Some.is refused some in
    subst (λ (limits : Limits). StopsPieces takes refuses limits c.args.self.capacities.items bodies c.args.sink sink) c.limits.ensures
    (subst (λ (capacities : List ℕ). StopsPieces takes refuses c.limits.result capacities bodies c.args.sink sink) c.as_slice.ensures.value all.0)

-- and it is what was said up to there
pub returns-in_default-outcome-clause-said_so_far : goal.returns-in_default-outcome-clause-said_so_far
returns-in_default-outcome-clause-said_so_far g c is =
    let takes = g.S.Sink.takes in
    let refuses = g.S.Sink.refuses in
    let mid = c.run_into_fair-ran.result.1 in
    let given = c.args.self.bodies.items in
    let none : c.in-Ok.report.outcome ≡ None = search (rules, tests) in
    let says = of_ok _ c.run_into_fair-ran.result.0 c.in-Ok.report c.in-Ok.is c.run_into_fair-ran.ensures.says in
    said_to_stop takes refuses c.limits.result _ c.as_slice.result.now c.args.self.capacities.items given c.args.sink c.in-Ok.report mid mid 0 c.args.self.settings.fair c.limits.ensures c.as_slice.ensures.value says
    (stopped_on_the_way takes refuses c.limits.result c.as_slice.result.now (length given) c.args.sink c.in-Ok.report mid says.0.0 none)

pub returns-then-is_err-clause-said_so_far : goal.returns-then-is_err-clause-said_so_far
returns-then-is_err-clause-said_so_far g c is =
    let takes = g.S.Sink.takes in
    let refuses = g.S.Sink.refuses in
    let mid = c.run_into_fair-ran.result.1 in
    let sink = c.hand_rest.new.sink in
    let given = c.args.self.bodies.items in
    let refused : refuses mid c.in-Ok.report.history.list sink = search (rules, tests) in
    let some : c.in-Ok.report.history.list ≢ [] = search (rules, tests) in
    let says = of_ok _ c.run_into_fair-ran.result.0 c.in-Ok.report c.in-Ok.is c.run_into_fair-ran.ensures.says in
    said_to_stop takes refuses c.limits.result _ c.as_slice.result.now c.args.self.capacities.items given c.args.sink c.in-Ok.report mid sink 0 c.args.self.settings.fair c.limits.ensures c.as_slice.ensures.value says
    (stopped_at_last takes refuses c.limits.result c.as_slice.result.now (length given) c.args.sink c.in-Ok.report mid says.0.0 sink c.in-Some.outcome c.in-Some.is refused some)
