use Rattle.std.proofs.Common.{arith, rules, subst}
use Rattle.gmp_trace.specs.declared.bad.Why.TheVariants as why
use Rattle.gmp_check.proofs.Checking.{only_memory_from, stops_within}
use Rattle.gmp_check.specs.Checked.{IsBadPartAt, part}
use Rattle.gmp_check.specs.Replayed.{IsStop}
use Rattle.gmp_check.proofs.checked.check_from.Goals as goal

pub line_of-requires-in-Err-NoStep-clause-few : goal.line_of-requires-in-Err-NoStep-clause-few
line_of-requires-in-Err-NoStep-clause-few g c =
    let a = c.args in
    let k = c.in-Err-NoStep in
    let told = subst (IsStop a.replay.limits a.replay.state a.entries.now.list) k.field-0-is k.ensures.why in
    let within = stops_within a.replay.limits a.replay.state a.entries.now.list k.i told in
    rw k.i-is (omega (arith, within, c.len-all.ensures.value, c.len-all.ensures.few))

pub returns-in-Ok-2-clause-exact : goal.returns-in-Ok-2-clause-exact
returns-in-Ok-2-clause-exact g c outcome right =
    let a = c.args in
    let x = part a.replay.limits a.replay.state a.entries.now.list a.end in
    let wrong : IsBadPartAt x a.before c.line_of.result why.Outcome = search rules in
    only_memory_from x c.in-Ok-2.ensures.consistent outcome a.before c.line_of.result why.Outcome right wrong

pub returns-in-Err-NoStep-clause-exact : goal.returns-in-Err-NoStep-clause-exact
returns-in-Err-NoStep-clause-exact g c outcome right =
    let a = c.args in
    let x = part a.replay.limits a.replay.state a.entries.now.list a.end in
    let line = c.line_of-in-Err-NoStep.result in
    let wrong : IsBadPartAt x a.before line why.Step = search rules in
    only_memory_from x c.in-Err-NoStep.ensures.consistent outcome a.before line why.Step right wrong
