use Rattle.std.proofs.Common.{◌<◌, ◌^◌, ℕ, List, length, rules, arith, ap}
use Rattle.gmp_base.specs.declared.number.GNo.{GNo}
use Rattle.gmp_start.specs.Start.{table_of}
use Rattle.gmp_explain.specs.Spoken.{Remark}
use Rattle.gmp_explain.specs.Stated.{goroutine_said}
use Rattle.gmp_explain.proofs.Spoken.{number_told}
use Rattle.gmp_explain.proofs.telling.tell_goroutines.Goals as goal

pub loop-g-preserved : goal.loop-g-preserved
loop-g-preserved g c =
    let a = c.args in
    let of : GNo → List Remark = goroutine_said a.story.now.replay.state.outcome (table_of a.story.now.last) in
    let within : c.loop-g.g < length a.story.now.last.goroutines.items = search (rules, arith) in
    let few = c.requires in
    let small : c.loop-g.g < 2 ^ 16 = omega (arith, within, few) in
    number_told g.S.Sink.told a.sink.now c.loop-g.sink c.tell_goroutine.new.sink (λ (n : ℕ). let h : GNo = record { 0 = n } in of h) c.loop-g.g (of c.goroutine_at.result)
    (ap (λ (n : ℕ). let h : GNo = record { 0 = n } in of h) (c.goroutine_at.ensures small)) c.loop-g.invariant c.in_ok-tell_goroutine.ensures
