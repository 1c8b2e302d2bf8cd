use Rattle.std.proofs.Common.{◌<◌, ◌^◌, ℕ, List, map, rules, arith, ap}
use Rattle.gmp_base.specs.declared.number.CNo.{CNo}
use Rattle.gmp_start.specs.Start.{channel_of}
use Rattle.gmp_explain.specs.Spoken.{Remark}
use Rattle.gmp_explain.specs.Stated.{channel_said}
use Rattle.gmp_explain.proofs.Spoken.{number_told}
use Rattle.gmp_explain.proofs.channels.tell_channels.Goals as goal

pub loop-c-preserved : goal.loop-c-preserved
loop-c-preserved g c =
    let a = c.args in
    let of : CNo → List Remark = channel_said a.story.now.last.goroutines.items (map channel_of a.story.now.last.channels.items) in
    let small : c.loop-c.c < 2 ^ 16 = search (rules, arith) in
    number_told g.S.Sink.told a.sink.now c.loop-c.sink c.tell_channel.new.sink (λ (n : ℕ). let h : CNo = record { 0 = n } in of h) c.loop-c.c (of c.channel_at.result)
    (ap (λ (n : ℕ). let h : CNo = record { 0 = n } in of h) (c.channel_at.ensures small)) c.loop-c.invariant c.in_ok-tell_channel.ensures
