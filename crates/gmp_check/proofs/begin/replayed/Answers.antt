use Rattle.std.proofs.Common.{◌≡◌, ◌∙◌, ◌+◌, List, Some, sym, ap, subst, take, arith}
use Rattle.std.specs.List.{slice_get}
use Rattle.circular_buffer.proofs.Places.{slice_get-some}
use Rattle.gmp_seq.specs.declared.call.Entry.{Entry}
use Rattle.gmp_seq.specs.Run.{Run}
use Rattle.gmp_seq.specs.State.{State}
use Rattle.gmp_start.specs.Start.{state_of}
use Rattle.gmp_check.proofs.Beginning.{led_on}
use Rattle.gmp_check.specs.Replayed.{Replayed}
use Rattle.gmp_check.proofs.begin.replayed.Goals as goal
use Rattle.gmp_check.proofs.begin.replayed.Goals.{in-Some+in_ok-step, in_default}

pub loop-i-preserved : goal.loop-i-preserved
loop-i-preserved c =
    let start : State = state_of c.args.start.now in
    let es : List Entry = c.args.entries.now.list in
    let i = c.loop-i.i in
    elim c.match-get.branch [
      | in-Some+in_ok-step w ↦
          let at : slice_get es i ≡ Some w.in-Some.entry = sym c.get.ensures ∙ w.in-Some.is in
          let led = led_on c.args.limits c.loop-i.replay.limits start c.loop-i.replay.state w.step.new.self.state es i w.in-Some.entry w.in_ok-step.field-0 c.requires.begins c.requires.run at
          c.loop-i.invariant.limits c.loop-i.invariant.led w.in_ok-step.ensures.decides in
          record {
            limits = ap (λ (x : Replayed). x.limits) w.replay-is ∙ (w.in_ok-step.ensures.limits ∙ c.loop-i.invariant.limits);
            led = subst (λ (x : Replayed). Run c.args.limits start (take (i + 1) es) x.state) (sym w.replay-is) led;
          }
      | in_default w ↦
          let (e, at) = slice_get-some es i (omega (arith, c.loop-i-test.true, c.requires.within)) in
          absurd (w.in_default.not-Some e (c.get.ensures ∙ at))
    ]
