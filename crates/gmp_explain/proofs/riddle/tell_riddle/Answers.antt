use Rattle.std.proofs.Common.{ℕ, List, Some, ap, subst, ◌∙◌}
use Rattle.gmp_seq.specs.State.{State}
use Rattle.gmp_explain.specs.Spoken.{Line}
use Rattle.gmp_explain.specs.Told.{TellsBefore}
use Rattle.gmp_allowed.proofs.Results.{on_ok}
use Rattle.gmp_explain.proofs.ReplyWords.{entry_told}
use Rattle.gmp_explain.proofs.riddle.tell_riddle.Goals as goal

pub returns : goal.returns
returns g c =
    let told = g.S.Sink.told in
    let replay = c.args.story.now.replay in
    let first = c.tell.new.self in
    let mid = c.tell_before.new.sink in
    let words = c.deref.ensures.value ∙ c.in_ok-line.ensures in
    let before = subst (λ (s : State). TellsBefore told s c.args.entry first mid) c.requires.same c.in_ok-tell_before.ensures in
    on_ok c.tell_allowed.result (entry_told told replay.limits replay.state c.args.entry _ c.args.sink.now first mid c.tell_allowed.new.sink c.in_ok-tell.ensures (ap (λ (l : List ℕ). Some (Line l)) words) before)
    c.tell_allowed.ensures
