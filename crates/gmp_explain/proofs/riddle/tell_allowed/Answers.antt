use Rattle.std.proofs.Common.{refl, sym, ◌∙◌}
use Rattle.gmp_explain.specs.Spoken.{Lacking, WasOver}
use Rattle.gmp_allowed.proofs.Results.{on_ok}
use Rattle.gmp_explain.proofs.ReplyWords.{answer_allowed, answer_lacking, answer_over}
use Rattle.gmp_explain.proofs.Spoken.{one}
use Rattle.gmp_explain.proofs.riddle.tell_allowed.Goals as goal

pub returns-then-is_some : goal.returns-then-is_some
returns-then-is_some g c =
    let told = g.S.Sink.told in
    let replay = c.args.story.now.replay in
    answer_over told replay.limits replay.state c.args.entry.now c.outcome.result c.args.sink.now c.tell.new.self c.outcome.ensures.value (sym c.is_some.ensures ∙ c.if-is_some.true)
    (one told c.args.sink.now c.tell.new.self WasOver c.in_ok-tell.ensures refl)

pub returns-in-Some : goal.returns-in-Some
returns-in-Some g c =
    let told = g.S.Sink.told in
    let replay = c.args.story.now.replay in
    let new = c.tell-in-Some.new.self in
    answer_lacking told replay.limits replay.state c.args.entry.now c.outcome.result c.in-Some.need c.args.sink.now new c.outcome.ensures.value (sym c.is_some.ensures ∙ c.if-is_some.false)
    c.in-Some.ensures (one told c.args.sink.now new (Lacking c.in-Some.need) c.in_ok-tell-2.ensures refl)

pub returns : goal.returns
returns g c =
    let told = g.S.Sink.told in
    let replay = c.args.story.now.replay in
    on_ok c.tell_replies.result
    (answer_allowed told replay.limits replay.state c.args.entry.now c.outcome.result c.args.sink.now c.tell_replies.new.sink c.outcome.ensures.value (sym c.is_some.ensures ∙ c.if-is_some.false)
    c.in_default.ensures) c.tell_replies.ensures
