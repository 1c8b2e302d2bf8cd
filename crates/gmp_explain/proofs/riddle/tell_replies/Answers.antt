use Rattle.std.proofs.Common.{◌≡◌, List, map, take, ap, sym, subst, ◌∙◌}
use Rattle.std.proofs.lemmas.List.{take_all}
use Rattle.gmp_seq.specs.declared.call.Reply.{Reply}
use Rattle.gmp_explain.specs.Spoken.{TellsOf}
use Rattle.gmp_explain.specs.Told.{may}
use Rattle.gmp_seq.specs.declared.call.Entry.{Entry}
use Rattle.gmp_explain.proofs.ReplyWords.{alike_place}
use Rattle.gmp_explain.proofs.Spoken.{element_told, none}
use Rattle.gmp_explain.proofs.riddle.tell_replies.Goals as goal

pub loop-reply-init : goal.loop-reply-init
loop-reply-init g c = record {
  alike = λ r. c.in_ok-place.ensures.alike r ∙ c.in_ok-replies.ensures.alike r;
  tells = none g.S.Sink.told c.args.sink.now;
}

pub tell_reply-requires : goal.tell_reply-requires
tell_reply-requires g c =
    let found = c.allowed.new.entry in
    let place = c.in_ok-place.place in
    alike_place c.loop-reply.entry c.args.entry.now place c.loop-reply.invariant.alike
    (alike_place c.args.entry.now found place (λ r. sym (c.in_ok-replies.ensures.alike r)) c.in_ok-place.ensures.place)

pub loop-reply-preserved : goal.loop-reply-preserved
loop-reply-preserved g c = record {
  alike = λ r. ap (λ (e : Entry). let x : Entry = record e { reply = r } in x) c.in_ok-tell_reply.ensures.reply ∙ c.loop-reply.invariant.alike r;
  tells = element_told g.S.Sink.told c.deref-reply-items.result.now c.loop-reply.reply-index _ may c.args.sink.now c.loop-reply.sink c.tell_reply.new.sink
      c.loop-reply-test.true c.loop-reply.invariant.tells c.in_ok-tell_reply.ensures.tells;
}

pub returns : goal.returns
returns g c =
    let all : take c.loop-reply.reply-index c.deref-reply-items.result.now ≡ c.in_ok-replies.replies.items =
    take_all c.loop-reply.reply-index c.deref-reply-items.result.now c.loop-reply-test.false ∙ c.deref-reply-items.ensures.value in
    record {
      replies = c.in_ok-replies.replies.items;
      right = c.in_ok-replies.ensures.right;
      whole = c.in_ok-replies.ensures.whole;
      tells = subst (λ (l : List Reply). TellsOf g.S.Sink.told (map may l) c.args.sink.now c.loop-reply.sink) all c.loop-reply.invariant.tells;
    }
