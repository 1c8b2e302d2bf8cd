use Rattle.std.proofs.Common.{List, sym, ap, subst, take, ◌∙◌}
use Rattle.std.proofs.lemmas.List.{take_more}
use Rattle.gmp_seq.specs.declared.call.Entry.{Entry}
use Rattle.gmp_seq.specs.declared.call.Reply.{Reply}
use Rattle.gmp_allowed.specs.Allowed.{AreThoseAllowed}
use Rattle.gmp_allowed.proofs.Alike.{those_more, tries_alike}
use Rattle.gmp_allowed.proofs.allowing.allowed_of.Goals as goal

pub loop-reply-preserved : goal.loop-reply-preserved
loop-reply-preserved c =
    let now = c.args.replay.now in
    let e = c.args.entry.now in
    let so_far = c.loop-reply.invariant in
    let new = c.try_reply.new.right.items in
    let tried = take c.loop-reply.reply-index c.args.replies.now in
    let tries = tries_alike now.limits now.state c.loop-reply.entry e _ c.loop-reply.right.items new so_far.alike c.in_ok-try_reply.ensures.tries in
    record {
      alike = λ r. ap (λ (x : Entry). let y : Entry = record x { reply = r } in y) c.in_ok-try_reply.ensures.reply ∙ so_far.alike r;
      exact = subst (λ (l : List Reply). AreThoseAllowed now.limits now.state e l new) (sym (take_more c.args.replies.now c.loop-reply.reply-index _ c.loop-reply-test.true))
          (those_more now.limits now.state e tried _ c.loop-reply.right.items new so_far.exact tries);
    }
