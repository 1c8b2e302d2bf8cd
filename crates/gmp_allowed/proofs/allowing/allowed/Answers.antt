use Rattle.std.proofs.Common.{List, subst}
use Rattle.gmp_seq.specs.declared.call.Reply.{Reply}
use Rattle.gmp_start.specs.Start.{state_of}
use Rattle.gmp_allowed.specs.Allowed.{AreThoseAllowed}
use Rattle.gmp_allowed.proofs.Alike.{those_right, whole_of}
use Rattle.gmp_allowed.proofs.allowing.allowed.Goals as goal

pub returns-clause-right : goal.returns-clause-right
returns-clause-right c =
    let now = c.args.replay.now in
    those_right now.limits now.state c.args.entry.now _ c.in_ok-right.right.items c.in_ok-right.ensures.exact

pub returns-clause-whole : goal.returns-clause-whole
returns-clause-whole c =
    let now = c.args.replay.now in
    let last = c.in_ok-last.last in
    let exact = subst (λ (l : List Reply). AreThoseAllowed now.limits now.state c.args.entry.now l c.in_ok-right.right.items) c.deref.ensures.value c.in_ok-right.ensures.exact in
    whole_of now.limits now.state c.args.entry.now c.in_ok-replies.replies.items c.in_ok-right.right.items (state_of last) c.in_ok-last.ensures c.in_ok-replies.ensures exact
