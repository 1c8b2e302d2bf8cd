use Rattle.std.proofs.Common.{◌<◌, length, arith}
use Rattle.std.proofs.lemmas.List.{length-map}
use Rattle.gmp_history.specs.declared.brief.Row.{Row}
use Rattle.gmp_history.specs.Brief.{choosing_in, entries_of, entry_of, served_by}
use Rattle.gmp_history.proofs.Growing.{one_more, pushed}
use Rattle.gmp_history.proofs.history.History.add.Goals as goal

pub invariant_of-self : goal.invariant_of-self
invariant_of-self c =
    let row : Row = record { m = c.args.m; call = c.brief_call-call.result.kind; reply = c.brief_reply-reply.result.kind; reply_small = c.brief_reply-reply.result.small; call_number = c.brief_call-call.result.number; reply_number = c.brief_reply-reply.result.number; k = c.args.k; call_word = c.brief_call-call.result.word; reply_word = c.brief_reply-reply.result.word } in
    let free : length (entries_of c.self.inside.choosings.items c.self.inside.served.items c.self.inside.rows.items) < c.self.inside.room = rw (← c.self.view_is) at c.requires.room in
    let same = length-map c.self.inside.rows.items (entry_of c.self.inside.choosings.items c.self.inside.served.items) in
    rw (c.push_reserved.ensures.capacity, c.brief_call-call.ensures.room, c.brief_reply-reply.ensures.room) (
    one_more c.self.inside.choosings.items c.brief_call-call.new.choosings.items c.self.inside.served.items c.brief_reply-reply.new.served.items c.self.inside.rows.items c.push_reserved.new.self.items row c.args.call.now c.args.reply.now _ _ _ _ _ c.self.invariant c.brief_call-call.ensures.choosings c.brief_reply-reply.ensures.served c.push_reserved.ensures.items c.brief_call-call.ensures.there c.brief_reply-reply.ensures.there (omega (arith, free, same)) (omega arith))

pub returns-clause-list : goal.returns-clause-list
returns-clause-list c =
    let row : Row = record { m = c.args.m; call = c.brief_call-call.result.kind; reply = c.brief_reply-reply.result.kind; reply_small = c.brief_reply-reply.result.small; call_number = c.brief_call-call.result.number; reply_number = c.brief_reply-reply.result.number; k = c.args.k; call_word = c.brief_call-call.result.word; reply_word = c.brief_reply-reply.result.word } in
    rw (← c.self.view_is, pushed c.self.inside.choosings.items c.brief_call-call.new.choosings.items (choosing_in c.args.call.now) c.self.inside.served.items c.brief_reply-reply.new.served.items (served_by c.args.reply.now) c.self.inside.rows.items c.push_reserved.new.self.items row c.args.call.now c.args.reply.now c.self.invariant.named c.brief_call-call.ensures.choosings c.brief_reply-reply.ensures.served c.push_reserved.ensures.items c.brief_call-call.ensures.value c.brief_reply-reply.ensures.value)
