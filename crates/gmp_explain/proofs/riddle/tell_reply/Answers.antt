use Rattle.std.proofs.Common.{◌≡◌, ℕ, List, Some, ap, drop, ◌∙◌}
use Rattle.gmp_seq.specs.declared.call.Entry.{Entry}
use Rattle.gmp_explain.specs.Spoken.{May}
use Rattle.gmp_explain.specs.Told.{may, reply_text}
use Rattle.gmp_explain.proofs.ReplyWords.{reply_words}
use Rattle.gmp_explain.proofs.Spoken.{one}
use Rattle.gmp_explain.proofs.riddle.tell_reply.Goals as goal

pub returns-clause-tells : goal.returns-clause-tells
returns-clause-tells g c =
    let e : Entry = record c.args.entry.now { reply = c.args.reply } in
    let words : c.behind.result.now ≡ reply_text c.args.reply = c.behind.ensures ∙ ap (drop c.args.place) c.deref.ensures.value ∙ reply_words e c.in_ok-line.line.items c.args.place c.in_ok-line.ensures c.requires in
    one g.S.Sink.told c.args.sink.now c.tell.new.self (may c.args.reply) c.in_ok-tell.ensures (ap (λ (l : List ℕ). Some (May l)) words)
