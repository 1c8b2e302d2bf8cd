use Rattle.std.proofs.Common.{◌∙◌, map}
use Rattle.gmp_trace.proofs.Lines.{guessed_entry, same_rest}
use Rattle.gmp_trace.proofs.at.entry_at.Goals as goal

pub returns-in_default-clause-only : goal.returns-in_default-clause-only
returns-in_default-clause-only c n e more h is =
    let same = guessed_entry c.args.text.now c.deref-3.result.now c.word.result.now (map (λ w. w.now) c.split.new.words.items) c.number-n.result c.guess_entry.new.entry n e more
    c.in_ok-split.ensures (rw c.deref.ensures.value at c.word.ensures) c.number-n.ensures (rw c.deref-2.ensures.value at c.guess_entry.ensures.value)
    (c.deref-3.ensures.value ∙ rw c.clear.ensures.items at c.in_ok-put_entry.ensures) h is in
    c.in_default.ensures more same.2

pub returns-clause-only : goal.returns-clause-only
returns-clause-only c n e more h is =
    let same = guessed_entry c.args.text.now c.deref-3.result.now c.word.result.now (map (λ w. w.now) c.split.new.words.items) c.number-n.result c.guess_entry.new.entry n e more
    c.in_ok-split.ensures (rw c.deref.ensures.value at c.word.ensures) c.number-n.ensures (rw c.deref-2.ensures.value at c.guess_entry.ensures.value)
    (c.deref-3.ensures.value ∙ rw c.clear.ensures.items at c.in_ok-put_entry.ensures) h is in
    (same.0, same.1, same_rest c.args.text.now c.deref-3.result.now c.in-Some.rest.now more c.in-Some.ensures same.2)
