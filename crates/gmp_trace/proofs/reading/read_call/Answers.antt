use Rattle.std.proofs.Common.{◌∙◌, map, rules}
use Rattle.gmp_trace.proofs.Lines.{guessed_call}
use Rattle.gmp_trace.proofs.reading.read_call.Goals as goal

pub returns-then-ne-clause-only : goal.returns-then-ne-clause-only
returns-then-ne-clause-only c call h is =
    let same = guessed_call c.args.text.now c.as_slice.result.now c.as_slice-2.result.now (map (λ w. w.now) c.split.new.words.items) c.guess_call.new.call call
    c.in_ok-split.ensures (rw c.deref.ensures.value at c.guess_call.ensures.value) (c.as_slice.ensures.value ∙ rw c.new-guessed.ensures.items at c.in_ok-put_call.ensures)
    (c.as_slice-2.ensures.value ∙ rw c.new-given.ensures.items at c.in_ok-put_word.ensures) h is in
    search (rules, same.1)

pub returns-clause-only : goal.returns-clause-only
returns-clause-only c call h is =
    let same = guessed_call c.args.text.now c.as_slice.result.now c.as_slice-2.result.now (map (λ w. w.now) c.split.new.words.items) c.guess_call.new.call call
    c.in_ok-split.ensures (rw c.deref.ensures.value at c.guess_call.ensures.value) (c.as_slice.ensures.value ∙ rw c.new-guessed.ensures.items at c.in_ok-put_call.ensures)
    (c.as_slice-2.ensures.value ∙ rw c.new-given.ensures.items at c.in_ok-put_word.ensures) h is in
    same.0
