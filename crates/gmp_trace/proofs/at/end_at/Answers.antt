use Rattle.std.proofs.Common.{◌∙◌, map}
use Rattle.gmp_trace.proofs.Lines.{guessed_end, same_rest}
use Rattle.gmp_trace.proofs.at.end_at.Goals as goal

pub returns-in_default-clause-only : goal.returns-in_default-clause-only
returns-in_default-clause-only c end more is =
    let same = guessed_end c.args.text.now c.deref-2.result.now (map (λ w. w.now) c.split.new.words.items) c.guess_end-end.result end more
    c.in_ok-split.ensures (rw c.deref.ensures.value at c.guess_end-end.ensures) (c.deref-2.ensures.value ∙ rw c.clear.ensures.items at c.in_ok-put_end.ensures) is in
    c.in_default.ensures more same.1

pub returns-clause-only : goal.returns-clause-only
returns-clause-only c end more is =
    let same = guessed_end c.args.text.now c.deref-2.result.now (map (λ w. w.now) c.split.new.words.items) c.guess_end-end.result end more
    c.in_ok-split.ensures (rw c.deref.ensures.value at c.guess_end-end.ensures) (c.deref-2.ensures.value ∙ rw c.clear.ensures.items at c.in_ok-put_end.ensures) is in
    (same.0, same_rest c.args.text.now c.deref-2.result.now c.in-Some.rest.now more c.in-Some.ensures same.1)
