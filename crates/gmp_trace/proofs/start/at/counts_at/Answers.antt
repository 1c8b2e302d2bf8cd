use Rattle.std.proofs.Common.{◌∙◌, map}
use Rattle.gmp_trace.proofs.Lines.{same_rest}
use Rattle.gmp_trace.proofs.StartLists.{guessed_counts}
use Rattle.gmp_trace.proofs.start.at.counts_at.Goals as goal

pub returns-in_default-clause-only : goal.returns-in_default-clause-only
returns-in_default-clause-only c cs more h few is =
    let same = guessed_counts c.args.text.now c.deref-3.result.now (map (λ w. w.now) c.split.new.words.items) c.in_ok-counts.counts.items cs more
    c.in_ok-split.ensures (rw (c.skip.ensures, c.deref.ensures.value) at c.in_ok-counts.ensures)
    (c.deref-3.ensures.value ∙ rw (c.clear.ensures.items, c.deref-2.ensures.value) at c.in_ok-put_counts.ensures) h few is in
    c.in_default.ensures more same.1

pub returns-clause-only : goal.returns-clause-only
returns-clause-only c cs more h few is =
    let same = guessed_counts c.args.text.now c.deref-3.result.now (map (λ w. w.now) c.split.new.words.items) c.in_ok-counts.counts.items cs more
    c.in_ok-split.ensures (rw (c.skip.ensures, c.deref.ensures.value) at c.in_ok-counts.ensures)
    (c.deref-3.ensures.value ∙ rw (c.clear.ensures.items, c.deref-2.ensures.value) at c.in_ok-put_counts.ensures) h few is in
    (same.0, same_rest c.args.text.now c.deref-3.result.now c.in-Some.rest.now more c.in-Some.ensures same.1)
