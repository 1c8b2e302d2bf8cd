use Rattle.std.proofs.Common.{◌∙◌, map}
use Rattle.gmp_trace.proofs.Lines.{same_rest}
use Rattle.gmp_trace.proofs.StartRows.{guessed_row}
use Rattle.gmp_trace.proofs.start.at.row_at.Goals as goal

pub returns-in_default-clause-only : goal.returns-in_default-clause-only
returns-in_default-clause-only c g machines channels x more small few some epoch h is =
    let same = guessed_row c.args.text.now c.deref-3.result.now (map (λ w. w.now) c.split.new.words.items) c.narrow16-g.result c.guess_row-row.result machines channels g x more
    c.in_ok-split.ensures (rw (c.number.ensures, c.word.ensures, c.deref.ensures.value) at c.narrow16-g.ensures) (rw c.deref-2.ensures.value at c.guess_row-row.ensures)
    (c.deref-3.ensures.value ∙ rw (c.clear.ensures.items, c.from.ensures) at c.in_ok-put_goroutine_line.ensures) small few some epoch h is in
    c.in_default.ensures more same.2

pub returns-clause-only : goal.returns-clause-only
returns-clause-only c g machines channels x more small few some epoch h is =
    let same = guessed_row c.args.text.now c.deref-3.result.now (map (λ w. w.now) c.split.new.words.items) c.narrow16-g.result c.guess_row-row.result machines channels g x more
    c.in_ok-split.ensures (rw (c.number.ensures, c.word.ensures, c.deref.ensures.value) at c.narrow16-g.ensures) (rw c.deref-2.ensures.value at c.guess_row-row.ensures)
    (c.deref-3.ensures.value ∙ rw (c.clear.ensures.items, c.from.ensures) at c.in_ok-put_goroutine_line.ensures) small few some epoch h is in
    (same.0, same.1, same_rest c.args.text.now c.deref-3.result.now c.in-Some.rest.now more c.in-Some.ensures same.2)
