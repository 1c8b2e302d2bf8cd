use Rattle.std.proofs.Common.{◌∙◌, map}
use Rattle.gmp_trace.proofs.Lines.{same_rest}
use Rattle.gmp_trace.proofs.StartLists.{guessed_head}
use Rattle.gmp_trace.proofs.start.at.head_at.Goals as goal

pub returns-in_default-clause-only : goal.returns-in_default-clause-only
returns-in_default-clause-only c made now arrivals active more a b d e is =
    let same = guessed_head c.args.text.now c.deref-5.result.now (map (λ w. w.now) c.split.new.words.items) c.number-made.result c.number-clock.result c.number-arrivals.result c.narrow8-active.result
    (record { made = made; clock = now; arrivals = arrivals; active = active }) more
    c.in_ok-split.ensures (rw (c.word.ensures, c.deref.ensures.value) at c.number-made.ensures) (rw (c.word-2.ensures, c.deref-2.ensures.value) at c.number-clock.ensures)
    (rw (c.word-3.ensures, c.deref-3.ensures.value) at c.number-arrivals.ensures) (rw (c.number.ensures, c.word-4.ensures, c.deref-4.ensures.value) at c.narrow8-active.ensures)
    (c.deref-5.ensures.value ∙ rw c.clear.ensures.items at c.in_ok-put_head.ensures) a b d e is in
    c.in_default.ensures more same.1

pub returns-clause-only : goal.returns-clause-only
returns-clause-only c made now arrivals active more a b d e is =
    let same = guessed_head c.args.text.now c.deref-5.result.now (map (λ w. w.now) c.split.new.words.items) c.number-made.result c.number-clock.result c.number-arrivals.result c.narrow8-active.result
    (record { made = made; clock = now; arrivals = arrivals; active = active }) more
    c.in_ok-split.ensures (rw (c.word.ensures, c.deref.ensures.value) at c.number-made.ensures) (rw (c.word-2.ensures, c.deref-2.ensures.value) at c.number-clock.ensures)
    (rw (c.word-3.ensures, c.deref-3.ensures.value) at c.number-arrivals.ensures) (rw (c.number.ensures, c.word-4.ensures, c.deref-4.ensures.value) at c.narrow8-active.ensures)
    (c.deref-5.ensures.value ∙ rw c.clear.ensures.items at c.in_ok-put_head.ensures) a b d e is in
    (same.0, same_rest c.args.text.now c.deref-5.result.now c.in-Some.rest.now more c.in-Some.ensures same.1)
