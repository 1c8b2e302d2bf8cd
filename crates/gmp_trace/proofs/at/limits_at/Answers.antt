use Rattle.std.proofs.Common.{◌∙◌, map}
use Rattle.gmp_trace.proofs.Lines.{same_rest}
use Rattle.gmp_trace.proofs.Opening.{guessed_limits}
use Rattle.gmp_trace.proofs.at.limits_at.Goals as goal

pub returns-in_default-clause-only : goal.returns-in_default-clause-only
returns-in_default-clause-only c l bodies more h is =
    let same = guessed_limits c.args.text.now c.deref-3.result.now (map (λ w. w.now) c.split.new.words.items) c.guess_limits-limits.result l c.guess_bodies-bodies.result bodies more
    c.in_ok-split.ensures (rw c.deref.ensures.value at c.guess_limits-limits.ensures) (rw c.deref-2.ensures.value at c.guess_bodies-bodies.ensures)
    (c.deref-3.ensures.value ∙ rw c.clear.ensures.items at c.in_ok-put_limits.ensures) h is in
    c.in_default.ensures more same.2

pub returns-clause-only : goal.returns-clause-only
returns-clause-only c l bodies more h is =
    let same = guessed_limits c.args.text.now c.deref-3.result.now (map (λ w. w.now) c.split.new.words.items) c.guess_limits-limits.result l c.guess_bodies-bodies.result bodies more
    c.in_ok-split.ensures (rw c.deref.ensures.value at c.guess_limits-limits.ensures) (rw c.deref-2.ensures.value at c.guess_bodies-bodies.ensures)
    (c.deref-3.ensures.value ∙ rw c.clear.ensures.items at c.in_ok-put_limits.ensures) h is in
    (same.0, same.1, same_rest c.args.text.now c.deref-3.result.now c.in-Some.rest.now more c.in-Some.ensures same.2)
