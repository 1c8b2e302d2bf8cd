use Rattle.std.proofs.Common.{◌<◌, ◌∙◌, sym, arith}
use Rattle.std.proofs.lemmas.List.{append-nil}
use Rattle.gmp_trace.proofs.Counting.{call_lines_next, call_lines_none}
use Rattle.gmp_trace.proofs.summing.put_call_lines.Goals as goal

pub loop-place-preserved : goal.loop-place-preserved
loop-place-preserved c es h =
    let lt : c.loop-place.place < 30 = omega arith in
    let next = call_lines_next c.loop-place.place es c.loop-place.out.items lt in
    rw (c.in_ok-put_call_line.ensures, c.call_name.ensures, h c.loop-place.place lt) (sym next ∙ c.loop-place.invariant es h)

pub returns : goal.returns
returns c es h =
    let none = call_lines_none c.loop-place.place es (omega arith) in
    sym (append-nil c.loop-place.out.items) ∙ rw none at (c.loop-place.invariant es h)
