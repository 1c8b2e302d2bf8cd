use Rattle.std.proofs.Common.{◌≡◌, ◌+◌, ◌++◌, drop, length}
use Rattle.gmp_trace.specs.Pieces.{entries_text}
use Rattle.gmp_trace.specs.Text.{Owes, begins_of, beginning_text, first_number}
use Rattle.gmp_trace.proofs.writing.write_view.Given as goal

abbrev pub invariant-loop-i : goal.invariant-loop-i
invariant-loop-i g l = record {
  counted : l.i ≡ length l.yielded;
  owes : Owes (g.W.Write.contents l.fn.writer) (g.W.Write.contents l.writer)
      (l.out.items ++ entries_text (first_number (begins_of l.trace.beginning) + l.i) (drop l.i l.trace.entries.now.list))
      (beginning_text l.trace.limits l.trace.bodies (begins_of l.trace.beginning) ++ entries_text (first_number (begins_of l.trace.beginning)) l.trace.entries.now.list);
}
