use Rattle.std.proofs.Common.{◌≡◌, ◌++◌, List, drop}
use Rattle.gmp_seq.specs.declared.call.Entry.{Entry}
use Rattle.gmp_trace.specs.Summary.{CountsCalls, call_lines, names}
use Rattle.gmp_trace.proofs.summing.put_call_lines.Given as goal

abbrev pub invariant-loop-place : goal.invariant-loop-place
invariant-loop-place l = (es : List Entry) → CountsCalls l.counts es
    → l.out.items ++ call_lines (drop l.place names) es ≡ l.fn.out.items ++ call_lines names es
