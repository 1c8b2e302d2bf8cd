use Rattle.std.proofs.Common.{◌≡◌, ◌++◌, map, drop}
use Rattle.gmp_trace.specs.Pieces.{fields, number}
use Rattle.gmp_trace.proofs.start.put.put_channel_line.Given as goal

abbrev pub invariant-loop-value : goal.invariant-loop-value
invariant-loop-value l = l.out.items ++ fields (map number (drop l.value-index l.value-items)) ≡ l.initial.out.items ++ fields (map number l.value-items)
