use Rattle.std.proofs.Common.{◌≡◌, ◌++◌, map, drop, codes}
use Rattle.gmp_trace.specs.Pieces.{fields, number}
use Rattle.gmp_trace.proofs.start.put.put_counts.Given as goal

abbrev pub invariant-loop-count : goal.invariant-loop-count
invariant-loop-count l =
    l.out.items ++ fields (map number (drop l.count-index l.counts)) ≡ l.fn.out.items ++ codes "counts" ++ fields (map number l.counts)
