use Rattle.std.proofs.Common.{◌≡◌, ◌++◌, map, drop, codes}
use Rattle.gmp_trace.specs.Pieces.{fields, capacity_piece}
use Rattle.gmp_trace.proofs.line.put_capacities.Given as goal

abbrev pub invariant-loop-capacity : goal.invariant-loop-capacity
invariant-loop-capacity l =
    l.out.items ++ fields (map capacity_piece (drop l.capacity-index l.capacities)) ≡ l.fn.out.items ++ codes "caps" ++ fields (map capacity_piece l.capacities)
