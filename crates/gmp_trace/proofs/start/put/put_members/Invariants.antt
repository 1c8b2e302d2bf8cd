use Rattle.std.proofs.Common.{◌≡◌, ◌++◌, map, drop}
use Rattle.gmp_trace.specs.Pieces.{fields}
use Rattle.gmp_trace.specs.StartText.{member_piece, members}
use Rattle.gmp_trace.proofs.start.put.put_members.Given as goal

abbrev pub invariant-loop-m : goal.invariant-loop-m
invariant-loop-m l =
    l.out.items ++ fields (map member_piece (members l.m (drop l.m l.flags))) ≡ l.fn.out.items ++ l.name ++ fields (map member_piece (members 0 l.flags))
