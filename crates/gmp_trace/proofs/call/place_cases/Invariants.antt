use Rattle.std.proofs.Common.{◌≡◌, ◌+◌, ◌*◌, ◌≤◌, ◌++◌, map, drop, take}
use Rattle.gmp_trace.specs.Pieces.{fields}
use Rattle.gmp_trace.specs.Pieces.Piece.{OfCase}
use Rattle.gmp_trace.proofs.call.place_cases.Given as goal

abbrev pub invariant-loop-case : goal.invariant-loop-case
invariant-loop-case l = record {
  text : take l.end l.line ++ fields (map OfCase (drop l.case-index l.cases)) ≡ take l.at l.fn.line ++ fields (map OfCase l.cases);
  end : l.end ≤ l.at + 47 * l.case-index;
}
