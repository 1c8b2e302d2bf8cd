use Rattle.std.proofs.Common.{◌≡◌, ◌++◌, map, drop, codes}
use Rattle.gmp_trace.specs.Pieces.{fields}
use Rattle.gmp_trace.specs.StartText.{holder_piece}
use Rattle.gmp_trace.proofs.start.put.put_procs.Given as goal

abbrev pub invariant-loop-holder : goal.invariant-loop-holder
invariant-loop-holder l =
    l.out.items ++ fields (map holder_piece (drop l.holder-index l.holders)) ≡ l.fn.out.items ++ codes "procs" ++ fields (map holder_piece l.holders)
