use Rattle.std.proofs.Common.{◌≡◌, ◌++◌, map, drop, codes}
use Rattle.gmp_trace.specs.Pieces.{fields}
use Rattle.gmp_trace.specs.StartText.{mode_piece}
use Rattle.gmp_trace.proofs.start.put.put_machines.Given as goal

abbrev pub invariant-loop-mode : goal.invariant-loop-mode
invariant-loop-mode l =
    l.out.items ++ fields (map mode_piece (drop l.mode-index l.modes)) ≡ l.fn.out.items ++ codes "machines" ++ fields (map mode_piece l.modes)
