use Rattle.std.proofs.Common.{◌≡◌, List, ◌++◌, ◌≤◌, ◌+◌, length, map, reverse, vec_capacity}
use Rattle.gmp_base.specs.declared.pass.Pass.{Pass}
use Rattle.gmp_core.specs.Opening.{at_start}
use Rattle.gmp_core.proofs.opening.starting.Given as goal

-- the passes from the end on are machines, the last first
abbrev pub invariant-loop-pass : goal.invariant-loop-pass
invariant-loop-pass g l = record {
  done : (rest : List Pass) × (l.initial.passes.items ≡ l.passes.items ++ rest) × (l.drivers.items ≡ reverse (map (at_start l.fn.is_fair l.fn.procs) rest));
  room : length l.passes.items + length l.drivers.items ≤ vec_capacity l.drivers;
}

abbrev pub decreases-loop-pass : goal.decreases-loop-pass
decreases-loop-pass g l = length l.passes.items
