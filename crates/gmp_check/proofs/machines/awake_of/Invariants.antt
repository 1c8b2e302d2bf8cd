use Rattle.std.proofs.Common.{◌≡◌, map, take}
use Rattle.gmp_seq.specs.Machines.{is_awake_mode}
use Rattle.gmp_check.proofs.machines.awake_of.Given as goal

-- of the modes before the index
abbrev pub invariant-loop-mode : goal.invariant-loop-mode
invariant-loop-mode l = l.awake.items ≡ map is_awake_mode (take l.mode-index l.modes)
