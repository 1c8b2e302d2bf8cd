use Rattle.std.proofs.Common.{◌≡◌, drop}
use Rattle.gmp_start.specs.Start.{machines_of}
use Rattle.gmp_start.specs.Fit.{awake_at, flagged_from}
use Rattle.gmp_start.proofs.start.Start.marked_fit.Given as goal

abbrev pub invariant-loop-m : goal.invariant-loop-m
invariant-loop-m l = flagged_from (awake_at (machines_of l.self)) l.m (drop l.m l.self.marked.items) ≡ flagged_from (awake_at (machines_of l.self)) 0 l.self.marked.items
