use Rattle.std.proofs.Common.{◌≡◌, drop}
use Rattle.gmp_start.specs.Start.{machines_of, table_of}
use Rattle.gmp_start.specs.Fit.{flagged_from, spinner_fits}
use Rattle.gmp_start.proofs.start.Start.spinners_fit.Given as goal

abbrev pub invariant-loop-m : goal.invariant-loop-m
invariant-loop-m l = flagged_from (spinner_fits (machines_of l.self) (table_of l.self)) l.m (drop l.m l.self.spinning.items) ≡ flagged_from (spinner_fits (machines_of l.self) (table_of l.self)) 0 l.self.spinning.items
