-- How many processors are active.
use Rattle.std.specs.Prelude.{◌≤◌, length}
use Rattle.gmp_seq.specs.Machines.{Machines}

-- from one on to all are
pub record HasActive (w : Machines) : Type 0 where
  pub some : 1 ≤ w.active
  pub all : w.active ≤ length w.holders
