-- Processors that are active, and those that are not.
use Rattle.std.specs.Prelude.{◌≡◌, Bool, nat_lt}
use Rattle.gmp_base.specs.declared.number.MNo.{MNo}
use Rattle.gmp_base.specs.declared.number.PNo.{PNo}
use Rattle.gmp_seq.specs.Machines.{Machines, Holds}

-- the machine holds a processor that is active, or one that is not
abbrev pub HoldsSo : Machines → MNo → Bool → Type 0
HoldsSo w m b = (p : PNo) × Holds w m p × (b ≡ nat_lt p.0 w.active)
