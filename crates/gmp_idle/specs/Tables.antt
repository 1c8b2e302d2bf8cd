-- What is done to the least idle processor that is active, and to the least parked machine.
use Rattle.std.specs.Prelude.{◌≡◌, ◌≢◌, ℕ, ◌<◌, false, Option, None, Some, List, is_none, length, position, take, slice_get, slice_set}
use Rattle.std.specs.List.{list_any}
use Rattle.gmp_base.specs.declared.number.MNo.{MNo}
use Rattle.gmp_base.specs.declared.number.PNo.{PNo}
use Rattle.gmp_seq.specs.declared.status.Mode.{Mode}
use Rattle.gmp_seq.specs.declared.status.Mode.TheVariants.{Awake, Parked}
use Rattle.gmp_seq.specs.Machines.{is_parked_mode}

-- each machine but this one is parked
abbrev pub AreOthersParked : MNo → List Mode → Type 0
AreOthersParked m modes = (n : ℕ) → n < length modes → n ≢ m.0 → slice_get modes n ≡ Some Parked

-- the machine holds the least idle processor from now on, which is active, or no active one is idle
abbrev pub TakesLeast : MNo → ℕ → Option PNo → List (Option MNo) → List (Option MNo) → Type 0
TakesLeast m active (Some p) old new = (position is_none old ≡ Some p.0) × (p.0 < active) × (new ≡ slice_set old p.0 (Some m))
TakesLeast m active None old new = (list_any is_none (take active old) ≡ false) × (new ≡ old)

-- the least parked machine is awake from now on, or none is parked
abbrev pub WakesLeast : Option MNo → List Mode → List Mode → Type 0
WakesLeast (Some m) old new = (position is_parked_mode old ≡ Some m.0) × (new ≡ slice_set old m.0 Awake)
WakesLeast None old new = (list_any is_parked_mode old ≡ false) × (new ≡ old)
