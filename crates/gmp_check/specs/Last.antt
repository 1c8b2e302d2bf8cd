-- Who is at each machine.
use Rattle.std.specs.Prelude.{◌≡◌, Some, List, slice_get}
use Rattle.gmp_base.specs.declared.number.GNo.{GNo}
use Rattle.gmp_base.specs.declared.number.MNo.{MNo}
use Rattle.gmp_seq.specs.declared.status.Status.{Status}
use Rattle.gmp_seq.specs.declared.status.Status.TheVariants.{Running, Calling}
use Rattle.gmp_seq.specs.Table.{Table, IsHeld}

-- with this status a goroutine runs on the machine, or is in the blocking call that this makes
abbrev pub IsAt : MNo → Status → Type 0
IsAt m (Running n) = n ≡ m
IsAt m (Calling n) = n ≡ m
IsAt m _ = ⊥

-- none but this goroutine is there, where it gets this status
abbrev pub IsAlone : Table → GNo → Status → Type 0
IsAlone t g status = (m : MNo) (h : GNo) → IsAt m status → IsHeld t h m → h ≡ g

-- of each machine the goroutine that is there, where one is
abbrev pub AreLast : List GNo → Table → Type 0
AreLast last t = (m : MNo) (g : GNo) → IsHeld t g m → slice_get last m.0 ≡ Some g
