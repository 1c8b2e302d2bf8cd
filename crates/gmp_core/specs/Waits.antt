-- A core's acts while a ticket waits: its shelf is the line in which shelved goroutines stand.
use Rattle.std.specs.Prelude.{◌≡◌, ◌≤◌, ◌<◌, ℕ, ◌+◌, ◌*◌, List, [], ◌∷◌, length}
use Rattle.gmp_base.specs.declared.number.MNo.{MNo}
use Rattle.gmp_base.specs.declared.number.Readiness.{Readiness}
use Rattle.gmp_acts.specs.declared.choice.Choice.{Choice}
use Rattle.gmp_acts.specs.Acts.{Acts}
use Rattle.gmp_fair.specs.Fair.{AllSteady}
use Rattle.gmp_fair.specs.Waits.{IsWaiting, claimed_past}
use Rattle.gmp_core.specs.Whole.{TakesFixed, Whole}

-- acts in a row, while the ticket waits, each of which takes what is fixed; so many tickets machine m claims while it stands in lines
abbrev pub WaitsThrough : {T : Type 0} → MNo → Readiness → Whole T → List (MNo × Choice) → ℕ → Whole T → Type 0
WaitsThrough m r k [] count k' = IsWaiting r k.shelf k.system × (count ≡ 0) × (k' ≡ k)
WaitsThrough {T} m r k (move ∷ moves) count k' =
    IsWaiting r k.shelf k.system × (mid : Whole T) × (rest : ℕ) × Acts k.system move.0 move.1 mid.system × TakesFixed k move.0 move.1.word mid
    × (count ≡ claimed_past m r k.system mid.system + rest) × WaitsThrough m r mid moves rest k'

-- whichever acts follow, of fair machines each claims at most so many tickets while another waits in lines: the shelf, or a local queue
abbrev pub PassesNobodyOver : {T : Type 0} → Whole T → Type 0
PassesNobodyOver {T} k =
    (m : MNo) (r : Readiness) (moves : List (MNo × Choice)) (count : ℕ) (end : Whole T) → AllSteady k.system → m.0 < length k.system.machines
    → WaitsThrough m r k moves count end → count ≤ 32 * (k.system.book.limits.procs + 1) * k.system.book.bodies
