-- What a granted call needs, and what holds of its step.
use Rattle.std.specs.Prelude.{◌≡◌, false, Some, slice_get}
use Rattle.gmp_base.specs.declared.number.GNo.{GNo}
use Rattle.gmp_base.specs.declared.number.MNo.{MNo}
use Rattle.gmp_base.specs.declared.number.PNo.{PNo}
use Rattle.gmp_seq.specs.declared.call.Call.{Call}
use Rattle.gmp_seq.specs.declared.call.Call.TheVariants as call
use Rattle.gmp_seq.specs.declared.call.Limits.{Limits}
use Rattle.gmp_seq.specs.declared.call.Reply.{Reply}
use Rattle.gmp_seq.specs.declared.status.Mode.TheVariants as mode
use Rattle.gmp_seq.specs.Laws.{IsInOrder}
use Rattle.gmp_seq.specs.Machines.{Holds, spins}
use Rattle.gmp_seq.specs.Needs.{Needs}
use Rattle.gmp_seq.specs.State.{State}
use Rattle.gmp_seq.specs.Step.{Step}
use Rattle.gmp_seq.specs.Table.{IsCalling, IsRunning, RunsNothing}
use Rattle.gmp_journal.specs.Grants.{Grants}

-- What a call needs that is handed this goroutine and this processor: what the scheduler needs, and that they are the machine's.
abbrev pub NeedsOf : MNo → GNo → PNo → Call → State → Type 0
NeedsOf m g p call.Acquire s = Needs m call.Acquire s
NeedsOf m g p call.Take s = Needs m call.Take s
NeedsOf m g p (call.Put r) s = Needs m (call.Put r) s
NeedsOf m g p (call.Claim r) s = Needs m (call.Claim r) s
NeedsOf m g p call.Enter s = IsRunning s.table g m × Holds s.machines m p
NeedsOf m g p (call.Leave number) s = IsCalling s.table g m
NeedsOf m g p call.Spin s = Needs m call.Spin s
-- the machine is in no blocking call
NeedsOf m g p call.Woken s = slice_get s.machines.modes m.0 ≡ Some mode.Calling → ⊥
NeedsOf m g p call.Keep s = Needs m call.Keep s
NeedsOf m g p call.Unspin s = Needs m call.Unspin s
NeedsOf m g p call.Poke s = Needs m call.Poke s
NeedsOf m g p call.Declare s = RunsNothing s.table m × (spins s.machines m ≡ false) × Holds s.machines m p
NeedsOf m g p call.Bare s = Needs m call.Bare s
NeedsOf m g p call.Park s = Needs m call.Park s
NeedsOf m g p (call.Tick moment) s = Needs m (call.Tick moment) s
-- every other call is of the goroutine that the machine runs
NeedsOf m g p _ s = IsRunning s.table g m

-- Where the call is granted with this goroutine and this processor, a step that it makes is so.
abbrev pub StepsAre : Call → (MNo → GNo → PNo → Reply → State → State → Type 0) → Type 0
StepsAre asked P =
    (limits : Limits) (m : MNo) (g : GNo) (p : PNo) (answer : Reply) (old new : State) → IsInOrder limits old → Grants m g p asked old → Step limits m asked answer old new
    → P m g p answer old new
