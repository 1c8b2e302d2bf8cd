-- What holds where a call is granted, and what this code chooses where the model leaves a choice.
use Rattle.std.specs.declared.alloc.Global.{Global}
use Rattle.std.specs.Prelude.{◌≡◌, ℕ, ◌⊎◌, true, false, Option, Some, IsNone, IsSome, List, is_none, position, slice_get}
use Rattle.gmp_base.specs.declared.number.GNo.{GNo}
use Rattle.gmp_base.specs.declared.number.MNo.{MNo}
use Rattle.gmp_base.specs.declared.number.PNo.{PNo}
use Rattle.gmp_seq.specs.declared.call.Call.{Call}
use Rattle.gmp_seq.specs.declared.call.Call.TheVariants as call
use Rattle.gmp_seq.specs.declared.call.Reply.{Reply}
use Rattle.gmp_seq.specs.declared.call.Reply.TheVariants as reply
use Rattle.gmp_seq.specs.declared.status.Goroutine.{Goroutine}
use Rattle.gmp_seq.specs.declared.status.Mode.TheVariants as mode
use Rattle.gmp_seq.specs.Machines.{Holds, IsAwake, IsBare, IsParked, has_processor, is_parked_mode, spins}
use Rattle.gmp_seq.specs.State.{State}
use Rattle.gmp_seq.specs.Step.{IsFree}
use Rattle.gmp_seq.specs.Table.{IsCalling, IsRunning, RunsNothing, is_outstanding, is_startable}
use Rattle.gmp_journal.specs.declared.handed.Handed.{Handed}
use Rattle.gmp_journal.specs.Handed.{nothing_handed, ticket_handed, held_handed, held_and_proc_handed, called_handed, proc_handed}
use Rattle.gmp_goroutines.specs.Choice.{IsChoice}

-- What a call is handed

-- the values are of the kinds that the call wants, and a ticket is that of the call
abbrev pub Suits : Call → Handed → Type 0
Suits call.Acquire values = values ≡ nothing_handed
Suits call.Take values = values ≡ nothing_handed
Suits (call.Put r) values = (run : ℕ) × (values ≡ ticket_handed run r)
Suits (call.Claim r) values = (run : ℕ) × (values ≡ ticket_handed run r)
Suits call.Enter values = (run : ℕ) × (g : GNo) × (other : ℕ) × (p : PNo) × (values ≡ held_and_proc_handed run g other p)
Suits (call.Leave number) values = (run : ℕ) × (g : GNo) × (values ≡ called_handed run g)
Suits call.Spin values = values ≡ nothing_handed
Suits call.Woken values = values ≡ nothing_handed
Suits call.Keep values = values ≡ nothing_handed
Suits call.Unspin values = values ≡ nothing_handed
Suits call.Poke values = values ≡ nothing_handed
Suits call.Declare values = (run : ℕ) × (p : PNo) × (values ≡ proc_handed run p)
Suits call.Bare values = values ≡ nothing_handed
Suits call.Park values = values ≡ nothing_handed
Suits (call.Tick moment) values = values ≡ nothing_handed
-- every other call is of the goroutine that the machine runs
Suits _ values = (run : ℕ) × (g : GNo) × (values ≡ held_handed run g)

-- a make is given memory, and no other call is
abbrev pub NeedsMemory : Call → Option Global → Type 0
NeedsMemory (call.Make capacity) memory = IsSome memory
NeedsMemory _ memory = IsNone memory

-- What holds where no line refuses the call, with a goroutine and a processor of m's
abbrev pub Grants : MNo → GNo → PNo → Call → State → Type 0
Grants m g p call.Acquire s = IsAwake s.machines m × (has_processor s.machines m ≡ false)
Grants m g p call.Take s = IsAwake s.machines m
Grants m g p (call.Put r) s = IsAwake s.machines m × (is_outstanding s.table r ≡ true)
Grants m g p (call.Claim r) s = IsFree s m × (has_processor s.machines m ≡ true) × (is_outstanding s.table r ≡ true)
Grants m g p call.Enter s = IsRunning s.table g m × Holds s.machines m p × IsAwake s.machines m
Grants m g p (call.Leave number) s = IsCalling s.table g m × RunsNothing s.table m × (slice_get s.machines.modes m.0 ≡ Some mode.Calling)
Grants m g p call.Spin s = IsAwake s.machines m × RunsNothing s.table m
Grants m g p call.Woken s = IsAwake s.machines m ⊎ IsParked s.machines m
Grants m g p call.Keep s = IsAwake s.machines m × (has_processor s.machines m ≡ true)
Grants m g p call.Unspin s = IsAwake s.machines m
Grants m g p call.Poke s = IsAwake s.machines m
Grants m g p call.Declare s = RunsNothing s.table m × (spins s.machines m ≡ false) × Holds s.machines m p
Grants m g p call.Bare s = IsBare s.machines m
Grants m g p call.Park s = IsBare s.machines m
Grants m g p (call.Tick moment) s = IsAwake s.machines m
Grants m g p _ s = IsRunning s.table g m

-- The code's choice

-- Where the scheduler leaves a choice: an idle processor is the least, a ticket is that of the goroutine that is on the shelf for
-- longest, a spawn starts the least that is dormant or dead, a parked machine that wakes is the least, and of a select's cases the word chooses.
abbrev pub Chooses : Call → ℕ → Reply → State → List GNo → Type 0
Chooses call.Acquire word (reply.Proc p) s shelf = position is_none s.machines.holders ≡ Some p.0
Chooses (call.Leave number) word (reply.Runs p) s shelf = position is_none s.machines.holders ≡ Some p.0
Chooses call.Take word (reply.Ticket r) s shelf = slice_get shelf 0 ≡ Some r.g
Chooses call.Spawn word (reply.Ticket r) s shelf = position (λ (x : Goroutine). is_startable x.status) s.table.goroutines ≡ Some r.g.0
Chooses call.Enter word (reply.Entered p (Some n)) s shelf = position is_parked_mode s.machines.modes ≡ Some n.0
Chooses call.Poke word (reply.Wakes n) s shelf = position is_parked_mode s.machines.modes ≡ Some n.0
Chooses (call.Select cases has_default until) word answer s shelf = IsChoice s cases word answer
Chooses _ word answer s shelf = Unit {0}
