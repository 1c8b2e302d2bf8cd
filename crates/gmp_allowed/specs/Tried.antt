-- Which replies are tried of a call: each that could be allowed.
use Rattle.std.specs.Prelude.{◌≡◌, ℕ, ◌+◌, ◌<◌, ◌%◌, ◌^◌, ◌⊎◌, Bool, true, Option, None, Some, List, Contains, find, slice_get, if◌then◌else◌}
use Rattle.std.specs.Option.{unwrap_or}
use Rattle.gmp_base.specs.declared.ask.Fault.TheVariants.{SendOnClosed}
use Rattle.gmp_base.specs.declared.cases.Case.{Case}
use Rattle.gmp_base.specs.declared.number.CNo.{CNo}
use Rattle.gmp_base.specs.declared.number.GNo.{GNo}
use Rattle.gmp_base.specs.declared.number.MNo.{MNo}
use Rattle.gmp_base.specs.declared.number.Readiness.{Readiness}
use Rattle.gmp_seq.specs.declared.call.Call.{Call}
use Rattle.gmp_seq.specs.declared.call.Call.TheVariants as call
use Rattle.gmp_seq.specs.declared.call.Limits.{Limits}
use Rattle.gmp_seq.specs.declared.call.Reply.{Reply}
use Rattle.gmp_seq.specs.declared.call.Reply.TheVariants as reply
use Rattle.gmp_seq.specs.declared.call.Taken.{Taken}
use Rattle.gmp_seq.specs.declared.call.Taken.TheVariants as taken
use Rattle.gmp_seq.specs.declared.status.Direction.{Direction}
use Rattle.gmp_seq.specs.declared.status.Direction.TheVariants.{Sending, Receiving}
use Rattle.gmp_seq.specs.declared.status.Goroutine.{Goroutine}
use Rattle.gmp_seq.specs.declared.status.Status.{Status}
use Rattle.gmp_seq.specs.declared.status.Status.TheVariants.{Waiting}
use Rattle.gmp_seq.specs.declared.status.Waiter.{Waiter}
use Rattle.gmp_seq.specs.Fits.{FitsReply, FitsTaken}
use Rattle.gmp_seq.specs.State.{State}
use Rattle.gmp_seq.specs.Step.{Communicates, Deals, Effect, Selects}
use Rattle.gmp_seq.specs.Table.{Table, epoch_at, is_calling_on, is_running_on, is_shelved, is_startable}
use Rattle.gmp_seq.specs.Waits.{as_waiters, is_on, offered}
use Rattle.gmp_allowed.specs.declared.numbered.Naming.{Naming}
use Rattle.gmp_allowed.specs.declared.numbered.Naming.TheVariants as naming

-- each of which P holds is among these
abbrev pub HasEach : {A : Type 0} → (A → Type 0) → List A → Type 0
HasEach {A} P xs = (x : A) → P x → Contains xs x

-- the reply fits a trace, and a call of m could be answered so
abbrev pub IsAnswer : MNo → Call → State → Reply → Type 0
IsAnswer m c s r = FitsReply r × (limits : Limits) × (new : State) × Effect limits m c r s new

-- each such reply is among these
abbrev pub HasAll : MNo → Call → State → List Reply → Type 0
HasAll m c s tried = HasEach (IsAnswer m c s) tried

-- some were added, and each of which P holds is among all
pub record AddsEach {A : Type 0} (P : A → Type 0) (old new : List A) : Type 0 where
  pub kept : (x : A) → Contains old x → Contains new x
  pub each : HasEach P new

-- P holds of it at a place before n
abbrev pub Before : {A : Type 0} → (ℕ → A → Type 0) → ℕ → A → Type 0
Before P n x = (k : ℕ) × (k < n) × P k x

-- the next readiness of a goroutine, its epoch in a `u64`
abbrev pub raised : GNo → ℕ → Readiness
raised g epoch = record { g = g; epoch = (epoch + 1) % 2 ^ 64 }

abbrev pub next_word : Table → GNo → Readiness
next_word t g = raised g (epoch_at t g)

-- Of a goroutine: its ticket, where it can be taken; it starts, where it can; it goes onto the shelf, where the machine runs it, or makes its blocking call
abbrev pub row_reply : MNo → Call → GNo → Goroutine → Option Reply
row_reply m call.Take g row = if is_shelved row.status then Some (reply.Ticket (record { g = g; epoch = row.epoch })) else None
row_reply m call.Spawn g row = if is_startable row.status then Some (reply.Ticket (raised g row.epoch)) else None
row_reply m call.Yield g row = if is_running_on m row.status then Some (reply.Shelved (raised g row.epoch)) else None
row_reply m (call.Leave number) g row = if is_calling_on m row.status then Some (reply.Shelved (raised g row.epoch)) else None
row_reply m _ g row = None

abbrev pub IsOfRow : MNo → Call → List Goroutine → ℕ → Reply → Type 0
IsOfRow m c rows k r = (k < 2 ^ 16) × (row : Goroutine) × (slice_get rows k ≡ Some row) × (row_reply m c (record { 0 = k }) row ≡ Some r)

-- the reply that names the processor or machine of this number
abbrev pub named : Naming → ℕ → Reply
named naming.Proc k = reply.Proc (record { 0 = k })
named naming.Runs k = reply.Runs (record { 0 = k })
named naming.Idle k = reply.Idle (record { 0 = k })
named naming.Wakes k = reply.Wakes (record { 0 = k })
named (naming.Entered p) k = reply.Entered p (Some (record { 0 = k }))

abbrev pub IsNamed : Naming → ℕ → Reply → Type 0
IsNamed naming k r = (k < 2 ^ 8) × (r ≡ named naming k)

-- machine m, which holds the processor of this number, gives it up, and wakes one of so many machines or none
abbrev pub IsEntered : MNo → ℕ → List (Option MNo) → ℕ → Reply → Type 0
IsEntered m machines holders k r =
    (k < 2 ^ 8) × (slice_get holders k ≡ Some (Some m)) × ((r ≡ reply.Entered (record { 0 = k }) None) ⊎ Before (IsNamed (naming.Entered (record { 0 = k }))) machines r)

-- what a communication is told: of a case of a select with its number
abbrev pub dealt : Option ℕ → Taken → Reply
dealt (Some i) told = reply.Chose i told
dealt None (taken.Sent to) = reply.Sent to
dealt None (taken.Got v sent from) = reply.Got v sent from
dealt None taken.Failed = reply.Fault SendOnClosed

-- the case could be answered so
abbrev pub IsDealt : Option ℕ → Case → State → Reply → Type 0
IsDealt i c s r = (told : Taken) × FitsTaken told × (new : State) × Communicates c told s new × (r ≡ dealt i told)

-- the first offer on the channel in this direction of a goroutine with this status
abbrev pub waiter_at : GNo → Status → CNo → Direction → Option Waiter
waiter_at g (Waiting w) c direction = find (is_on c direction) (as_waiters g w.arrival w.kind w.offers)
waiter_at g _ c direction = None

-- this waiter is served, where the channel's first value is this
abbrev pub served : Option ℕ → Readiness → Waiter → Direction → Taken
served first to w Receiving = taken.Sent (Some to)
served first to w Sending = taken.Got (unwrap_or first (offered w)) true (Some (record { sender = to; value = offered w }))

-- the reply serves goroutine k of these, which waits on the channel in this direction
abbrev pub IsServed : Option ℕ → CNo → Direction → Option ℕ → List Goroutine → ℕ → Reply → Type 0
IsServed i c direction first rows k r =
    (k < 2 ^ 16) × (row : Goroutine) × (slice_get rows k ≡ Some row) × (w : Waiter) × (waiter_at (record { 0 = k }) row.status c direction ≡ Some w)
    × (r ≡ dealt i (served first (raised (record { 0 = k }) row.epoch) w direction))

-- a plain send or receive could be answered so
abbrev pub IsDeal : Case → State → Reply → Type 0
IsDeal c s r = FitsReply r × (g : GNo) × (new : State) × Deals g c r s new

-- and a select with these cases
abbrev pub IsChoice : List Case → State → Reply → Type 0
IsChoice cases s r = FitsReply r × (g : GNo) × (has_default : Bool) × (until : Option ℕ) × (new : State) × Selects g cases has_default until r s new

-- the case of this number could be answered so
abbrev pub IsOfCase : List Case → State → ℕ → Reply → Type 0
IsOfCase cases s k r = (k < 2 ^ 8) × (c : Case) × (slice_get cases k ≡ Some c) × IsDealt (Some k) c s r
