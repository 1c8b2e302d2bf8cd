-- What a call needs and doesn't have.
use Rattle.std.specs.Prelude.{◌≡◌, ◌⊎◌, true, false, Option, None, Some}
use Rattle.gmp_base.specs.declared.number.MNo.{MNo}
use Rattle.gmp_base.specs.declared.number.Readiness.{Readiness}
use Rattle.gmp_seq.specs.declared.call.Call.{Call}
use Rattle.gmp_seq.specs.declared.call.Call.TheVariants as call
use Rattle.gmp_seq.specs.Machines.{IsAwake, IsParked, has_processor, spins}
use Rattle.gmp_seq.specs.Needs.{CallsForSome, IsOutstanding, RunsSome}
use Rattle.gmp_seq.specs.State.{State}
use Rattle.gmp_seq.specs.Table.{RunsNothing}
use Rattle.gmp_check.specs.declared.state.needs.Need.{Need}
use Rattle.gmp_check.specs.declared.state.needs.Need.TheVariants as need

-- the call spends or puts back this ticket
abbrev pub IsByTicket : Call → Readiness → Type 0
IsByTicket (call.Put r) x = x ≡ r
IsByTicket (call.Claim r) x = x ≡ r
IsByTicket _ x = ⊥

-- it is not so
abbrev pub IsMissing : MNo → Call → State → Need → Type 0
IsMissing m c s need.Awake = IsAwake s.machines m → ⊥
IsMissing m c s need.AwakeOrParked = (IsAwake s.machines m ⊎ IsParked s.machines m) → ⊥
IsMissing m c s need.Processor = has_processor s.machines m ≡ false
IsMissing m c s need.NoProcessor = has_processor s.machines m ≡ true
IsMissing m c s need.Goroutine = RunsSome s m → ⊥
IsMissing m c s need.NoGoroutine = RunsNothing s.table m → ⊥
IsMissing m c s need.BlockingCall = CallsForSome s m → ⊥
IsMissing m c s need.NoSpin = spins s.machines m ≡ true
IsMissing m c s need.Ticket = (r : Readiness) × IsByTicket c r × (IsOutstanding s.table r → ⊥)

-- None: P holds. Some: it doesn't, since this is missing.
abbrev pub Lacks : MNo → Call → State → Type 0 → Option Need → Type 0
Lacks m c s P None = P
Lacks m c s P (Some need) = IsMissing m c s need × (P → ⊥)
