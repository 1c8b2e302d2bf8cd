-- What becomes of the goroutine, the processor and the ticket that a call is handed.
use Rattle.std.specs.Prelude.{◌≡◌, ◌↔◌, ℕ, Option, Some}
use Rattle.gmp_base.specs.declared.cases.Case.TheVariants as case
use Rattle.gmp_base.specs.declared.number.GNo.{GNo}
use Rattle.gmp_base.specs.declared.number.MNo.{MNo}
use Rattle.gmp_base.specs.declared.number.PNo.{PNo}
use Rattle.gmp_seq.specs.declared.call.Call.{Call}
use Rattle.gmp_seq.specs.declared.call.Call.TheVariants as call
use Rattle.gmp_seq.specs.declared.call.Reply.{Reply}
use Rattle.gmp_seq.specs.declared.call.Reply.TheVariants as reply
use Rattle.gmp_seq.specs.declared.status.TicketPlace.TheVariants.{Out}
use Rattle.gmp_seq.specs.declared.status.Status.TheVariants.{Calling}
use Rattle.gmp_seq.specs.State.{State}
use Rattle.gmp_seq.specs.Step.{Deals, Exits, Goparks, Selects, Sleeps, Yields, LeavesBy}
use Rattle.gmp_seq.specs.Table.{IsAsleep, IsReady, minded, set_status, stored_at}

-- A call of m that was handed the goroutine g or the processor p, and was answered so: who yields is ready, who exits is dead, who waits does
-- so until the moment and for the offers that the call names, and whose blocking call begins or ends is that goroutine.
abbrev pub IsDoneTo : Call → MNo → GNo → PNo → Reply → State → State → Type 0
-- a claim stores nothing new: its goroutine is told what was stored for it
IsDoneTo (call.Claim r) m g p answer old new = IsReady old.table r Out (stored_at old.table r.g)
IsDoneTo call.Yield m g p answer old new = Yields g answer old.table new.table
IsDoneTo call.Exit m g p answer old new = Exits g answer old.table new.table × (answer ≡ reply.MainEnded ↔ (g.0 ≡ 0))
IsDoneTo (call.Send c v) m g p answer old new = Deals g (case.Send c v) answer old new
IsDoneTo (call.Recv c) m g p answer old new = Deals g (case.Recv c) answer old new
IsDoneTo (call.Select cases has_default until) m g p answer old new = Selects g cases has_default until answer old new
IsDoneTo (call.Sleep until) m g p answer old new = Sleeps g until answer old.table new.table
IsDoneTo call.Gopark m g p answer old new = Goparks g answer old.table new.table
IsDoneTo call.Enter m g p answer old new = (new.table ≡ set_status old.table g (Calling m)) × (woken : Option MNo) × (answer ≡ reply.Entered p woken)
IsDoneTo (call.Leave number) m g p answer old new = LeavesBy m g number answer old new
IsDoneTo call.Declare m g p answer old new = answer ≡ reply.Idle p
-- all are asleep exactly where a park says so, and it tells a moment exactly where nobody is ready or running and that is the least deadline
IsDoneTo call.Park m g p answer old new = (answer ≡ reply.AllAsleep ↔ IsAsleep old.table) × ((until : ℕ) → answer ≡ reply.Mind until ↔ (minded old.table ≡ Some until))
IsDoneTo _ m g p answer old new = Unit {0}
