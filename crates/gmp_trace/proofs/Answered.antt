-- Each step answers its call as it may be answered.
use Rattle.std.proofs.Common.{ℕ, Bool, Option, None, Some, List, refl, IsTrue}
use Rattle.gmp_base.specs.declared.ask.Fault.TheVariants as fault
use Rattle.gmp_base.specs.declared.cases.Case.{Case}
use Rattle.gmp_base.specs.declared.cases.Case.TheVariants as case
use Rattle.gmp_base.specs.declared.number.CNo.{CNo}
use Rattle.gmp_base.specs.declared.number.GNo.{GNo}
use Rattle.gmp_base.specs.declared.number.MNo.{MNo}
use Rattle.gmp_base.specs.declared.number.Readiness.{Readiness}
use Rattle.gmp_seq.specs.declared.call.Call.{Call}
use Rattle.gmp_seq.specs.declared.call.Call.TheVariants as call
use Rattle.gmp_seq.specs.declared.call.Limits.{Limits}
use Rattle.gmp_seq.specs.declared.call.Relay.{Relay}
use Rattle.gmp_seq.specs.declared.call.Reply.{Reply}
use Rattle.gmp_seq.specs.declared.call.Reply.TheVariants as reply
use Rattle.gmp_seq.specs.declared.call.Taken.TheVariants as taken
use Rattle.gmp_seq.specs.declared.status.Transfer.TheVariants.{Failed, Handed, Stored, First, Relayed, Drained}
use Rattle.gmp_seq.specs.Machines
use Rattle.gmp_seq.specs.State.{State}
use Rattle.gmp_seq.specs.Step
use Rattle.gmp_seq.specs.Table.{Table}
use Rattle.gmp_seq.specs.Channels.{Channel}
use Rattle.gmp_trace.specs.HasText.{answers}

acquire : (m : MNo) (answer : Reply) (old new : Machines.Machines) → Machines.Acquires m answer old new → IsTrue (answers call.Acquire answer)
acquire m (reply.Proc p) old new h = refl
acquire m reply.Nothing old new h = refl
acquire m _ old new h = absurd h

take : (answer : Reply) (old new : Table) → Step.Takes answer old new → IsTrue (answers call.Take answer)
take (reply.Ticket r) old new h = refl
take reply.Nothing old new h = refl
take _ old new h = absurd h

put : (r : Readiness) (answer : Reply) (old new : Table) → Step.Puts r answer old new → IsTrue (answers (call.Put r) answer)
put r reply.Shelf old new h = refl
put r _ old new h = absurd h

claim : (m : MNo) (r : Readiness) (answer : Reply) (old new : Table) → Step.Claims m r answer old new → IsTrue (answers (call.Claim r) answer)
claim m r reply.Held old new h = refl
claim m r _ old new h = absurd h

go : (g : GNo) (answer : Reply) (old new : Table) → Step.Starts g answer old new → IsTrue (answers (call.Go g) answer)
go g (reply.Ticket r) old new h = refl
go g (reply.Fault fault.NoSuchBody) old new h = refl
go g (reply.Fault fault.AlreadyStarted) old new h = refl
go g _ old new h = absurd h

spawn : (answer : Reply) (old new : Table) → Step.Spawns answer old new → IsTrue (answers call.Spawn answer)
spawn (reply.Ticket r) old new h = refl
spawn (reply.Fault fault.NoSuchBody) old new h = refl
spawn _ old new h = absurd h

yield : (g : GNo) (answer : Reply) (old new : Table) → Step.Yields g answer old new → IsTrue (answers call.Yield answer)
yield g (reply.Shelved r) old new h = refl
yield g _ old new h = absurd h

exit : (g : GNo) (answer : Reply) (old new : Table) → Step.Exits g answer old new → IsTrue (answers call.Exit answer)
exit g reply.Dead old new h = refl
exit g reply.MainEnded old new h = refl
exit g _ old new h = absurd h

make : (limits : Limits) (capacity : ℕ) (answer : Reply) (old new : List Channel) → Step.Makes limits capacity answer old new
    → IsTrue (answers (call.Make capacity) answer)
make limits capacity (reply.Channel c) old new h = refl
make limits capacity (reply.Fault fault.BadCapacity) old new h = refl
make limits capacity (reply.Fault fault.TooManyChannels) old new h = refl
make limits capacity _ old new h = absurd h

close : (c : Option CNo) (answer : Reply) (old new : State) → Step.Closes c answer old new → IsTrue (answers (call.Close c) answer)
close (Some c) (reply.Closed n) old new h = refl
close (Some c) (reply.Fault fault.CloseOfClosed) old new h = refl
close (Some c) (reply.Fault fault.NoSuchChannel) old new h = refl
close None (reply.Fault fault.CloseOfNil) old new h = refl
close _ _ old new h = absurd h

len : (number : CNo → ℕ) (c : Option CNo) (answer : Reply) (old new : List Channel) → Step.Tells number c answer old new → IsTrue (answers (call.Len c) answer)
len number c (reply.Number n) old new h = refl
len number c (reply.Fault fault.NoSuchChannel) old new h = refl
len number c _ old new h = absurd h

cap : (number : CNo → ℕ) (c : Option CNo) (answer : Reply) (old new : List Channel) → Step.Tells number c answer old new → IsTrue (answers (call.Cap c) answer)
cap number c (reply.Number n) old new h = refl
cap number c (reply.Fault fault.NoSuchChannel) old new h = refl
cap number c _ old new h = absurd h

procs : (n : ℕ) (answer : Reply) (old new : Machines.Machines) → Machines.Sets n answer old new → IsTrue (answers (call.Procs n) answer)
procs n (reply.Number before) old new h = refl
procs n (reply.Fault fault.BadProcs) old new h = refl
procs n _ old new h = absurd h

select : (g : GNo) (cases : List Case) (has_default : Bool) (until : Option ℕ) (answer : Reply) (old new : State)
    → Step.Selects g cases has_default until answer old new → IsTrue (answers (call.Select cases has_default until) answer)
select g cases has_default until (reply.Chose i told) old new h = refl
select g cases has_default until reply.Default old new h = refl
select g cases has_default until reply.Waits old new h = refl
select g cases has_default until (reply.Fault fault.NoSuchChannel) old new h = refl
select g cases has_default until _ old new h = absurd h

sleep : (g : GNo) (until : ℕ) (answer : Reply) (old new : Table) → Step.Sleeps g until answer old new → IsTrue (answers (call.Sleep until) answer)
sleep g until reply.Waits old new h = refl
sleep g until _ old new h = absurd h

gopark : (g : GNo) (answer : Reply) (old new : Table) → Step.Goparks g answer old new → IsTrue (answers call.Gopark answer)
gopark g reply.Waits old new h = refl
gopark g _ old new h = absurd h

ready : (g : GNo) (answer : Reply) (old new : Table) → Step.Readies g answer old new → IsTrue (answers (call.Ready g) answer)
ready g (reply.Ticket r) old new h = refl
ready g (reply.Fault fault.NoSuchBody) old new h = refl
ready g (reply.Fault fault.NotParked) old new h = refl
ready g _ old new h = absurd h

enter : (m : MNo) (answer : Reply) (old new : Machines.Machines) → Machines.Enters m answer old new → IsTrue (answers call.Enter answer)
enter m (reply.Entered p None) old new h = refl
enter m (reply.Entered p (Some n)) old new h = refl
enter m _ old new h = absurd h

leave : (m : MNo) (number : ℕ) (answer : Reply) (old new : Machines.Machines) → Machines.Returns m answer old new → IsTrue (answers (call.Leave number) answer)
leave m number (reply.Runs p) old new h = refl
leave m number (reply.Shelved r) old new h = refl
leave m number _ old new h = absurd h

spin : (m : MNo) (answer : Reply) (old new : Machines.Machines) → Machines.Spins m answer old new → IsTrue (answers call.Spin answer)
spin m (reply.Answer b) old new h = refl
spin m _ old new h = absurd h

woken : (m : MNo) (answer : Reply) (old new : Machines.Machines) → Machines.Looks m answer old new → IsTrue (answers call.Woken answer)
woken m (reply.Answer b) old new h = refl
woken m _ old new h = absurd h

keep : (m : MNo) (answer : Reply) (old new : Machines.Machines) → Machines.MayKeep m answer old new → IsTrue (answers call.Keep answer)
keep m (reply.Answer b) old new h = refl
keep m _ old new h = absurd h

unspin : (m : MNo) (answer : Reply) (old new : Machines.Machines) → Machines.Unspins m answer old new → IsTrue (answers call.Unspin answer)
unspin m reply.Done old new h = refl
unspin m _ old new h = absurd h

poke : (m : MNo) (answer : Reply) (old new : Machines.Machines) → Machines.Pokes m answer old new → IsTrue (answers call.Poke answer)
poke m (reply.Wakes n) old new h = refl
poke m reply.Nothing old new h = refl
poke m _ old new h = absurd h

declare : (m : MNo) (answer : Reply) (old new : Machines.Machines) → Machines.Declares m answer old new → IsTrue (answers call.Declare answer)
declare m (reply.Idle p) old new h = refl
declare m _ old new h = absurd h

bare : (m : MNo) (answer : Reply) (old new : Machines.Machines) → Machines.Bares m answer old new → IsTrue (answers call.Bare answer)
bare m reply.Done old new h = refl
bare m _ old new h = absurd h

park : (m : MNo) (answer : Reply) (old new : State) → Step.Parks m answer old new → IsTrue (answers call.Park answer)
park m reply.Work old new h = refl
park m reply.AllAsleep old new h = refl
park m (reply.Mind until) old new h = refl
park m reply.LookAgain old new h = refl
park m reply.Parked old new h = refl
park m _ old new h = absurd h

tick : (moment : ℕ) (answer : Reply) (old new : Table) → Step.Ticks moment answer old new → IsTrue (answers (call.Tick moment) answer)
tick moment (reply.Woke n) old new h = refl
tick moment _ old new h = absurd h

-- A send gets nothing, and a receive sends nothing and doesn't fail.

send_not_got : (c : Option CNo) (v x : ℕ) (sent : Bool) (from : Option Relay) (old new : State) → Step.Communicates (case.Send c v) (taken.Got x sent from) old new → ⊥
send_not_got (Some c) v x sent from old new (Failed, proceeds, told, is, same) = cc
send_not_got (Some c) v x sent from old new (Handed w, proceeds, told, is, same) = cc
send_not_got (Some c) v x sent from old new (Stored, proceeds, told, is, same) = cc
send_not_got (Some c) v x sent from old new (First y, never, told, is, same) = never
send_not_got (Some c) v x sent from old new (Relayed y w, never, told, is, same) = never
send_not_got (Some c) v x sent from old new (Drained, never, told, is, same) = never
send_not_got None v x sent from old new (how, never, told, is, same) = never

recv_not_sent : (c : Option CNo) (to : Option Readiness) (old new : State) → Step.Communicates (case.Recv c) (taken.Sent to) old new → ⊥
recv_not_sent (Some c) to old new (Failed, never, told, is, same) = never
recv_not_sent (Some c) to old new (Handed w, never, told, is, same) = never
recv_not_sent (Some c) to old new (Stored, never, told, is, same) = never
recv_not_sent (Some c) to old new (First y, proceeds, told, is, same) = cc
recv_not_sent (Some c) to old new (Relayed y w, proceeds, told, is, same) = cc
recv_not_sent (Some c) to old new (Drained, proceeds, told, is, same) = cc
recv_not_sent None to old new (how, never, told, is, same) = never

recv_not_failed : (c : Option CNo) (old new : State) → Step.Communicates (case.Recv c) taken.Failed old new → ⊥
recv_not_failed (Some c) old new (Failed, never, told, is, same) = never
recv_not_failed (Some c) old new (Handed w, never, told, is, same) = never
recv_not_failed (Some c) old new (Stored, never, told, is, same) = never
recv_not_failed (Some c) old new (First y, proceeds, told, is, same) = cc
recv_not_failed (Some c) old new (Relayed y w, proceeds, told, is, same) = cc
recv_not_failed (Some c) old new (Drained, proceeds, told, is, same) = cc
recv_not_failed None old new (how, never, told, is, same) = never

send : (g : GNo) (c : Option CNo) (v : ℕ) (answer : Reply) (old new : State) → Step.Deals g (case.Send c v) answer old new → IsTrue (answers (call.Send c v) answer)
send g c v (reply.Sent to) old new h = refl
send g c v (reply.Got x sent from) old new (made, h) = absurd (send_not_got c v x sent from old new h)
send g c v reply.Waits old new h = refl
send g c v (reply.Fault fault.SendOnClosed) old new h = refl
send g c v (reply.Fault fault.NoSuchChannel) old new h = refl
send g c v _ old new h = absurd h

recv : (g : GNo) (c : Option CNo) (answer : Reply) (old new : State) → Step.Deals g (case.Recv c) answer old new → IsTrue (answers (call.Recv c) answer)
recv g c (reply.Sent to) old new (made, h) = absurd (recv_not_sent c to old new h)
recv g c (reply.Got x sent from) old new h = refl
recv g c reply.Waits old new h = refl
recv g c (reply.Fault fault.SendOnClosed) old new (made, h) = absurd (recv_not_failed c old new h)
recv g c (reply.Fault fault.NoSuchChannel) old new h = refl
recv g c _ old new h = absurd h

pub effect_answers : (limits : Limits) (m : MNo) (c : Call) (answer : Reply) (old new : State) → Step.Effect limits m c answer old new → IsTrue (answers c answer)
effect_answers limits m call.Acquire answer old new (h, table, channels) = acquire m answer _ _ h
effect_answers limits m call.Take answer old new (awake, (h, channels, machines)) = take answer _ _ h
effect_answers limits m (call.Put r) answer old new (awake, (h, channels, machines)) = put r answer _ _ h
effect_answers limits m (call.Claim r) answer old new (free, holds, (h, channels, machines)) = claim m r answer _ _ h
effect_answers limits m (call.Go k) answer old new (g, running, (h, channels, machines)) = go k answer _ _ h
effect_answers limits m call.Spawn answer old new (g, running, (h, channels, machines)) = spawn answer _ _ h
effect_answers limits m call.Yield answer old new (g, running, (h, channels, machines)) = yield g answer _ _ h
effect_answers limits m call.Exit answer old new (g, running, (h, channels, machines)) = exit g answer _ _ h
effect_answers limits m (call.Make capacity) answer old new (g, running, (h, table, machines)) = make limits capacity answer _ _ h
effect_answers limits m (call.Send c v) answer old new (g, running, h) = send g c v answer old new h
effect_answers limits m (call.Recv c) answer old new (g, running, h) = recv g c answer old new h
effect_answers limits m (call.Close c) answer old new (g, running, h) = close c answer old new h
effect_answers limits m (call.Len c) answer old new (g, running, (h, table, machines)) = len _ c answer _ _ h
effect_answers limits m (call.Cap c) answer old new (g, running, (h, table, machines)) = cap _ c answer _ _ h
effect_answers limits m (call.Procs n) answer old new (g, running, (h, table, channels)) = procs n answer _ _ h
effect_answers limits m (call.Select cases has_default until) answer old new (few, (g, running, h)) = select g cases has_default until answer old new h
effect_answers limits m (call.Sleep until) answer old new (g, running, (h, channels, machines)) = sleep g until answer _ _ h
effect_answers limits m call.Gopark answer old new (g, running, (h, channels, machines)) = gopark g answer _ _ h
effect_answers limits m (call.Ready k) answer old new (g, running, (h, channels, machines)) = ready k answer _ _ h
effect_answers limits m call.Enter answer old new (g, running, (table, h, channels)) = enter m answer _ _ h
effect_answers limits m (call.Leave number) answer old new (g, calling, (resumes, h, channels)) = leave m number answer _ _ h
effect_answers limits m call.Spin answer old new (free, (h, table, channels)) = spin m answer _ _ h
effect_answers limits m call.Woken answer old new (h, table, channels) = woken m answer _ _ h
effect_answers limits m call.Keep answer old new (h, table, channels) = keep m answer _ _ h
effect_answers limits m call.Unspin answer old new (h, table, channels) = unspin m answer _ _ h
effect_answers limits m call.Poke answer old new (h, table, channels) = poke m answer _ _ h
effect_answers limits m call.Declare answer old new (free, (h, table, channels)) = declare m answer _ _ h
effect_answers limits m call.Bare answer old new (h, table, channels) = bare m answer _ _ h
effect_answers limits m call.Park answer old new (bare, h) = park m answer old new h
effect_answers limits m (call.Tick moment) answer old new (awake, (h, channels, machines)) = tick moment answer _ _ h
