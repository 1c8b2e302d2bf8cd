-- Each step leaves each channel's list within its capacity.
use Rattle.std.proofs.Common.{◌≡◌, ℕ, zero, suc, ◌+◌, ◌<◌, ◌≤◌, Bool, Option, None, Some, List, [], ◌∷◌, ◌++◌, length, set, sym, ap, subst, ◌∙◌, arith}
use Rattle.std.proofs.lemmas.Bool.{ltb-true}
use Rattle.std.proofs.lemmas.List.{length-append}
use Rattle.std.specs.List.{slice_get}
use Rattle.gmp_base.specs.declared.ask.Fault.TheVariants as fault
use Rattle.gmp_base.specs.declared.cases.Case.{Case}
use Rattle.gmp_base.specs.declared.cases.Case.TheVariants as case
use Rattle.gmp_base.specs.declared.number.CNo.{CNo}
use Rattle.gmp_base.specs.declared.number.GNo.{GNo}
use Rattle.gmp_base.specs.declared.number.MNo.{MNo}
use Rattle.gmp_seq.proofs.Epochs.{at_set}
use Rattle.gmp_seq.proofs.Sound.{HasRoom, row_items, row_capacity}
use Rattle.gmp_seq.specs.declared.call.Call.{Call}
use Rattle.gmp_seq.specs.declared.call.Call.TheVariants as call
use Rattle.gmp_seq.specs.declared.call.Limits.{Limits}
use Rattle.gmp_seq.specs.declared.call.Reply.{Reply}
use Rattle.gmp_seq.specs.declared.call.Reply.TheVariants as reply
use Rattle.gmp_seq.specs.declared.call.Taken.{Taken}
use Rattle.gmp_seq.specs.declared.status.Transfer.{Transfer}
use Rattle.gmp_seq.specs.declared.status.Transfer.TheVariants.{Failed, Handed, Stored, First, Relayed, Drained}
use Rattle.gmp_seq.specs.declared.status.Waiter.{Waiter}
use Rattle.gmp_seq.specs.State.{State, SameChannels}
use Rattle.gmp_seq.specs.Step
use Rattle.gmp_seq.specs.Waits as wait

-- Channels

row_room : (channels : List wait.Channel) (c : CNo) (row : wait.Channel) → HasRoom channels → length row.items ≤ row.capacity → HasRoom (set channels c.0 row)
row_room channels c row room fits i = at_set (λ (o : Option wait.Channel). length (row_items o) ≤ row_capacity o) channels c.0 i row (λ same. fits) (room i)

-- a value is stored only where there is room, and one that is relayed goes where one was taken
pub proceeds_room : (channels new : List wait.Channel) (all : List Waiter) (c : Case) (how : Transfer) → HasRoom channels → wait.Proceeds channels all c how new → HasRoom new
proceeds_room channels new all (case.Send (Some c) v) Failed room (closed, is) = subst HasRoom (sym is) room
proceeds_room channels new all (case.Send (Some c) v) (Handed w) room (open_, first, is) = subst HasRoom (sym is) room
proceeds_room channels new all (case.Send (Some c) v) Stored room (open_, none, has_room, is) =
    let less : length (row_items (slice_get channels c.0)) < row_capacity (slice_get channels c.0) = ltb-true _ _ has_room in
    subst HasRoom (sym is) (row_room channels c _ room (rw (length-append (row_items (slice_get channels c.0)) (v ∷ [])) (omega arith)))
proceeds_room channels new all (case.Recv (Some c)) (First v) room (rest, first, none, is) =
    let fits : length (row_items (slice_get channels c.0)) ≤ row_capacity (slice_get channels c.0) = room c.0 in
    let longer : length (row_items (slice_get channels c.0)) ≡ length (v ∷ rest) = ap length first in
    subst HasRoom (sym is) (row_room channels c _ room (omega arith))
proceeds_room channels new all (case.Recv (Some c)) (Relayed v from) room (rest, first, moves, is) =
    let fits : length (row_items (slice_get channels c.0)) ≤ row_capacity (slice_get channels c.0) = room c.0 in
    let same_length : length (row_items (slice_get channels c.0)) + 1 ≡ length rest + 1 =
    sym (length-append (row_items (slice_get channels c.0)) (wait.offered from ∷ [])) ∙ ap length moves ∙ omega arith in
    subst HasRoom (sym is) (row_room channels c _ room (omega arith))
proceeds_room channels new all (case.Recv (Some c)) Drained room (empty, none, closed, is) = subst HasRoom (sym is) room
proceeds_room channels new all (case.Send (Some c) v) (First x) room h = absurd h
proceeds_room channels new all (case.Send (Some c) v) (Relayed x w) room h = absurd h
proceeds_room channels new all (case.Send (Some c) v) Drained room h = absurd h
proceeds_room channels new all (case.Recv (Some c)) Failed room h = absurd h
proceeds_room channels new all (case.Recv (Some c)) (Handed w) room h = absurd h
proceeds_room channels new all (case.Recv (Some c)) Stored room h = absurd h
proceeds_room channels new all (case.Send None v) how room h = absurd h
proceeds_room channels new all (case.Recv None) how room h = absurd h

pub closes_room : (channels : List wait.Channel) (c : CNo) → HasRoom channels → HasRoom (wait.closed_at channels c)
closes_room channels c room = row_room channels c _ room (room c.0)

-- a new row at the end
push_cases : {A : Type 0} (P : Option A → Type 0) (xs : List A) (y : A) (i : ℕ) → P (Some y) → P None → P (slice_get xs i) → P (slice_get (xs ++ y ∷ []) i)
push_cases P [] y zero new none old = new
push_cases P [] y (suc i) new none old = none
push_cases P (x ∷ xs) y zero new none old = old
push_cases P (x ∷ xs) y (suc i) new none old = push_cases P xs y i new none old

pub makes_room : (channels : List wait.Channel) (capacity : ℕ) → HasRoom channels → HasRoom (channels ++ wait.new_channel capacity ∷ [])
makes_room channels capacity room i =
    push_cases (λ (o : Option wait.Channel). length (row_items o) ≤ row_capacity o) channels (wait.new_channel capacity) i (omega arith) (omega arith) (room i)

pub tells_same : (number : CNo → ℕ) (c : Option CNo) (answer : Reply) (old new : List wait.Channel) → Step.Tells number c answer old new → new ≡ old
tells_same number c (reply.Number n) old new (made, told, is) = is
tells_same number c (reply.Fault fault.NoSuchChannel) old new (made, is) = is
tells_same number c _ old new h = absurd h

-- States

abbrev Room : State → Type 0
Room s = HasRoom s.channels

same : (old new : State) → Room old → SameChannels old new → Room new
same old new room is = subst HasRoom (sym is) room

communicates : (c : Case) (told : Taken) (old new : State) → Room old → Step.Communicates c told old new → Room new
communicates c told old new room (how, proceeds, told_is, table, machines) = proceeds_room old.channels new.channels (wait.waiters old.table) c how room proceeds

deals : (g : GNo) (c : Case) (answer : Reply) (old new : State) → Room old → Step.Deals g c answer old new → Room new
deals g c (reply.Sent to) old new room (made, h) = communicates c _ old new room h
deals g c (reply.Got v sent from) old new room (made, h) = communicates c _ old new room h
deals g c (reply.Fault fault.SendOnClosed) old new room (made, h) = communicates c _ old new room h
deals g c reply.Waits old new room (made, (none, table, is, machines)) = same old new room is
deals g c (reply.Fault fault.NoSuchChannel) old new room (made, (table, is, machines)) = same old new room is
deals g c _ old new room h = absurd h

selects : (g : GNo) (cases : List Case) (has_default : Bool) (until : Option ℕ) (answer : Reply) (old new : State) → Room old
    → Step.Selects g cases has_default until answer old new → Room new
selects g cases has_default until (reply.Chose i told) old new room (made, c, at, h) = communicates c told old new room h
selects g cases has_default until reply.Default old new room (made, allowed, none, (table, is, machines)) = same old new room is
selects g cases has_default until reply.Waits old new room (made, no_default, (none, table, is, machines)) = same old new room is
selects g cases has_default until (reply.Fault fault.NoSuchChannel) old new room (made, (table, is, machines)) = same old new room is
selects g cases has_default until _ old new room h = absurd h

closes : (c : Option CNo) (answer : Reply) (old new : State) → Room old → Step.Closes c answer old new → Room new
closes (Some c) (reply.Closed n) old new room (made, open_, is, table, count, machines) = subst HasRoom (sym is) (closes_room old.channels c room)
closes (Some c) (reply.Fault fault.CloseOfClosed) old new room (made, closed, (table, is, machines)) = same old new room is
closes (Some c) (reply.Fault fault.NoSuchChannel) old new room (made, (table, is, machines)) = same old new room is
closes None (reply.Fault fault.CloseOfNil) old new room (table, is, machines) = same old new room is
closes _ _ old new room h = absurd h

makes : (limits : Limits) (capacity : ℕ) (answer : Reply) (old new : State) → Room old → Step.Makes limits capacity answer old.channels new.channels → Room new
makes limits capacity (reply.Channel c) old new room (fits, more, number, is) = subst HasRoom (sym is) (makes_room old.channels capacity room)
makes limits capacity (reply.Fault fault.BadCapacity) old new room (large, is) = same old new room is
makes limits capacity (reply.Fault fault.TooManyChannels) old new room (fits, many, is) = same old new room is
makes limits capacity _ old new room h = absurd h

parks : (m : MNo) (answer : Reply) (old new : State) → Room old → Step.Parks m answer old new → Room new
parks m reply.Work old new room (work, (table, is, machines)) = same old new room is
parks m reply.AllAsleep old new room (work, asleep, (table, is, machines)) = same old new room is
parks m (reply.Mind until) old new room (work, astir, minds, (table, is, machines)) = same old new room is
parks m reply.LookAgain old new room (work, astir, minds, marked, (table, is, machines)) = same old new room is
parks m reply.Parked old new room (work, astir, minds, unmarked, table, is, machines) = same old new room is
parks m _ old new room h = absurd h

pub effect_room : (limits : Limits) (m : MNo) (c : Call) (answer : Reply) (old new : State) → Room old → Step.Effect limits m c answer old new → Room new
effect_room limits m call.Acquire answer old new room (h, table, is) = same old new room is
effect_room limits m call.Take answer old new room (awake, (h, is, machines)) = same old new room is
effect_room limits m (call.Put r) answer old new room (awake, (h, is, machines)) = same old new room is
effect_room limits m (call.Claim r) answer old new room (free, holds, (h, is, machines)) = same old new room is
effect_room limits m (call.Go k) answer old new room (g, running, (h, is, machines)) = same old new room is
effect_room limits m call.Spawn answer old new room (g, running, (h, is, machines)) = same old new room is
effect_room limits m call.Yield answer old new room (g, running, (h, is, machines)) = same old new room is
effect_room limits m call.Exit answer old new room (g, running, (h, is, machines)) = same old new room is
effect_room limits m (call.Make capacity) answer old new room (g, running, (h, table, machines)) = makes limits capacity answer old new room h
effect_room limits m (call.Send c v) answer old new room (g, running, h) = deals g (case.Send c v) answer old new room h
effect_room limits m (call.Recv c) answer old new room (g, running, h) = deals g (case.Recv c) answer old new room h
effect_room limits m (call.Close c) answer old new room (g, running, h) = closes c answer old new room h
effect_room limits m (call.Len c) answer old new room (g, running, (h, table, machines)) = same old new room (tells_same _ c answer _ _ h)
effect_room limits m (call.Cap c) answer old new room (g, running, (h, table, machines)) = same old new room (tells_same _ c answer _ _ h)
effect_room limits m (call.Procs n) answer old new room (g, running, (h, table, is)) = same old new room is
effect_room limits m (call.Select cases has_default until) answer old new room (few, (g, running, h)) = selects g cases has_default until answer old new room h
effect_room limits m (call.Sleep until) answer old new room (g, running, (h, is, machines)) = same old new room is
effect_room limits m call.Gopark answer old new room (g, running, (h, is, machines)) = same old new room is
effect_room limits m (call.Ready k) answer old new room (g, running, (h, is, machines)) = same old new room is
effect_room limits m call.Enter answer old new room (g, running, (table, h, is)) = same old new room is
effect_room limits m (call.Leave number) answer old new room (g, calling, (h, machines, is)) = same old new room is
effect_room limits m call.Spin answer old new room (free, (h, table, is)) = same old new room is
effect_room limits m call.Woken answer old new room (h, table, is) = same old new room is
effect_room limits m call.Keep answer old new room (h, table, is) = same old new room is
effect_room limits m call.Unspin answer old new room (h, table, is) = same old new room is
effect_room limits m call.Poke answer old new room (h, table, is) = same old new room is
effect_room limits m call.Declare answer old new room (free, (h, table, is)) = same old new room is
effect_room limits m call.Bare answer old new room (h, table, is) = same old new room is
effect_room limits m call.Park answer old new room (bare, h) = parks m answer old new room h
effect_room limits m (call.Tick moment) answer old new room (awake, (h, is, machines)) = same old new room is
