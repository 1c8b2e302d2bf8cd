-- A state of all machines together: the run that the book holds, the local queues, the machines, and the calls that they made.
use Rattle.std.specs.Prelude.{◌≡◌, ℕ, ◌+◌, ◌==◌, ◌&&◌, Bool, false, List, [], filter, map, Option, Some, None, slice_get, slice_index_or, count_by, slice_index, sum, sum_by, if◌then◌else◌}
use Rattle.std.specs.Option.{option_map_or}
use Rattle.gmp_base.specs.declared.number.GNo.{GNo}
use Rattle.gmp_base.specs.declared.number.MNo.{MNo}
use Rattle.gmp_base.specs.declared.number.PNo.{PNo}
use Rattle.gmp_base.specs.declared.number.Readiness.{Readiness}
use Rattle.gmp_seq.specs.declared.call.Call.{Call}
use Rattle.gmp_seq.specs.declared.call.Entry.{Entry}
use Rattle.gmp_seq.specs.declared.call.Limits.{Limits}
use Rattle.gmp_seq.specs.declared.call.Reply.{Reply}
use Rattle.gmp_seq.specs.declared.status.Goroutine.{Goroutine}
use Rattle.gmp_seq.specs.declared.status.Status.{Status}
use Rattle.gmp_seq.specs.Laws.{is_ready}
use Rattle.gmp_seq.specs.Machines.{Holds}
use Rattle.gmp_seq.specs.State.{State}
use Rattle.gmp_seq.specs.Table.{Table, IsCalling, IsRunning, is_out, is_shelved}
use Rattle.gmp_acts.specs.declared.made.Made.{Made}
use Rattle.gmp_driver.specs.declared.place.Place.TheVariants.{Start}
use Rattle.gmp_driver.specs.declared.registers.CalledParts.{CalledParts}
use Rattle.gmp_driver.specs.declared.registers.HeldParts.{HeldParts}
use Rattle.gmp_driver.specs.Registers.{nothing}
use Rattle.gmp_driver.specs.Seen.{own_processor}
use Rattle.gmp_acts.specs.Hands.{PlainHand, PlainMachine}

-- the run that the book holds: its number, what it was opened with, its history, and the state to which that leads
pub record BookRun : Type 0 where
  pub run : ℕ
  pub limits : Limits
  pub bodies : ℕ
  pub capacities : List ℕ
  pub history : List Entry
  pub state : State

-- how many calls of the machine were accepted, and how many of all
abbrev pub count_of : BookRun → MNo → ℕ
count_of book m = slice_index book.state.counts m.0

abbrev pub count_of_all : BookRun → ℕ
count_of_all book = sum book.state.counts

-- the book's run, a list of tickets for each processor's queue, the machines, and the calls that they made with what they were told
pub record System : Type 0 where
  pub book : BookRun
  pub queues : List (List Readiness)
  pub machines : List PlainMachine
  pub own : List Made

-- what `machine_at` answers for a number that no machine has
abbrev pub no_machine : PlainMachine
no_machine = record { run = 0; procs = 1; place = Start; fresh = false; turns = 0; aside = None; pass = None; hand = nothing }

abbrev pub machine_at : System → MNo → PlainMachine
machine_at k m = slice_index_or k.machines m.0 no_machine

abbrev pub queue_at : System → PNo → List Readiness
queue_at k p = slice_index_or k.queues p.0 []

-- The calls of a machine

-- the calls that machine m's program asked for, each with the reply that it was told
abbrev pub own_of : System → MNo → List (Call × Reply)
own_of k m = map (λ (x : Made). (x.call, x.reply)) (filter (λ (x : Made). x.m.0 == m.0) k.own)

-- an entry without its number
abbrev pub made_of : Entry → Made
made_of e = record { m = e.m; call = e.call; reply = e.reply }

-- What is in hand

-- the goroutine that the machine runs
abbrev pub held_number : {T : Type 0} → Option (HeldParts T) → Option GNo
held_number None = None
held_number (Some h) = Some h.g

-- the one whose blocking call it makes
abbrev pub called_number : {T : Type 0} → Option (CalledParts T) → Option GNo
called_number None = None
called_number (Some c) = Some c.g

-- What the machine holds was given to it: the book says so of each.
pub record Has (s : State) (m : MNo) (hand : PlainHand) : Type 0 where
  pub holds : (p : PNo) → own_processor hand ≡ Some p → Holds s.machines m p
  pub runs : (g : GNo) → held_number hand.held ≡ Some g → IsRunning s.table g m
  pub calls : (g : GNo) → called_number hand.called ≡ Some g → IsCalling s.table g m

-- The places of a ticket

abbrev pub is_same : Readiness → Readiness → Bool
is_same r t = (r.g.0 == t.g.0) && (r.epoch == t.epoch)

abbrev pub is_ticket : Readiness → Option Readiness → ℕ
is_ticket r None = 0
is_ticket r (Some t) = if is_same r t then 1 else 0

abbrev pub in_hand : Readiness → PlainHand → ℕ
in_hand r hand = is_ticket r hand.to_claim + is_ticket r hand.to_store

abbrev pub in_queue : Readiness → List Readiness → ℕ
in_queue r queue = count_by (is_same r) queue

-- 1 where the goroutine has this epoch and a status that passes the test
abbrev pub one_if : (Status → Bool) → Readiness → Table → ℕ
one_if test r t = if option_map_or (λ (x : Goroutine). test x.status && (x.epoch == r.epoch)) (slice_get t.goroutines r.g.0) false then 1 else 0

-- 1 where the ticket is on the shelf
abbrev pub on_shelf : Readiness → Table → ℕ
on_shelf r t = one_if is_shelved r t

-- 1 where the ticket is given out
abbrev pub out : Readiness → Table → ℕ
out r t = one_if is_out r t

-- 1 where the goroutine is ready by this readiness
abbrev pub readied : Readiness → Table → ℕ
readied r t = one_if is_ready r t

-- in how many queues and hands a ticket stands
abbrev pub elsewhere : Readiness → System → ℕ
elsewhere r k = sum_by (in_queue r) k.queues + sum_by (λ (x : PlainMachine). in_hand r x.hand) k.machines

-- in how many places a ticket stands: the shelf, the local queues and the hands
abbrev pub places_of : Readiness → System → ℕ
places_of r k = on_shelf r k.book.state.table + elsewhere r k
