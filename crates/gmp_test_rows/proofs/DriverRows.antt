-- Rows of a machine's program, worked by hand: the act of a place, where the machine stands once it was told this, and whether it is fresh
-- then.
use Rattle.std.proofs.Common.{◌≡◌, ℕ, Bool, true, false, None, Some, [], refl}
use Rattle.gmp_base.specs.declared.ask.Ask.TheVariants as ask
use Rattle.gmp_base.specs.declared.ask.Fault.TheVariants as fault
use Rattle.gmp_base.specs.declared.ask.Woke.TheVariants as woke
use Rattle.gmp_base.specs.declared.number.Readiness.{Readiness}
use Rattle.gmp_base.specs.declared.refusal.Refusal.TheVariants as refusal
use Rattle.gmp_test_rows.proofs.Traces.{channel, goroutine, machine, processor, ticket}
use Rattle.gmp_seq.specs.declared.call.Call.TheVariants as call
use Rattle.gmp_seq.specs.declared.call.Relay.{Relay}
use Rattle.gmp_seq.specs.declared.call.Reply.TheVariants as reply
use Rattle.gmp_seq.specs.declared.call.Taken.TheVariants as taken
use Rattle.gmp_driver.specs.declared.act.Act.{Act}
use Rattle.gmp_driver.specs.declared.act.Act.TheVariants as act
use Rattle.gmp_driver.specs.declared.act.Told.{Told}
use Rattle.gmp_driver.specs.declared.act.Told.TheVariants as told
use Rattle.gmp_driver.specs.declared.act.Tried.TheVariants as tried
use Rattle.gmp_driver.specs.declared.act.Value.TheVariants as value
use Rattle.gmp_driver.specs.declared.place.Place.{Place}
use Rattle.gmp_driver.specs.declared.place.Place.TheVariants as place
use Rattle.gmp_driver.specs.declared.registers.Registers.{Registers}
use Rattle.gmp_driver.specs.declared.seen.Seen.{Seen}
use Rattle.gmp_driver.specs.Hunt.{steal_goal}
use Rattle.gmp_driver.specs.Registers.{first_value}
use Rattle.gmp_driver.specs.Table.{act_at, next_fresh, next_place, next_turns}

abbrev ready : Readiness
ready = ticket 1 2

-- goroutine 1 was served, and 5 moved from it
abbrev relay : Relay
relay = record { sender = ready; value = 5 }

-- Processor 1 of three is its own, and it has two tickets. It is not fresh, and no claim was made since the last tick. A hunt by word 3 has
-- the victims 0 and 2, one by word 4 has 2 and 0.
abbrev usual : Seen
usual = record { procs = 3; fresh = false; turns = 0; aside = None; own = Some (processor 1); to_claim = Some ready; to_store = Some (ticket 3 4); first = None }

-- 16 claims were made since the last tick
abbrev late : Seen
late = record usual { turns = 16 }

abbrev fresh : Seen
fresh = record usual { fresh = true }

-- there is one processor
abbrev alone : Seen
alone = record usual { procs = 1 }

-- it has no ticket to claim
abbrev idle : Seen
idle = record usual { to_claim = None }

-- the act at this place, and where the machine stands once it was told this, and whether it is fresh then
abbrev Leads : Seen → Place → Told → Act → Place → Bool → Type 0
Leads x here what does there is_fresh = (act_at x here ≡ does) × (next_place x here what ≡ there) × (next_fresh x here what ≡ is_fresh)

-- Replies of the book

start_proc_1 : Leads usual place.Start (told.Replied (reply.Proc (processor 1))) (act.Call call.Acquire) place.Look false
start_proc_1 = (refl, refl, refl)

start_nothing : Leads usual place.Start (told.Replied reply.Nothing) (act.Call call.Acquire) place.Bare false
start_nothing = (refl, refl, refl)

ticking_5_woke_2 : Leads usual (place.Ticking 5) (told.Replied (reply.Woke 2)) (act.Call (call.Tick 5)) place.Keep true
ticking_5_woke_2 = (refl, refl, refl)

ticking_5_woke_0 : Leads usual (place.Ticking 5) (told.Replied (reply.Woke 0)) (act.Call (call.Tick 5)) place.Keep false
ticking_5_woke_0 = (refl, refl, refl)

keep_answer_true : Leads usual place.Keep (told.Replied (reply.Answer true)) (act.Call call.Keep) place.Look false
keep_answer_true = (refl, refl, refl)

keep_answer_false : Leads usual place.Keep (told.Replied (reply.Answer false)) (act.Call call.Keep) place.Drain false
keep_answer_false = (refl, refl, refl)

drain_drained : Leads usual place.Drain told.Drained act.Drain place.PutDrain false
drain_drained = (refl, refl, refl)

drain_empty : Leads usual place.Drain told.Empty act.Drain place.Drop false
drain_empty = (refl, refl, refl)

put_drain_shelf : Leads usual place.PutDrain (told.Replied reply.Shelf) (act.Call (call.Put (ticket 3 4))) place.Drain false
put_drain_shelf = (refl, refl, refl)

global_ticket : Leads usual place.Global (told.Replied (reply.Ticket ready)) (act.Call call.Take) place.Claim false
global_ticket = (refl, refl, refl)

global_nothing : Leads usual place.Global (told.Replied reply.Nothing) (act.Call call.Take) place.Spin false
global_nothing = (refl, refl, refl)

spin_answer_true : Leads usual place.Spin (told.Replied (reply.Answer true)) (act.Call call.Spin) (place.Hunt None) false
spin_answer_true = (refl, refl, refl)

spin_answer_false : Leads usual place.Spin (told.Replied (reply.Answer false)) (act.Call call.Spin) place.Drop false
spin_answer_false = (refl, refl, refl)

unspin_done : Leads usual place.Unspin (told.Replied reply.Done) (act.Call call.Unspin) place.Claim true
unspin_done = (refl, refl, refl)

claim_held : Leads usual place.Claim (told.Replied reply.Held) (act.Call (call.Claim (ticket 1 2))) place.Run false
claim_held = (refl, refl, refl)

put_more_0_1_shelf : Leads usual (place.PutMore (processor 0) 1) (told.Replied reply.Shelf) (act.Call (call.Put (ticket 3 4))) (place.More (processor 0) 1) false
put_more_0_1_shelf = (refl, refl, refl)

put_more_0_0_shelf : Leads usual (place.PutMore (processor 0) 0) (told.Replied reply.Shelf) (act.Call (call.Put (ticket 3 4))) place.Unspin false
put_more_0_0_shelf = (refl, refl, refl)

leave_9_runs_1 : Leads usual (place.Leave 9) (told.Replied (reply.Runs (processor 1))) (act.Call (call.Leave 9)) place.Run false
leave_9_runs_1 = (refl, refl, refl)

leave_9_shelved : Leads usual (place.Leave 9) (told.Replied (reply.Shelved ready)) (act.Call (call.Leave 9)) place.Bare false
leave_9_shelved = (refl, refl, refl)

put_store_shelf : Leads usual place.PutStore (told.Replied reply.Shelf) (act.Call (call.Put (ticket 3 4))) place.Poke false
put_store_shelf = (refl, refl, refl)

poke_wakes_0 : Leads usual place.Poke (told.Replied (reply.Wakes (machine 0))) (act.Call call.Poke) place.Run false
poke_wakes_0 = (refl, refl, refl)

poke_nothing : Leads usual place.Poke (told.Replied reply.Nothing) (act.Call call.Poke) place.Run false
poke_nothing = (refl, refl, refl)

drop_idle_1 : Leads usual place.Drop (told.Replied (reply.Idle (processor 1))) (act.Call call.Declare) (place.Scan (processor 0)) false
drop_idle_1 = (refl, refl, refl)

bare_done : Leads usual place.Bare (told.Replied reply.Done) (act.Call call.Bare) (place.Scan (processor 0)) false
bare_done = (refl, refl, refl)

have_proc_0 : Leads usual place.Have (told.Replied (reply.Proc (processor 0))) (act.Call call.Acquire) place.Claim true
have_proc_0 = (refl, refl, refl)

have_nothing : Leads usual place.Have (told.Replied reply.Nothing) (act.Call call.Acquire) place.PutHave false
have_nothing = (refl, refl, refl)

put_have_shelf : Leads usual place.PutHave (told.Replied reply.Shelf) (act.Call (call.Put (ticket 1 2))) place.Bare false
put_have_shelf = (refl, refl, refl)

park_parked : Leads usual place.Park (told.Replied reply.Parked) (act.Call call.Park) place.Rest false
park_parked = (refl, refl, refl)

park_work : Leads usual place.Park (told.Replied reply.Work) (act.Call call.Park) place.Start true
park_work = (refl, refl, refl)

park_mind_7 : Leads usual place.Park (told.Replied (reply.Mind 7)) (act.Call call.Park) (place.Mind 7) false
park_mind_7 = (refl, refl, refl)

park_all_asleep : Leads usual place.Park (told.Replied reply.AllAsleep) (act.Call call.Park) place.Over false
park_all_asleep = (refl, refl, refl)

rest_answer_true : Leads usual place.Rest (told.Replied (reply.Answer true)) (act.Call call.Woken) place.Start true
rest_answer_true = (refl, refl, refl)

rest_answer_false : Leads usual place.Rest (told.Replied (reply.Answer false)) (act.Call call.Woken) place.Rest false
rest_answer_false = (refl, refl, refl)

mind_tick_8_woke_1 : Leads usual (place.MindTick 8) (told.Replied (reply.Woke 1)) (act.Call (call.Tick 8)) place.Start true
mind_tick_8_woke_1 = (refl, refl, refl)

mind_tick_8_woke_0 : Leads usual (place.MindTick 8) (told.Replied (reply.Woke 0)) (act.Call (call.Tick 8)) place.Start true
mind_tick_8_woke_0 = (refl, refl, refl)

-- What a body asks

go_1_ticket : Leads usual (place.Do (ask.Go (goroutine 1))) (told.Replied (reply.Ticket ready)) (act.Call (call.Go (goroutine 1))) place.Store false
go_1_ticket = (refl, refl, refl)

spawn_ticket : Leads usual (place.Do ask.Spawn) (told.Replied (reply.Ticket ready)) (act.Call call.Spawn) place.Store false
spawn_ticket = (refl, refl, refl)

spawn_fault_no_such_body : Leads usual (place.Do ask.Spawn) (told.Replied (reply.Fault fault.NoSuchBody)) (act.Call call.Spawn) place.Run false
spawn_fault_no_such_body = (refl, refl, refl)

recv_none_got_5_true_none : Leads usual (place.Do (ask.Recv None)) (told.Replied (reply.Got 5 true None)) (act.Call (call.Recv None)) place.Run false
recv_none_got_5_true_none = (refl, refl, refl)

recv_none_got_5_true_relay : Leads usual (place.Do (ask.Recv None)) (told.Replied (reply.Got 5 true (Some relay))) (act.Call (call.Recv None)) place.Store false
recv_none_got_5_true_relay = (refl, refl, refl)

send_none_sent_none : Leads usual (place.Do (ask.Send None 5)) (told.Replied (reply.Sent None)) (act.Call (call.Send None 5)) place.Run false
send_none_sent_none = (refl, refl, refl)

send_none_sent : Leads usual (place.Do (ask.Send None 5)) (told.Replied (reply.Sent (Some ready))) (act.Call (call.Send None 5)) place.Store false
send_none_sent = (refl, refl, refl)

send_none_fault_send_on_closed : Leads usual (place.Do (ask.Send None 5)) (told.Replied (reply.Fault fault.SendOnClosed)) (act.Call (call.Send None 5)) place.Run false
send_none_fault_send_on_closed = (refl, refl, refl)

len_none_number_0 : Leads usual (place.Do (ask.Len None)) (told.Replied (reply.Number 0)) (act.Call (call.Len None)) place.Run false
len_none_number_0 = (refl, refl, refl)

procs_2_number_1 : Leads usual (place.Do (ask.Procs 2)) (told.Replied (reply.Number 1)) (act.Call (call.Procs 2)) place.Poke false
procs_2_number_1 = (refl, refl, refl)

procs_1_number_2 : Leads usual (place.Do (ask.Procs 1)) (told.Replied (reply.Number 2)) (act.Call (call.Procs 1)) place.Run false
procs_1_number_2 = (refl, refl, refl)

procs_9_fault_bad_procs : Leads usual (place.Do (ask.Procs 9)) (told.Replied (reply.Fault fault.BadProcs)) (act.Call (call.Procs 9)) place.Run false
procs_9_fault_bad_procs = (refl, refl, refl)

make_1_channel_0 : Leads usual (place.Do (ask.Make 1)) (told.Replied (reply.Channel (channel 0))) (act.Call (call.Make 1)) place.Run false
make_1_channel_0 = (refl, refl, refl)

close_none_closed_0 : Leads usual (place.Do (ask.Close None)) (told.Replied (reply.Closed 0)) (act.Call (call.Close None)) place.Run false
close_none_closed_0 = (refl, refl, refl)

close_none_closed_2 : Leads usual (place.Do (ask.Close None)) (told.Replied (reply.Closed 2)) (act.Call (call.Close None)) place.Poke false
close_none_closed_2 = (refl, refl, refl)

park_waits : Leads usual (place.Do ask.Park) (told.Replied reply.Waits) (act.Call call.Gopark) place.Look false
park_waits = (refl, refl, refl)

yield_shelved : Leads usual (place.Do ask.Yield) (told.Replied (reply.Shelved ready)) (act.Call call.Yield) place.Look false
yield_shelved = (refl, refl, refl)

exit_dead : Leads usual (place.Do ask.Exit) (told.Replied reply.Dead) (act.Call call.Exit) place.Look false
exit_dead = (refl, refl, refl)

exit_main_ended : Leads usual (place.Do ask.Exit) (told.Replied reply.MainEnded) (act.Call call.Exit) place.Over false
exit_main_ended = (refl, refl, refl)

block_entered_1_none : Leads usual (place.Do ask.Block) (told.Replied (reply.Entered (processor 1) None)) (act.Call call.Enter) place.Block false
block_entered_1_none = (refl, refl, refl)

-- A select

select_true_default : Leads usual (place.Do (ask.Select [] true None)) (told.Replied reply.Default) (act.Call (call.Select [] true None)) place.Run false
select_true_default = (refl, refl, refl)

select_true_waits : Leads usual (place.Do (ask.Select [] true None)) (told.Replied reply.Waits) (act.Call (call.Select [] true None)) place.Look false
select_true_waits = (refl, refl, refl)

select_true_chose_0_failed : Leads usual (place.Do (ask.Select [] true None)) (told.Replied (reply.Chose 0 taken.Failed)) (act.Call (call.Select [] true None)) place.Run false
select_true_chose_0_failed = (refl, refl, refl)

select_true_chose_0_sent_none : Leads usual (place.Do (ask.Select [] true None)) (told.Replied (reply.Chose 0 (taken.Sent None))) (act.Call (call.Select [] true None)) place.Run false
select_true_chose_0_sent_none = (refl, refl, refl)

select_true_chose_0_sent : Leads usual (place.Do (ask.Select [] true None)) (told.Replied (reply.Chose 0 (taken.Sent (Some ready)))) (act.Call (call.Select [] true None)) place.Store false
select_true_chose_0_sent = (refl, refl, refl)

select_true_chose_0_got_5_true_relay : Leads usual (place.Do (ask.Select [] true None)) (told.Replied (reply.Chose 0 (taken.Got 5 true (Some relay)))) (act.Call (call.Select [] true None)) place.Store false
select_true_chose_0_got_5_true_relay = (refl, refl, refl)

-- Steals

hunt_empty : Leads usual (place.Hunt (Some (record { word = 3; number = 2 }))) (told.Tried tried.Empty) (act.Steal (processor 2)) place.Unspin false
hunt_empty = (refl, refl, refl)

hunt_got_2 : Leads usual (place.Hunt (Some (record { word = 3; number = 2 }))) (told.Tried (tried.Got 2)) (act.Steal (processor 2)) place.Unspin false
hunt_got_2 = (refl, refl, refl)

hunt_got_3 : Leads usual (place.Hunt (Some (record { word = 3; number = 2 }))) (told.Tried (tried.Got 3)) (act.Steal (processor 2)) (place.More (processor 2) 1) false
hunt_got_3 = (refl, refl, refl)

hunt_unsure : Leads usual (place.Hunt (Some (record { word = 3; number = 2 }))) (told.Tried tried.Unsure) (act.Steal (processor 2)) (place.Hunt (Some (record { word = 3; number = 2 }))) false
hunt_unsure = (refl, refl, refl)

hunt_empty_2 : Leads usual (place.Hunt (Some (record { word = 4; number = 1 }))) (told.Tried tried.Empty) (act.Steal (processor 2)) (place.Hunt (Some (record { word = 4; number = 2 }))) false
hunt_empty_2 = (refl, refl, refl)

more_0_2_got_4 : Leads usual (place.More (processor 0) 2) (told.Tried (tried.Got 4)) (act.Steal (processor 0)) (place.StoreMore (processor 0) 1) false
more_0_2_got_4 = (refl, refl, refl)

more_0_2_empty : Leads usual (place.More (processor 0) 2) (told.Tried tried.Empty) (act.Steal (processor 0)) place.Unspin false
more_0_2_empty = (refl, refl, refl)

more_0_2_unsure : Leads usual (place.More (processor 0) 2) (told.Tried tried.Unsure) (act.Steal (processor 0)) place.Unspin false
more_0_2_unsure = (refl, refl, refl)

scan_1_got_1 : Leads usual (place.Scan (processor 1)) (told.Tried (tried.Got 1)) (act.Steal (processor 1)) place.Have false
scan_1_got_1 = (refl, refl, refl)

scan_1_empty : Leads usual (place.Scan (processor 1)) (told.Tried tried.Empty) (act.Steal (processor 1)) (place.Scan (processor 2)) false
scan_1_empty = (refl, refl, refl)

scan_2_empty : Leads usual (place.Scan (processor 2)) (told.Tried tried.Empty) (act.Steal (processor 2)) place.Park false
scan_2_empty = (refl, refl, refl)

scan_1_unsure : Leads usual (place.Scan (processor 1)) (told.Tried tried.Unsure) (act.Steal (processor 1)) (place.Scan (processor 1)) false
scan_1_unsure = (refl, refl, refl)

-- Other outcomes

look_got : Leads usual place.Look told.Got act.Pop place.Claim false
look_got = (refl, refl, refl)

look_empty : Leads usual place.Look told.Empty act.Pop place.Global false
look_empty = (refl, refl, refl)

claim_refused_busy : Leads usual place.Claim (told.Refused refusal.Busy) (act.Call (call.Claim (ticket 1 2))) place.Claim false
claim_refused_busy = (refl, refl, refl)

hunt_none_drew_3_got_5 : Leads usual (place.Hunt None) (told.Drew 3 (tried.Got 5)) act.Hunt (place.More (processor 0) 2) false
hunt_none_drew_3_got_5 = (refl, refl, refl)

hunt_none_drew_3_empty : Leads usual (place.Hunt None) (told.Drew 3 tried.Empty) act.Hunt (place.Hunt (Some (record { word = 3; number = 2 }))) false
hunt_none_drew_3_empty = (refl, refl, refl)

hunt_none_drew_4_unsure : Leads usual (place.Hunt None) (told.Drew 4 tried.Unsure) act.Hunt (place.Hunt (Some (record { word = 4; number = 1 }))) false
hunt_none_drew_4_unsure = (refl, refl, refl)

store_more_0_1_pushed : Leads usual (place.StoreMore (processor 0) 1) told.Pushed act.Push (place.More (processor 0) 1) false
store_more_0_1_pushed = (refl, refl, refl)

store_more_0_0_pushed : Leads usual (place.StoreMore (processor 0) 0) told.Pushed act.Push place.Unspin false
store_more_0_0_pushed = (refl, refl, refl)

store_more_0_1_push_refused : Leads usual (place.StoreMore (processor 0) 1) told.PushRefused act.Push (place.PutMore (processor 0) 1) false
store_more_0_1_push_refused = (refl, refl, refl)

run_asked_yield : Leads usual place.Run (told.Asked ask.Yield) act.Resume (place.Do ask.Yield) false
run_asked_yield = (refl, refl, refl)

make_1_refused_out_of_memory : Leads usual (place.Do (ask.Make 1)) (told.Refused refusal.OutOfMemory) (act.Call (call.Make 1)) place.Run false
make_1_refused_out_of_memory = (refl, refl, refl)

go_1_refused_out_of_memory : Leads usual (place.Do (ask.Go (goroutine 1))) (told.Refused refusal.OutOfMemory) (act.Call (call.Go (goroutine 1))) (place.Do (ask.Go (goroutine 1))) false
go_1_refused_out_of_memory = (refl, refl, refl)

block_number_9 : Leads usual place.Block (told.Number 9) act.Block (place.Leave 9) false
block_number_9 = (refl, refl, refl)

store_pushed : Leads usual place.Store told.Pushed act.Push place.Poke false
store_pushed = (refl, refl, refl)

store_push_refused : Leads usual place.Store told.PushRefused act.Push place.PutStore false
store_push_refused = (refl, refl, refl)

rest_refused_over : Leads usual place.Rest (told.Refused refusal.Over) (act.Call call.Woken) place.Over false
rest_refused_over = (refl, refl, refl)

mind_7_moment_8 : Leads usual (place.Mind 7) (told.Moment 8) (act.Clock (Some 7)) (place.MindTick 8) false
mind_7_moment_8 = (refl, refl, refl)

over_surrendered : Leads usual place.Over told.Surrendered (act.Surrender None) place.Over false
over_surrendered = (refl, refl, refl)

over_nothing : Leads usual place.Over told.Nothing (act.Surrender None) place.Done false
over_nothing = (refl, refl, refl)

done_nothing : Leads usual place.Done told.Nothing act.Nothing place.Done false
done_nothing = (refl, refl, refl)

-- Flags choose the row

late_look_moment_5 : Leads late place.Look (told.Moment 5) (act.Clock None) (place.Ticking 5) false
late_look_moment_5 = (refl, refl, refl)

fresh_ticking_5_woke_0 : Leads fresh (place.Ticking 5) (told.Replied (reply.Woke 0)) (act.Call (call.Tick 5)) place.Keep true
fresh_ticking_5_woke_0 = (refl, refl, refl)

fresh_claim_wakes_0 : Leads fresh place.Claim (told.Replied (reply.Wakes (machine 0))) (act.Call call.Poke) place.Claim false
fresh_claim_wakes_0 = (refl, refl, refl)

fresh_claim_nothing : Leads fresh place.Claim (told.Replied reply.Nothing) (act.Call call.Poke) place.Claim false
fresh_claim_nothing = (refl, refl, refl)

alone_ticking_5_woke_0 : Leads alone (place.Ticking 5) (told.Replied (reply.Woke 0)) (act.Call (call.Tick 5)) place.Look false
alone_ticking_5_woke_0 = (refl, refl, refl)

alone_global_nothing : Leads alone place.Global (told.Replied reply.Nothing) (act.Call call.Take) place.Drop false
alone_global_nothing = (refl, refl, refl)

idle_unspin_done : Leads idle place.Unspin (told.Replied reply.Done) (act.Call call.Unspin) place.Drop false
idle_unspin_done = (refl, refl, refl)

-- From every place

refused_as_over : (x : Seen) (here : Place) → next_place x here (told.Refused refusal.Over) ≡ place.Over
refused_as_over x here = refl

-- Claims are counted to sixteen, and from 0 again after a tick

abbrev turns_after : ℕ → Place → Told → ℕ
turns_after turns here what = next_turns (record usual { turns = turns }) here what

first_claim : turns_after 0 place.Claim (told.Replied reply.Held) ≡ 1
first_claim = refl

sixteenth_claim : turns_after 15 place.Claim (told.Replied reply.Held) ≡ 16
sixteenth_claim = refl

one_claim_more : turns_after 16 place.Claim (told.Replied reply.Held) ≡ 16
one_claim_more = refl

poke_is_no_claim : turns_after 5 place.Claim (told.Replied reply.Nothing) ≡ 5
poke_is_no_claim = refl

tick_begins_anew : turns_after 16 (place.Ticking 5) (told.Replied (reply.Woke 0)) ≡ 0
tick_begins_anew = refl

minded_tick_begins_anew : turns_after 7 (place.MindTick 8) (told.Replied (reply.Woke 1)) ≡ 0
minded_tick_begins_anew = refl

park_counts_nothing : turns_after 7 place.Park (told.Replied reply.Work) ≡ 7
park_counts_nothing = refl

-- Half of a queue is stolen, at most 16 and at least one

goals : (steal_goal 0 ≡ 1) × (steal_goal 2 ≡ 1) × (steal_goal 3 ≡ 2) × (steal_goal 30 ≡ 15) × (steal_goal 31 ≡ 16) × (steal_goal 4294967295 ≡ 16)
goals = (refl, refl, refl, refl, refl, refl)

-- All is given back in order

abbrev full : Registers ℕ ℕ
full = record {
  processor = Some (record { p = processor 1; owner = 80 });
  held = Some (record { g = goroutine 0; woke = woke.Done; body = 70 });
  called = Some (record { g = goroutine 2; body = 72 });
  to_claim = Some ready;
  to_store = Some (ticket 3 4);
}

body_first : first_value full ≡ Some value.Held
body_first = refl

then_called : first_value (record full { held = None }) ≡ Some value.Called
then_called = refl

then_to_claim : first_value (record full { held = None; called = None }) ≡ Some value.ToClaim
then_to_claim = refl

then_to_store : first_value (record full { held = None; called = None; to_claim = None }) ≡ Some value.ToStore
then_to_store = refl

then_processor : first_value (record full { held = None; called = None; to_claim = None; to_store = None }) ≡ Some value.Proc
then_processor = refl

then_none : first_value (record full { processor = None; held = None; called = None; to_claim = None; to_store = None }) ≡ None
then_none = refl
