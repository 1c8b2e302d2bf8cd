-- Replies that no step gives.
use Rattle.std.proofs.Common.{◌≡◌, ◌≤◌, ◌<◌, nat_lt, length, arith, ℕ, zero, suc, refl, ap, subst, Bool, true, false, Option, None, Some, List, [], ◌∷◌}
use Rattle.std.specs.List.{slice_get}
use Rattle.std.specs.Option.{option_map}
use Rattle.gmp_base.specs.declared.ask.Fault.TheVariants as fault
use Rattle.gmp_base.specs.declared.ask.Woke.TheVariants as woke
use Rattle.gmp_base.specs.declared.cases.Case.TheVariants as case
use Rattle.gmp_base.specs.declared.number.MNo.{MNo}
use Rattle.gmp_base.specs.declared.number.Readiness.{Readiness}
use Rattle.gmp_test_rows.proofs.Traces.{goroutine, machine, processor, channel, ticket, entry, does, limits}
use Rattle.gmp_test_rows.proofs.Rows.{yielding_after_1, buffering_after_2, buffering_after_3}
use Rattle.gmp_test_rows.proofs.MachineRows.{changing_after_1, handing_off_after_1, handing_off_after_2, handing_off_after_3, handing_off_after_4}
use Rattle.gmp_seq.specs.declared.call.Call.TheVariants as call
use Rattle.gmp_seq.specs.declared.call.Reply.{Reply}
use Rattle.gmp_seq.specs.declared.call.Reply.TheVariants as reply
use Rattle.gmp_seq.specs.declared.call.Taken.TheVariants as taken
use Rattle.gmp_seq.specs.declared.status.Goroutine.{Goroutine}
use Rattle.gmp_seq.specs.declared.status.Kind.TheVariants as kind
use Rattle.gmp_seq.specs.declared.status.Mode.{Mode}
use Rattle.gmp_seq.specs.declared.status.Mode.TheVariants as mode
use Rattle.gmp_seq.specs.declared.status.TicketPlace.TheVariants.{Shelf, Out}
use Rattle.gmp_seq.specs.declared.status.Status.TheVariants as status
use Rattle.gmp_seq.specs.declared.status.Transfer.TheVariants.{Failed, Handed, Stored, First, Relayed, Drained}
use Rattle.gmp_test_rows.proofs.MachineRows.{looking_again_after_1}
use Rattle.gmp_seq.specs.Run.{IsStep}
use Rattle.gmp_seq.specs.State.{State, opening}
use Rattle.gmp_seq.specs.Waits.{Channel, new_channel}

-- a state with these goroutines, channels, processors and machines, in which nothing was counted yet
abbrev state : List Goroutine → List Channel → List (Option MNo) → List Mode → List Bool → List ℕ → State
state goroutines channels holders modes spinning counts =
    record {
      table = record { goroutines = goroutines; arrivals = 1; clock = 0 };
      channels = channels;
      machines = record { holders = holders; modes = modes; spinning = spinning; marked = []; active = length holders };
      counts = counts;
      outcome = None;
    }

-- a take answers none only where the shelf is empty
pub none_taken : (s : State) → IsStep (limits 1 1 16 10000) (entry 0 0 call.Take reply.Nothing) (opening (limits 1 1 16 10000) 1 []) s → ⊥
none_taken s (k, (ongoing, (awake, ((none, same), channels, machines)), counts, ended)) = let no_ : true ≡ false = none in cc

-- the default isn't taken where a case can proceed
pub default_taken : (s : State)
    → IsStep (limits 1 1 16 10000) (entry 0 0 (call.Select (case.Send (Some (channel 0)) 4 ∷ []) true None) reply.Default)
    (state (does (status.Running (machine 0)) 1 ∷ []) (new_channel 1 ∷ []) (Some (machine 0) ∷ []) (mode.Awake ∷ []) (false ∷ []) (0 ∷ [])) s → ⊥
default_taken s (k, (ongoing, (few, (g, running, (made, has, none, same))), counts, ended)) = let no_ : true ≡ false = none in cc

-- all aren't asleep while a deadline stands
pub asleep_with_deadline : (s : State)
    → IsStep (limits 1 1 16 10000) (entry 0 0 call.Park reply.AllAsleep)
    (state (does (status.Waiting (record { arrival = 0; kind = kind.Sleep; offers = []; until = Some 50 })) 1 ∷ []) [] (None ∷ []) (mode.Awake ∷ []) (false ∷ []) (0 ∷ [])) s → ⊥
asleep_with_deadline s (k, (ongoing, (bare, (idle, asleep, same)), counts, ended)) = let no_ : true ≡ false = asleep in cc

-- nor while a blocking call is pending
pub asleep_with_call : (s : State)
    → IsStep (limits 1 2 16 10000) (entry 0 0 call.Park reply.AllAsleep)
    (state (does (status.Calling (machine 1)) 1 ∷ []) [] (None ∷ []) (mode.Awake ∷ mode.Calling ∷ []) (false ∷ false ∷ []) (0 ∷ 1 ∷ [])) s → ⊥
asleep_with_call s (k, (ongoing, (bare, (idle, asleep, same)), counts, ended)) = let no_ : true ≡ false = asleep in cc

-- nobody is woken by a poke while one spins
pub poked_while_spinning : (s : State)
    → IsStep (limits 2 3 16 10000) (entry 0 0 call.Poke (reply.Wakes (machine 2)))
    (state (does (status.Ready Shelf woke.First) 1 ∷ []) [] (None ∷ None ∷ []) (mode.Awake ∷ mode.Awake ∷ mode.Parked ∷ []) (false ∷ true ∷ false ∷ []) (0 ∷ 1 ∷ 1 ∷ [])) s → ⊥
poked_while_spinning s (k, (ongoing, ((awake, wants, parked, is), table, channels), counts, ended)) = let no_ : false ≡ true = wants in cc

-- no more spin than there are processors, however many machines there are
pub spinning_with_machines : (s : State)
    → IsStep (limits 1 2 16 10000) (entry 1 0 call.Spin (reply.Answer true))
    (state (does (status.Ready Shelf woke.First) 1 ∷ []) [] (None ∷ []) (mode.Awake ∷ mode.Awake ∷ []) (true ∷ false ∷ []) (1 ∷ 0 ∷ [])) s → ⊥
spinning_with_machines s (k, (ongoing, (nothing, ((awake, may, is), table, channels)), counts, ended)) = let no_ : false ≡ true = may in cc

-- Tickets

-- a ticket that wasn't given out isn't put
pub put_of_shelved : (answer : Reply) (s : State) → IsStep (limits 1 1 16 10000) (entry 0 0 (call.Put (ticket 0 1)) answer) (opening (limits 1 1 16 10000) 1 []) s → ⊥
put_of_shelved reply.Shelf s (k, (ongoing, (awake, ((told, ready, is), channels, machines)), counts, ended)) =
    let place : Some (status.Ready Shelf woke.First) ≡ Some (status.Ready Out told) = ap (option_map (λ (x : Goroutine). x.status)) ready in cc
put_of_shelved _ s (k, (ongoing, (awake, (h, channels, machines)), counts, ended)) = absurd h

-- nor is a ticket of an epoch that never was taken
pub taken_too_late : (s : State) → IsStep (limits 1 1 16 10000) (entry 0 4 call.Take (reply.Ticket (ticket 0 3))) yielding_after_1 s → ⊥
taken_too_late s (k, (ongoing, (awake, ((told, ready, is), channels, machines)), counts, ended)) =
    let some : ℕ → Option ℕ = λ n. Some n in
    let epoch : some 2 ≡ some 3 = ap (option_map (λ (x : Goroutine). x.epoch)) ready in cc

-- nobody claims without a processor
pub claimed_without_processor : (answer : Reply) (s : State)
    → IsStep (limits 1 1 16 10000) (entry 0 0 (call.Claim (ticket 0 1)) answer)
    (state (does (status.Ready Out woke.First) 1 ∷ []) [] (None ∷ []) (mode.Awake ∷ []) (false ∷ []) (0 ∷ [])) s → ⊥
claimed_without_processor answer s (k, (ongoing, (free, holds, rest), counts, ended)) = let no_ : false ≡ true = holds in cc

-- nor what another machine runs
pub claimed_twice : (answer : Reply) (s : State)
    → IsStep (limits 2 2 16 10000) (entry 1 0 (call.Claim (ticket 0 1)) answer)
    (state (does (status.Running (machine 0)) 1 ∷ []) [] (Some (machine 0) ∷ Some (machine 1) ∷ []) (mode.Awake ∷ mode.Awake ∷ []) (false ∷ false ∷ []) (3 ∷ 0 ∷ [])) s → ⊥
claimed_twice reply.Held s (k, (ongoing, (free, holds, ((told, ready, is), channels, machines)), counts, ended)) =
    let place : Some (status.Running (machine 0)) ≡ Some (status.Ready Out told) = ap (option_map (λ (x : Goroutine). x.status)) ready in cc
claimed_twice _ s (k, (ongoing, (free, holds, (h, channels, machines)), counts, ended)) = absurd h

-- the exit of main isn't that of another
pub main_is_dead_only : (s : State)
    → IsStep (limits 1 1 16 10000) (entry 0 0 call.Exit reply.Dead)
    (state (does (status.Running (machine 0)) 1 ∷ []) [] (Some (machine 0) ∷ []) (mode.Awake ∷ []) (false ∷ []) (0 ∷ [])) s → ⊥
main_is_dead_only s (k, (ongoing, (g, running, ((other, is), channels, machines)), counts, ended)) = other (only_one g.0 running) where
  only_one : (n : ℕ) → option_map (λ (x : Goroutine). x.status) (slice_get (does (status.Running (machine 0)) 1 ∷ []) n) ≡ Some (status.Running (machine 0)) → n ≡ 0
  only_one zero e = refl
  only_one (suc n) e = absurd cc

-- Channels

-- a send doesn't wait where there is room
pub waits_with_room : (s : State)
    → IsStep (limits 1 1 16 10000) (entry 0 0 (call.Send (Some (channel 0)) 4) reply.Waits)
    (state (does (status.Running (machine 0)) 1 ∷ []) (new_channel 1 ∷ []) (Some (machine 0) ∷ []) (mode.Awake ∷ []) (false ∷ []) (0 ∷ [])) s → ⊥
waits_with_room s (k, (ongoing, (g, running, (made, blocks)), counts, ended)) = let no_ : true ≡ false = blocks.0 in cc

-- a receive doesn't wait where the channel is closed
pub waits_on_closed : (s : State)
    → IsStep (limits 1 1 16 10000) (entry 0 0 (call.Recv (Some (channel 0))) reply.Waits)
    (state (does (status.Running (machine 0)) 1 ∷ []) (record { capacity = 1; items = []; closed = true } ∷ []) (Some (machine 0) ∷ []) (mode.Awake ∷ []) (false ∷ []) (0 ∷ [])) s → ⊥
waits_on_closed s (k, (ongoing, (g, running, (made, blocks)), counts, ended)) = let no_ : true ≡ false = blocks.0 in cc

-- what was sent before a close is received first
pub drained_too_early : (s : State)
    → IsStep (limits 1 1 16 10000) (entry 0 0 (call.Recv (Some (channel 0))) (reply.Got 0 false None))
    (state (does (status.Running (machine 0)) 1 ∷ []) (record { capacity = 1; items = 5 ∷ []; closed = true } ∷ []) (Some (machine 0) ∷ []) (mode.Awake ∷ []) (false ∷ []) (0 ∷ [])) s → ⊥
drained_too_early s (k, (ongoing, (g, running, (made, (Drained, goes, told, is, machines))), counts, ended)) = let none : List ℕ = [] in let no_ : 5 ∷ none ≡ none = goes.0 in cc
drained_too_early s (k, (ongoing, (g, running, (made, (First v, goes, told, is, machines))), counts, ended)) = cc
drained_too_early s (k, (ongoing, (g, running, (made, (Relayed v w, goes, told, is, machines))), counts, ended)) = cc
drained_too_early s (k, (ongoing, (g, running, (made, (Failed, goes, told, is, machines))), counts, ended)) = absurd goes
drained_too_early s (k, (ongoing, (g, running, (made, (Handed w, goes, told, is, machines))), counts, ended)) = absurd goes
drained_too_early s (k, (ongoing, (g, running, (made, (Stored, goes, told, is, machines))), counts, ended)) = absurd goes

-- a receive serves the sender that waits
pub sender_forgotten : (s : State) → IsStep (limits 1 1 16 10000) (entry 0 12 (call.Recv (Some (channel 0))) (reply.Got 1 true None)) buffering_after_2 s → ⊥
sender_forgotten s (k, (ongoing, (g, running, (made, (First v, (rest, items, nobody, is), told, table, machines))), counts, ended)) = cc
sender_forgotten s (k, (ongoing, (g, running, (made, (Relayed v w, goes, told, is, machines))), counts, ended)) = cc
sender_forgotten s (k, (ongoing, (g, running, (made, (Drained, goes, told, is, machines))), counts, ended)) = cc
sender_forgotten s (k, (ongoing, (g, running, (made, (Failed, goes, told, is, machines))), counts, ended)) = absurd goes
sender_forgotten s (k, (ongoing, (g, running, (made, (Handed w, goes, told, is, machines))), counts, ended)) = absurd goes
sender_forgotten s (k, (ongoing, (g, running, (made, (Stored, goes, told, is, machines))), counts, ended)) = absurd goes

-- values come in the order in which they were sent
pub out_of_turn : (s : State) → IsStep (limits 1 1 16 10000) (entry 0 14 (call.Recv (Some (channel 0))) (reply.Got 3 true None)) buffering_after_3 s → ⊥
out_of_turn s (k, (ongoing, (g, running, (made, (First v, (rest, items, nobody, is), told, table, machines))), counts, ended)) = cc
out_of_turn s (k, (ongoing, (g, running, (made, (Relayed v w, goes, told, is, machines))), counts, ended)) = cc
out_of_turn s (k, (ongoing, (g, running, (made, (Drained, goes, told, is, machines))), counts, ended)) = cc
out_of_turn s (k, (ongoing, (g, running, (made, (Failed, goes, told, is, machines))), counts, ended)) = absurd goes
out_of_turn s (k, (ongoing, (g, running, (made, (Handed w, goes, told, is, machines))), counts, ended)) = absurd goes
out_of_turn s (k, (ongoing, (g, running, (made, (Stored, goes, told, is, machines))), counts, ended)) = absurd goes

-- a select that names a channel that was not made doesn't proceed by another case
pub chose_beside_missing : (s : State)
    → IsStep (limits 1 1 16 10000) (entry 0 0 (call.Select (case.Send (Some (channel 0)) 1 ∷ case.Recv (Some (channel 5)) ∷ []) false None) (reply.Chose 0 (taken.Sent None)))
    (state (does (status.Running (machine 0)) 1 ∷ []) (new_channel 1 ∷ []) (Some (machine 0) ∷ []) (mode.Awake ∷ []) (false ∷ []) (0 ∷ [])) s → ⊥
chose_beside_missing s (k, (ongoing, (few, (g, running, h)), counts, ended)) = let no_ : false ≡ true = h.0 in cc

-- Machines

-- a machine doesn't park while somebody is on the shelf and a processor is idle
pub parked_with_work : (s : State) → IsStep (limits 1 1 16 10000) (entry 0 0 call.Park reply.Parked) (opening (limits 1 1 16 10000) 1 []) s → ⊥
parked_with_work s (k, (ongoing, (bare, h), counts, ended)) = let no_ : true ≡ false = h.0 in cc

-- a machine that is marked does not park
pub parked_though_marked : (s : State) → IsStep (limits 1 2 16 10000) (entry 1 2 call.Park reply.Parked) looking_again_after_1 s → ⊥
parked_though_marked s (k, (ongoing, (bare, (work, astir, minds, unmarked, is, same, machines)), counts, ended)) = let no_ : true ≡ false = unmarked in cc

-- nor minds a deadline while another runs
pub minded_while_running : (s : State)
    → IsStep (limits 1 2 16 10000) (entry 1 0 call.Park (reply.Mind 50))
    (state (does (status.Running (machine 0)) 1 ∷ does (status.Waiting (record { arrival = 0; kind = kind.Sleep; offers = []; until = Some 50 })) 1 ∷ []) [] (Some (machine 0) ∷ []) (mode.Awake ∷ mode.Awake ∷ []) (false ∷ false ∷ []) (3 ∷ 0 ∷ [])) s → ⊥
minded_while_running s (k, (ongoing, (bare, (work, astir, minds, same)), counts, ended)) = let none : Option ℕ = None in let no_ : none ≡ Some 50 = minds in cc

-- no machine begins to spin twice
pub spinning_twice : (s : State)
    → IsStep (limits 2 2 16 10000) (entry 0 1 call.Spin (reply.Answer true))
    (state (does (status.Ready Shelf woke.First) 1 ∷ []) [] (None ∷ None ∷ []) (mode.Awake ∷ mode.Awake ∷ []) (true ∷ false ∷ []) (1 ∷ 0 ∷ [])) s → ⊥
spinning_twice s (k, (ongoing, (nothing, ((awake, may, is), table, channels)), counts, ended)) = let no_ : false ≡ true = may in cc

-- a blocking call wakes a machine where one is parked
pub entered_alone : (s : State) → IsStep (limits 1 2 16 10000) (entry 0 5 call.Enter (reply.Entered (processor 0) None)) handing_off_after_1 s → ⊥
entered_alone s (k, (ongoing, (g, running, (is, (holds, none, machines), channels)), counts, ended)) = let no_ : true ≡ false = none in cc

-- none is acquired only where none is idle
pub none_acquired : (s : State) → IsStep (limits 1 2 16 10000) (entry 1 4 call.Acquire reply.Nothing) handing_off_after_2 s → ⊥
none_acquired s (k, (ongoing, ((awake, bare, none, is), table, channels), counts, ended)) = let no_ : true ≡ false = none in cc

-- who comes back doesn't get a processor that another holds
pub ran_on_without_processor : (s : State) → IsStep (limits 1 2 16 10000) (entry 0 6 (call.Leave 9) (reply.Runs (processor 0))) handing_off_after_3 s → ⊥
ran_on_without_processor s (k, (ongoing, (g, calling, (runs, ((idle, active), is), channels)), counts, ended)) = let no_ : Some (Some (machine 1)) ≡ Some None = idle in cc

-- nobody pokes a machine that is awake
pub poked_awake : (s : State) → IsStep (limits 1 2 16 10000) (entry 1 5 call.Poke (reply.Wakes (machine 0))) handing_off_after_4 s → ⊥
poked_awake s (k, (ongoing, ((awake, wants, parked, is), table, channels), counts, ended)) = let no_ : Some mode.Awake ≡ Some mode.Parked = parked in cc

-- a capacity that is too large is told before there are too many channels
pub too_many_before_too_large : (s : State)
    → IsStep (limits 1 1 0 10000) (entry 0 0 (call.Make 4097) (reply.Fault fault.TooManyChannels))
    (state (does (status.Running (machine 0)) 1 ∷ []) [] (Some (machine 0) ∷ []) (mode.Awake ∷ []) (false ∷ []) (0 ∷ [])) s → ⊥
too_many_before_too_large s (k, (ongoing, (g, running, ((fits, many, is), table, machines)), counts, ended)) = let fits_too : 4097 ≤ 4096 = fits in omega arith

-- a send doesn't wait where the channel is closed
pub sends_on_closed : (s : State)
    → IsStep (limits 1 1 16 10000) (entry 0 0 (call.Send (Some (channel 0)) 4) reply.Waits)
    (state (does (status.Running (machine 0)) 1 ∷ []) (record { capacity = 0; items = []; closed = true } ∷ []) (Some (machine 0) ∷ []) (mode.Awake ∷ []) (false ∷ []) (0 ∷ [])) s → ⊥
sends_on_closed s (k, (ongoing, (g, running, (made, blocks)), counts, ended)) = let no_ : true ≡ false = blocks.0 in cc

-- a machine that runs one goroutine doesn't claim another
pub claimed_while_running : (answer : Reply) (s : State)
    → IsStep (limits 1 1 16 10000) (entry 0 0 (call.Claim (ticket 1 1)) answer)
    (state (does (status.Running (machine 0)) 1 ∷ does (status.Ready Out woke.First) 1 ∷ []) [] (Some (machine 0) ∷ []) (mode.Awake ∷ []) (false ∷ []) (0 ∷ [])) s → ⊥
claimed_while_running answer s (k, (ongoing, (free, holds, rest), counts, ended)) = let no_ : true ≡ false = free.1 in cc

-- the exit of another doesn't end the run
pub ended_by_another : (s : State)
    → IsStep (limits 1 1 16 10000) (entry 0 0 call.Exit reply.MainEnded)
    (state (does (status.Ready Out woke.First) 1 ∷ does (status.Running (machine 0)) 1 ∷ []) [] (Some (machine 0) ∷ []) (mode.Awake ∷ []) (false ∷ []) (0 ∷ [])) s → ⊥
ended_by_another s (k, (ongoing, (g, running, ((number, is), channels, machines)), counts, ended)) =
    let first : Some (status.Ready Out woke.First) ≡ Some (status.Running (machine 0)) =
    subst (λ (n : ℕ). option_map (λ (x : Goroutine). x.status) (slice_get (does (status.Ready Out woke.First) 1 ∷ does (status.Running (machine 0)) 1 ∷ []) n) ≡ Some (status.Running (machine 0))) number running in
    cc

-- who comes back from a blocking call isn't shelved where a processor is idle
pub shelved_beside_idle : (s : State)
    → IsStep (limits 1 1 16 10000) (entry 0 0 (call.Leave 9) (reply.Shelved (ticket 0 2)))
    (state (does (status.Calling (machine 0)) 1 ∷ []) [] (None ∷ []) (mode.Calling ∷ []) (false ∷ []) (0 ∷ [])) s → ⊥
shelved_beside_idle s (k, (ongoing, (g, calling, (next, (none, is), channels)), counts, ended)) = let no_ : true ≡ false = none in cc

-- a machine that holds a processor acquires no second
pub acquired_twice : (s : State)
    → IsStep (limits 2 2 16 10000) (entry 0 0 call.Acquire (reply.Proc (processor 1)))
    (state (does (status.Ready Shelf woke.First) 1 ∷ []) [] (Some (machine 0) ∷ None ∷ []) (mode.Awake ∷ mode.Awake ∷ []) (false ∷ false ∷ []) (0 ∷ 0 ∷ [])) s → ⊥
acquired_twice s (k, (ongoing, ((awake, bare, idle, is), table, channels), counts, ended)) = let no_ : true ≡ false = bare in cc

-- no go starts who is dead
pub started_again : (s : State)
    → IsStep (limits 1 1 16 10000) (entry 0 0 (call.Go (goroutine 1)) (reply.Ticket (ticket 1 2)))
    (state (does (status.Running (machine 0)) 1 ∷ does status.Dead 1 ∷ []) [] (Some (machine 0) ∷ []) (mode.Awake ∷ []) (false ∷ []) (0 ∷ [])) s → ⊥
started_again s (k, (ongoing, (g, running, ((dormant, next, is), channels, machines)), counts, ended)) = let no_ : Some status.Dead ≡ Some status.Dormant = dormant in cc

-- no spawn starts who runs
pub spawned_running : (s : State)
    → IsStep (limits 1 1 16 10000) (entry 0 0 call.Spawn (reply.Ticket (ticket 0 2)))
    (state (does (status.Running (machine 0)) 1 ∷ does status.Dead 1 ∷ []) [] (Some (machine 0) ∷ []) (mode.Awake ∷ []) (false ∷ []) (0 ∷ [])) s → ⊥
spawned_running s (k, (ongoing, (g, running, ((startable, next, is), channels, machines)), counts, ended)) = let no_ : Some false ≡ Some true = startable in cc

-- nor who is dead by the epoch that it had
pub spawned_by_old_epoch : (s : State)
    → IsStep (limits 1 1 16 10000) (entry 0 0 call.Spawn (reply.Ticket (ticket 1 1)))
    (state (does (status.Running (machine 0)) 1 ∷ does status.Dead 1 ∷ []) [] (Some (machine 0) ∷ []) (mode.Awake ∷ []) (false ∷ []) (0 ∷ [])) s → ⊥
spawned_by_old_epoch s (k, (ongoing, (g, running, ((startable, next, is), channels, machines)), counts, ended)) = let no_ : ◌≡◌ {A = ℕ} 1 2 = ap (λ (r : Readiness). r.epoch) next in cc

-- a spawn finds nobody only where nobody is dormant or dead
pub spawned_none : (s : State)
    → IsStep (limits 1 1 16 10000) (entry 0 0 call.Spawn (reply.Fault fault.NoSuchBody))
    (state (does (status.Running (machine 0)) 1 ∷ does status.Dead 1 ∷ []) [] (Some (machine 0) ∷ []) (mode.Awake ∷ []) (false ∷ []) (0 ∷ [])) s → ⊥
spawned_none s (k, (ongoing, (g, running, ((none, is), channels, machines)), counts, ended)) = let no_ : true ≡ false = none in cc

-- The number of active processors

-- a processor that is not active is not acquired, though it is idle
pub acquired_inactive : (s : State) → IsStep (limits 2 2 16 10000) (entry 1 3 call.Acquire (reply.Proc (processor 1))) changing_after_1 s → ⊥
acquired_inactive s (k, (ongoing, ((awake, bare, (idle, active), is), table, channels), counts, ended)) = let below : 1 < 1 = active in omega arith

-- no processor is not a number to be active
pub none_active : (s : State) → IsStep (limits 2 2 16 10000) (entry 0 5 (call.Procs 0) (reply.Number 1)) changing_after_1 s → ⊥
none_active s (k, (ongoing, (g, running, ((good, before, is), table, channels)), counts, ended)) = let no_ : false ≡ true = good in cc

-- a number that can be active is no fault
pub fault_of_good_number : (s : State) → IsStep (limits 2 2 16 10000) (entry 0 5 (call.Procs 2) (reply.Fault fault.BadProcs)) changing_after_1 s → ⊥
fault_of_good_number s (k, (ongoing, (g, running, ((bad, is), table, channels)), counts, ended)) = let no_ : true ≡ false = bad in cc

-- a state in which one of two processors is active, with these goroutines, holders and machines
abbrev one_active : List Goroutine → List (Option MNo) → List Mode → List Bool → State
one_active goroutines holders modes spinning =
    record {
      table = record { goroutines = goroutines; arrivals = 0; clock = 0 };
      channels = [];
      machines = record { holders = holders; modes = modes; spinning = spinning; marked = false ∷ false ∷ []; active = 1 };
      counts = 0 ∷ 0 ∷ [];
      outcome = None;
    }

-- two machines hold two processors, of which one is active
abbrev one_of_two : State
one_of_two =
    record {
      table = record { goroutines = does (status.Running (machine 0)) 1 ∷ []; arrivals = 0; clock = 0 };
      channels = [];
      machines = record { holders = Some (machine 0) ∷ Some (machine 1) ∷ []; modes = mode.Awake ∷ mode.Awake ∷ []; spinning = false ∷ false ∷ []; marked = false ∷ false ∷ []; active = 1 };
      counts = 4 ∷ 1 ∷ [];
      outcome = None;
    }

-- a processor that is not active is not kept
pub kept_inactive : (s : State) → IsStep (limits 2 2 16 10000) (entry 1 1 call.Keep (reply.Answer true)) one_of_two s → ⊥
kept_inactive s (k, (ongoing, ((awake, p, holds, told, is), table, channels), counts, ended)) = only p.0 holds told where
  only : (n : ℕ) → slice_get (Some (machine 0) ∷ Some (machine 1) ∷ []) n ≡ Some (Some (machine 1)) → true ≡ nat_lt n 1 → ⊥
  only zero h below = cc
  only (suc zero) h below = cc
  only (suc (suc n)) h below = cc

-- one that is active is kept
pub dropped_though_active : (s : State) → IsStep (limits 2 2 16 10000) (entry 0 4 call.Keep (reply.Answer false)) one_of_two s → ⊥
dropped_though_active s (k, (ongoing, ((awake, p, holds, told, is), table, channels), counts, ended)) = only p.0 holds told where
  only : (n : ℕ) → slice_get (Some (machine 0) ∷ Some (machine 1) ∷ []) n ≡ Some (Some (machine 0)) → false ≡ nat_lt n 1 → ⊥
  only zero h below = cc
  only (suc zero) h below = cc
  only (suc (suc n)) h below = cc

-- nobody is woken for an idle processor that is not active
pub poked_for_inactive : (s : State)
    → IsStep (limits 2 2 16 10000) (entry 0 0 call.Poke (reply.Wakes (machine 1)))
    (one_active (does (status.Running (machine 0)) 1 ∷ []) (Some (machine 0) ∷ None ∷ []) (mode.Awake ∷ mode.Parked ∷ []) (false ∷ false ∷ [])) s → ⊥
poked_for_inactive s (k, (ongoing, ((awake, wants, parked, is), table, channels), counts, ended)) = let no_ : false ≡ true = wants in cc

-- nor is there work for it
pub work_for_inactive : (s : State)
    → IsStep (limits 2 2 16 10000) (entry 1 0 call.Park reply.Work)
    (one_active (does (status.Running (machine 0)) 1 ∷ does (status.Ready Shelf woke.First) 1 ∷ []) (Some (machine 0) ∷ None ∷ []) (mode.Awake ∷ mode.Awake ∷ []) (false ∷ false ∷ [])) s → ⊥
work_for_inactive s (k, (ongoing, (bare, (work, same)), counts, ended)) = let no_ : false ≡ true = work in cc

-- who comes back does not get it
pub ran_on_by_inactive : (s : State)
    → IsStep (limits 2 2 16 10000) (entry 1 0 (call.Leave 9) (reply.Runs (processor 1)))
    (one_active (does (status.Running (machine 0)) 1 ∷ does (status.Calling (machine 1)) 1 ∷ []) (Some (machine 0) ∷ None ∷ []) (mode.Awake ∷ mode.Calling ∷ []) (false ∷ false ∷ [])) s → ⊥
ran_on_by_inactive s (k, (ongoing, (g, calling, (runs, ((idle, active), is), channels)), counts, ended)) = let below : 1 < 1 = active in omega arith

-- no more spin than processors are active
pub spinning_beside_inactive : (s : State)
    → IsStep (limits 2 2 16 10000) (entry 1 0 call.Spin (reply.Answer true))
    (one_active (does (status.Ready Shelf woke.First) 1 ∷ []) (None ∷ None ∷ []) (mode.Awake ∷ mode.Awake ∷ []) (true ∷ false ∷ [])) s → ⊥
spinning_beside_inactive s (k, (ongoing, (nothing, ((awake, may, is), table, channels)), counts, ended)) = let no_ : false ≡ true = may in cc

-- a machine that is not marked is not to look again
pub looked_again_unmarked : (s : State) → IsStep (limits 2 2 16 10000) (entry 1 0 call.Park reply.LookAgain)
    (one_active (does (status.Running (machine 0)) 1 ∷ []) (Some (machine 0) ∷ None ∷ []) (mode.Awake ∷ mode.Awake ∷ []) (false ∷ false ∷ [])) s → ⊥
looked_again_unmarked s (k, (ongoing, (bare, (work, astir, minds, marked, same)), counts, ended)) = let no_ : false ≡ true = marked in cc
