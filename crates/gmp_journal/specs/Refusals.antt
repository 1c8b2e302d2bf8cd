-- When a call is refused, and why.
use Rattle.std.specs.Prelude.{◌≡◌, ◌⊎◌, ℕ, ◌==◌, ◌<◌, ◌≤◌, Bool, false, not, ◌||◌, if◌then◌else◌, nat_lt, nat_le, List, [], ◌∷◌, ◌++◌, length, slice_get, Option, Some, None, Result, Ok, Err}
use Rattle.std.specs.Option.{option_map_or}
use Rattle.gmp_base.specs.declared.number.GNo.{GNo}
use Rattle.gmp_base.specs.declared.number.MNo.{MNo}
use Rattle.gmp_base.specs.declared.number.PNo.{PNo}
use Rattle.gmp_base.specs.declared.number.Readiness.{Readiness}
use Rattle.gmp_base.specs.declared.pass.Pass.{Pass}
use Rattle.gmp_base.specs.declared.refusal.Refusal.{Refusal}
use Rattle.gmp_base.specs.declared.refusal.Refusal.TheVariants.{Over, WrongRun, OutOfTurn, Behind, NotOutstanding, NoProcessor, Busy, NotHeld, OutOfMemory, Full}
use Rattle.gmp_base.specs.declared.refusal.Refused.{Refused}
use Rattle.gmp_seq.specs.declared.call.Call.{Call}
use Rattle.gmp_seq.specs.declared.call.Call.TheVariants as call
use Rattle.gmp_seq.specs.Machines.{has_processor, is_held_by, spins, is_awake_mode, is_calling_mode}
use Rattle.gmp_seq.specs.State.{State}
use Rattle.gmp_seq.specs.Table.{is_calling_on, is_outstanding, is_running_on, some_status, status_at}
use Rattle.gmp_journal.specs.declared.handed.Handed.{Handed}
use Rattle.gmp_journal.specs.Handed.{names_other}
use Rattle.gmp_journal.specs.Log.{Log, calls_of, entries_made, is_over}

-- Tests of the lines

-- the pass or a value names another run, or the pass a machine that there is none of
abbrev pub is_foreign : Log → Pass → Handed → Bool
is_foreign log pass values = not (pass.run == log.run) || nat_le log.limits.machines pass.m.0 || names_other log.run values

-- neither parked nor in a blocking call
abbrev pub is_awake : State → MNo → Bool
is_awake s m = option_map_or is_awake_mode (slice_get s.machines.modes m.0) false

-- the machine runs a goroutine
abbrev pub runs_some : State → MNo → Bool
runs_some s m = some_status (is_running_on m) s.table

-- it is in a blocking call
abbrev pub calls_some : State → MNo → Bool
calls_some s m = option_map_or is_calling_mode (slice_get s.machines.modes m.0) false

-- the machine's state forbids the call
abbrev pub is_busy : State → MNo → Call → Bool
is_busy s m call.Acquire = not (is_awake s m) || has_processor s.machines m
is_busy s m call.Take = not (is_awake s m)
is_busy s m (call.Put r) = not (is_awake s m)
is_busy s m (call.Claim r) = not (is_awake s m) || runs_some s m || spins s.machines m
is_busy s m call.Spin = not (is_awake s m) || runs_some s m
is_busy s m call.Unspin = not (is_awake s m)
is_busy s m call.Woken = calls_some s m
is_busy s m call.Keep = not (is_awake s m)
is_busy s m call.Poke = not (is_awake s m)
is_busy s m call.Declare = runs_some s m || spins s.machines m
is_busy s m call.Bare = not (is_awake s m) || has_processor s.machines m || spins s.machines m
is_busy s m call.Park = not (is_awake s m) || has_processor s.machines m || spins s.machines m
is_busy s m (call.Tick moment) = not (is_awake s m)
-- each other call is of a goroutine: it asks that the values it hands in are the machine's, and no more
is_busy s m _ = false

-- the call is for those that hold a processor, and the machine holds none
abbrev pub lacks_processor : State → MNo → Call → Bool
lacks_processor s m (call.Claim r) = not (has_processor s.machines m)
lacks_processor s m call.Keep = not (has_processor s.machines m)
lacks_processor s m _ = false

-- a ticket is not given out, or was claimed or put back
abbrev pub is_spent : State → Handed → Bool
is_spent s v = option_map_or (λ (x : ℕ × Readiness). not (is_outstanding s.table x.1)) v.ticket false

-- a value that is no ticket is not the machine's
abbrev pub is_anothers : State → MNo → Handed → Bool
is_anothers s m v =
    option_map_or (λ (x : ℕ × GNo). not (option_map_or (is_running_on m) (status_at s.table x.1) false)) v.held false
    || option_map_or (λ (x : ℕ × GNo). not (option_map_or (is_calling_on m) (status_at s.table x.1) false)) v.called false
    || option_map_or (λ (x : ℕ × PNo). not (option_map_or (is_held_by m) (slice_get s.machines.holders x.1.0) false)) v.proc false

-- Lines

-- a line refuses where its test holds
pub record Line : Type 0 where
  pub test : Bool
  pub why : Refusal

abbrev pub refusal_line : Bool → Refusal → Line
refusal_line test why = record { test = test; why = why }

-- the refusal of the first line that holds
abbrev pub first_refusal : List Line → Option Refusal
first_refusal [] = None
first_refusal (l ∷ ls) = if l.test then Some l.why else first_refusal ls

-- when a pass may not call: it or a value is of another run, it is not its machine's latest, it has seen more than there is, or the run
-- is over
abbrev pub turn_lines : Log → Pass → Handed → List Line
turn_lines log pass values =
    refusal_line (is_foreign log pass values) WrongRun
    ∷ refusal_line (not (pass.calls == calls_of log pass.m)) (OutOfTurn (calls_of log pass.m))
    ∷ refusal_line (nat_lt (entries_made log) pass.seen) (Behind (entries_made log) pass.seen)
    ∷ refusal_line (is_over log) Over
    ∷ []

-- when the state does not allow what the machine asks
abbrev pub need_lines : State → MNo → Call → Handed → List Line
need_lines s m asked values =
    refusal_line (is_busy s m asked) Busy
    ∷ refusal_line (lacks_processor s m asked) NoProcessor
    ∷ refusal_line (is_spent s values) NotOutstanding
    ∷ refusal_line (is_anothers s m values) NotHeld
    ∷ []

-- when the history has no room for another entry
abbrev pub room_lines : Log → List Line
room_lines log = refusal_line (nat_le log.limits.room (length log.history)) Full ∷ []

-- Why a call with these values is refused, if it is: by the first line that holds. `Full` is told only where nothing else refuses it.
abbrev pub refusal_of : Log → Pass → Call → Handed → Option Refusal
refusal_of log pass asked values = first_refusal (turn_lines log pass values ++ need_lines log.state pass.m asked values ++ room_lines log)

-- What no line refuses

-- the pass is the machine's latest, and the run lasts
pub record IsCurrent (log : Log) (pass : Pass) : Type 0 where
  pub machine : pass.m.0 < log.limits.machines
  pub turn : pass.calls ≡ calls_of log pass.m
  pub seen : pass.seen ≤ entries_made log
  pub lasts : log.state.outcome ≡ None
  pub goes_on : log.stopped ≡ false

-- no line refuses the call
pub record IsAllowed (log : Log) (pass : Pass) (asked : Call) (values : Handed) : Type 0 where
  pub current : IsCurrent log pass
  pub ours : names_other log.run values ≡ false
  pub free : is_busy log.state pass.m asked ≡ false
  pub equipped : lacks_processor log.state pass.m asked ≡ false
  pub unspent : is_spent log.state values ≡ false
  pub own : is_anothers log.state pass.m values ≡ false
  pub room : length log.history < log.limits.room

-- Answers

-- why an answer refuses, if it does
abbrev pub why_refused : {A V : Type 0} → Result A (Refused V) → Option Refusal
why_refused (Ok a) = None
why_refused (Err r) = Some r.why

-- the same, where nothing is handed back
abbrev pub refusal_in : {A : Type 0} → Result A Refusal → Option Refusal
refusal_in (Ok a) = None
refusal_in (Err why) = Some why

-- a call is refused so; where no line refuses it, it may still want memory, where that is taken
abbrev pub Says : Type 0 → Option Refusal → Option Refusal → Type 0
Says wants (Some why) answer = answer ≡ Some why
Says wants None answer = (answer ≡ None) ⊎ ((answer ≡ Some OutOfMemory) × wants)
