-- The run that a journal keeps, and what an accepted call adds to it.
use Rattle.std.specs.Prelude.{◌≡◌, ℕ, ◌+◌, ◌≤◌, Bool, false, ◌||◌, is_some, Option, Some, List, [], ◌∷◌, ◌++◌, length, slice_index, sum}
use Rattle.gmp_base.specs.declared.number.GNo.{GNo}
use Rattle.gmp_base.specs.declared.number.MNo.{MNo}
use Rattle.gmp_base.specs.declared.pass.Pass.{Pass}
use Rattle.gmp_seq.specs.declared.call.Entry.{Entry}
use Rattle.gmp_seq.specs.declared.call.Call.{Call}
use Rattle.gmp_seq.specs.declared.call.Limits.{Limits}
use Rattle.gmp_seq.specs.declared.call.Reply.{Reply}
use Rattle.gmp_seq.specs.State.{State, main, opening}
use Rattle.gmp_seq.specs.Step.{Step}
use Rattle.gmp_goroutines.specs.Shelf.{Shelves}

-- the run's number, what it was opened with, the state before its first entry, where that is kept, its entries but for those that were handed
-- out, the present state, who is on the shelf, in order, whether the run was stopped, and whether entries were handed out since its outcome
pub record Log : Type 0 where
  pub run : ℕ
  pub limits : Limits
  pub bodies : ℕ
  pub capacities : List ℕ
  pub begun : Option State
  pub history : List Entry
  pub state : State
  pub shelf : List GNo
  pub stopped : Bool
  pub closed : Bool

-- a run that has made no call yet
abbrev pub opening_log : ℕ → Limits → ℕ → List ℕ → Log
opening_log run limits bodies capacities = record {
  run = run;
  limits = limits;
  bodies = bodies;
  capacities = capacities;
  begun = Some (opening limits bodies capacities);
  history = [];
  state = opening limits bodies capacities;
  shelf = main ∷ [];
  stopped = false;
  closed = false;
}

-- it has come to its outcome, or was stopped
abbrev pub is_over : Log → Bool
is_over log = is_some log.state.outcome || log.stopped

-- how many calls were accepted, of all machines and since the opening
abbrev pub entries_made : Log → ℕ
entries_made log = sum log.state.counts

-- no entry was handed out: the history begins at the opening
abbrev pub IsWhole : Log → Type 0
IsWhole log = entries_made log ≡ length log.history

-- how many calls of the machine were accepted
abbrev pub calls_of : Log → MNo → ℕ
calls_of log m = slice_index log.state.counts m.0

-- The call was accepted: its entry goes last, with the pass's count for its number, and is a step of the scheduler.
-- The shelf is first in, first out. The pass has made one call more from then on, and has seen all.
pub record Records (old : Log) (before : Pass) (call : Call) (reply : Reply) (now : Log) (after : Pass) : Type 0 where
  pub entry : now.history ≡ old.history ++ record { m = before.m; k = before.calls; call = call; reply = reply } ∷ []
  pub step : Step old.limits before.m call reply old.state now.state
  pub lasts : old.stopped ≡ false
  pub shelf : Shelves call reply old.state.table now.state.table old.shelf now.shelf
  pub opened : now ≡ record old { history = now.history; state = now.state; shelf = now.shelf }
  -- of all machines one more was made
  pub made : entries_made now ≡ entries_made old + 1
  pub pass : after ≡ record before { calls = before.calls + 1; seen = entries_made now }
  -- all that the pass had seen comes before the entry
  pub order : before.seen ≤ entries_made old
