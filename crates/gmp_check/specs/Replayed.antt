-- What a replay promises.
use Rattle.std.specs.Prelude.{◌≡◌, ℕ, Option, Some, List, slice_get, take, ⊤}
use Rattle.gmp_seq.specs.declared.call.Entry.{Entry}
use Rattle.gmp_seq.specs.declared.call.Limits.{Limits}
use Rattle.gmp_seq.specs.declared.call.Outcome.{Outcome}
use Rattle.gmp_seq.specs.Fits.{AreLimits}
use Rattle.gmp_seq.specs.Run.{IsStep, Run}
use Rattle.gmp_seq.specs.State.{State, opening}
use Rattle.gmp_check.specs.declared.error.OpenError.{OpenError}
use Rattle.gmp_check.specs.declared.error.OpenError.TheVariants as open_error
use Rattle.gmp_check.specs.declared.error.ReplayError.{ReplayError}
use Rattle.gmp_check.specs.declared.error.ReplayError.TheVariants as replay_error
use Rattle.gmp_check.specs.declared.error.Stop.{Stop}
use Rattle.gmp_check.specs.declared.error.Stop.TheVariants as stop

-- the limits of a replay, and the state that it is in
pub record Replayed : Type 0 where
  pub limits : Limits
  pub state : State

-- a run from this state ends with this outcome, where there is one
abbrev pub EndsWith : Limits → State → List Entry → Option Outcome → Type 0
EndsWith limits start h outcome = (s : State) × Run limits start h s × (s.outcome ≡ outcome)

-- the entries before this index are a run from this state, and no step follows it by the entry there
abbrev pub IsNoStep : Limits → State → List Entry → ℕ → Type 0
IsNoStep limits start h i =
    (s : State) × Run limits start (take i h) s × (e : Entry) × (slice_get h i ≡ Some e) × ((new : State) → IsStep limits e s new → ⊥)

-- what an opening's error says
abbrev pub IsOpenError : Limits → ℕ → List ℕ → OpenError → Type 0
IsOpenError limits bodies capacities open_error.BadLimits = AreLimits limits bodies capacities → ⊥
IsOpenError limits bodies capacities open_error.OutOfMemory = AreLimits limits bodies capacities

-- why the replay of these entries from this state stopped
abbrev pub IsStop : Limits → State → List Entry → Stop → Type 0
IsStop limits start h (stop.NoStep i) = IsNoStep limits start h i
IsStop limits start h stop.OutOfMemory = ⊤

-- what the error of a whole replay says
abbrev pub IsReplayError : Limits → ℕ → List ℕ → List Entry → ReplayError → Type 0
IsReplayError limits bodies capacities h replay_error.BadLimits = AreLimits limits bodies capacities → ⊥
IsReplayError limits bodies capacities h (replay_error.NoStep i) = AreLimits limits bodies capacities × IsNoStep limits (opening limits bodies capacities) h i
IsReplayError limits bodies capacities h replay_error.OutOfMemory = AreLimits limits bodies capacities

-- an opening's error as that of a whole replay
abbrev pub as_replay_error : OpenError → ReplayError
as_replay_error open_error.BadLimits = replay_error.BadLimits
as_replay_error open_error.OutOfMemory = replay_error.OutOfMemory

-- and a stop
abbrev pub stop_error : Stop → ReplayError
stop_error (stop.NoStep i) = replay_error.NoStep i
stop_error stop.OutOfMemory = replay_error.OutOfMemory
