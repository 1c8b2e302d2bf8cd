-- A run of a script in turn: what its bodies ask, and the clock's readings, are the script's.
use Rattle.std.specs.Prelude.{◌≡◌, ℕ, Bool, List, Option}
use Rattle.gmp_base.specs.declared.ask.Ask.{Ask}
use Rattle.gmp_base.specs.declared.ask.Woke.{Woke}
use Rattle.gmp_seq.specs.declared.call.Limits.{Limits}
use Rattle.gmp_script.specs.Script.{AsksTold, BringsLast, Commands}
use Rattle.gmp_core.specs.Plays as rounds
use Rattle.gmp_core.specs.Stage as stage
use Rattle.gmp_cli.specs.Clock.{ClockState, clock_after, reading, unread}

-- a body, told this, asks what its next command asks, and the clock stays
abbrev pub AsksCommand : ClockState → Commands → Woke → Ask → ClockState → Commands → Type 0
AsksCommand clock before told asked clock' after = AsksTold before told asked after × (clock' ≡ clock)

-- a blocking call answers by its command; body and clock stay
abbrev pub AnswersCommand : ClockState → Commands → ℕ → ClockState → Commands → Type 0
AnswersCommand clock before number clock' after = BringsLast before number after × (clock' ≡ clock)

-- the clock reads so
abbrev pub Reads : ClockState → Option ℕ → ℕ → ClockState → Type 0
Reads clock minded moment clock' = (moment ≡ reading clock minded) × (clock' ≡ clock_after clock minded)

-- all machines together with the script's bodies, the clock, and the machine whose turn it is
abbrev pub Stage : Type 0
Stage = stage.Stage Commands ClockState

-- no act was made yet
abbrev pub opening_stage : Bool → Limits → List ℕ → List ℕ → List Commands → Stage
opening_stage is_fair limits capacities readings bodies = stage.opening_stage is_fair limits capacities bodies (unread readings)

-- so many acts, one after another
abbrev pub Plays : ℕ → ℕ → Stage → Stage → Type 0
Plays = rounds.Plays AsksCommand AnswersCommand Reads

-- to the run's end: it is over, or as many acts were made as may be, or no machine is left to act
abbrev pub IsPlayed : ℕ → ℕ → Stage → Stage → Type 0
IsPlayed = rounds.IsPlayed AsksCommand AnswersCommand Reads
