-- The limits that the command line gives, the trace of a run within them, and the status that tells its end.
use Rattle.std.specs.Prelude.{◌≡◌, ℕ, List, length}
use Rattle.gmp_seq.specs.declared.call.Limits.{Limits}
use Rattle.gmp_seq.specs.Fits.{AreLimits}
use Rattle.gmp_seq.specs.Run.{IsLegal}
use Rattle.gmp_seq.specs.State.{State}
use Rattle.gmp_script.specs.Lines.{lines, IsScript}
use Rattle.gmp_script.specs.Script.{Commands}
use Rattle.gmp_trace.specs.declared.trace.End.{End}
use Rattle.gmp_trace.specs.declared.trace.End.TheVariants.{MainEnded, AllAsleep, BookFull, Running}
use Rattle.gmp_trace.specs.Text.{Content, end_of}
use Rattle.gmp_trace.specs.Text.Begins.{AtOpening}
use Rattle.gmp_words.specs.declared.ended.Verdict.{Verdict}
use Rattle.gmp_words.specs.declared.ended.Verdict.TheVariants.{Safe, Deadlock, Fault, Leak, Stranded, Unknown}
use Rattle.gmp_words.specs.declared.options.Segments.{Segments}
use Rattle.gmp_words.specs.declared.options.Settings.{Settings}

-- the limits that the command line gives
abbrev pub limits_of : Settings → Limits
limits_of s = record { procs = s.procs; machines = s.machines; channels = s.channels; entries = s.entries; room = s.entries }

-- the same of a run in these segments
abbrev pub limits_in : Segments → Settings → Limits
limits_in x s = record (limits_of s) { entries = x.entries; room = x.room }

-- the exit status where a run ended so
abbrev pub status_of : End → ℕ
status_of MainEnded = 0
status_of AllAsleep = 2
status_of BookFull = 3
status_of Running = 4

-- the exit status where this was found of all runs of a script
abbrev pub status_of_verdict : Verdict → ℕ
status_of_verdict Safe = 0
status_of_verdict Deadlock = 2
status_of_verdict Fault = 7
status_of_verdict Leak = 8
status_of_verdict Unknown = 9
status_of_verdict Stranded = 10

-- The trace of a run that was opened with these limits and capacities: its entries are a legal run from the opening state, and its end is
-- the outcome of the state that they lead to, or says that there is none.
pub record IsTraceOf (limits : Limits) (capacities : List ℕ) (x : Content) : Type 0 where
  pub opened : x.limits ≡ limits
  pub begun : x.begins ≡ AtOpening capacities
  pub within : AreLimits x.limits x.bodies capacities
  pub last : State
  pub legal : IsLegal x.limits x.bodies capacities x.entries last
  pub ended : x.end ≡ end_of last.outcome

-- the script that was read is within the limits
pub record IsWithinLimits (limits : Limits) (all : List ℕ) : Type 0 where
  pub capacities : List ℕ
  pub readings : List ℕ
  pub bodies : List Commands
  pub script : IsScript (lines all) capacities readings bodies
  pub within : AreLimits limits (length bodies) capacities

-- the script that was read is out of the limits
pub record IsOutOfLimits (limits : Limits) (all : List ℕ) : Type 0 where
  pub capacities : List ℕ
  pub readings : List ℕ
  pub bodies : List Commands
  pub script : IsScript (lines all) capacities readings bodies
  pub out : ¬ (AreLimits limits (length bodies) capacities)
