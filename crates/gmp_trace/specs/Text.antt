-- The text of a trace.
use Rattle.std.specs.Prelude.{ℕ, ◌≡◌, ◌<◌, ◌^◌, Bool, not, if◌then◌else◌, List, ◌++◌, codes, sum, Option, None, Some}
use Rattle.std.specs.Io.KnownBytes.{Appends}
use Rattle.gmp_seq.specs.declared.call.Entry.{Entry}
use Rattle.gmp_seq.specs.declared.call.Limits.{Limits}
use Rattle.gmp_seq.specs.declared.call.Outcome.{Outcome}
use Rattle.gmp_seq.specs.declared.call.Outcome.TheVariants as outcome
use Rattle.gmp_seq.specs.State.{State}
use Rattle.gmp_start.specs.Start.{state_of}
use Rattle.gmp_trace.specs.declared.trace.Beginning.{Beginning}
use Rattle.gmp_trace.specs.declared.trace.Beginning.TheVariants as beginning
use Rattle.gmp_trace.specs.declared.trace.BeginningView.{BeginningView}
use Rattle.gmp_trace.specs.declared.trace.BeginningView.TheVariants as beginning_view
use Rattle.gmp_trace.specs.declared.trace.End.{End}
use Rattle.gmp_trace.specs.declared.trace.End.TheVariants as end_
use Rattle.gmp_trace.specs.declared.trace.Trace.{Trace}
use Rattle.gmp_trace.specs.declared.trace.TraceView.{TraceView}
use Rattle.gmp_trace.specs.declared.trace.Version.{Version}
use Rattle.gmp_trace.specs.declared.trace.Version.TheVariants.{One, Two, Four}
use Rattle.gmp_trace.specs.Pieces.{capacities_text, end_text, entries_text, is_whole, limits_text}
use Rattle.gmp_trace.specs.StartText.{start_text}

-- the end of a run with this outcome
abbrev pub end_of : Option Outcome → End
end_of (Some outcome.MainEnded) = end_.MainEnded
end_of (Some outcome.AllAsleep) = end_.AllAsleep
end_of (Some outcome.BookFull) = end_.BookFull
end_of None = end_.Running

-- how a run begins: at the opening, with channels of these capacities, or at a state that another run led to
pub data Begins : Type 0 where
  AtOpening : List ℕ → Begins
  AtState : State → Begins

abbrev pub begins_at : Beginning → Begins
begins_at (beginning.Opening capacities) = AtOpening capacities.items
begins_at (beginning.Start start) = AtState (state_of start)

abbrev pub begins_of : BeginningView → Begins
begins_of (beginning_view.Opening capacities) = AtOpening capacities.now
begins_of (beginning_view.Start start) = AtState (state_of start.now)

-- what a trace says, wherever it lies in memory
pub record Content : Type 0 where
  pub limits : Limits
  pub bodies : ℕ
  pub begins : Begins
  pub entries : List Entry
  pub end : End

abbrev pub content : Trace → Content
content x = record { limits = x.limits; bodies = x.bodies; begins = begins_at x.beginning; entries = x.entries.list; end = x.end }

abbrev pub content_of : TraceView → Content
content_of x = record { limits = x.limits; bodies = x.bodies; begins = begins_of x.beginning; entries = x.entries.now.list; end = x.end }

-- of what begins at a state: version 2 where the history is kept whole, and else version 4
abbrev pub start_version : Limits → Version
start_version limits = if is_whole limits then Two else Four

-- version 1 begins at the opening, and versions 2 and 4 at a state
abbrev pub version_of : Limits → Begins → Version
version_of limits (AtOpening capacities) = One
version_of limits (AtState s) = start_version limits

-- a text of the version may have these limits
abbrev pub suits : Version → Limits → Bool
suits Four limits = not (is_whole limits)
suits _ limits = is_whole limits

-- line 1
abbrev pub header : Version → List ℕ
header One = codes "gmp-trace 1\n"
header Two = codes "gmp-trace 2\n"
header Four = codes "gmp-trace 4\n"

-- the lines behind that of the limits, up to the entries
abbrev pub begins_text : Begins → List ℕ
begins_text (AtOpening capacities) = capacities_text capacities
begins_text (AtState s) = start_text (sum s.counts) s

-- the lines before the entries
abbrev pub beginning_text : Limits → ℕ → Begins → List ℕ
beginning_text limits bodies b = header (version_of limits b) ++ limits_text limits bodies ++ begins_text b

-- the number of the first entry: so many were made before
abbrev pub first_number : Begins → ℕ
first_number (AtOpening capacities) = 0
first_number (AtState s) = sum s.counts

-- numbers of entries go on from there within a `u64`, as they do in each run
abbrev pub IsCounted : Begins → Type 0
IsCounted (AtOpening capacities) = Unit {0}
IsCounted (AtState s) = sum s.counts < 2 ^ 63

-- the text of a trace
abbrev pub text : Content → List ℕ
text x = beginning_text x.limits x.bodies x.begins ++ entries_text (first_number x.begins) x.entries ++ end_text x.end

-- Writing

-- some bytes went out, and with those that are pending they are the text
abbrev pub Owes : Option (List ℕ) → Option (List ℕ) → List ℕ → List ℕ → Type 0
Owes old new pending text = (sent : List ℕ) × Appends old new sent × (sent ++ pending ≡ text)

-- what went out is the text up to some place
abbrev pub AppendsStart : Option (List ℕ) → Option (List ℕ) → List ℕ → Type 0
AppendsStart old new text = (rest : List ℕ) × Owes old new rest text
