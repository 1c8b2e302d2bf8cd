-- What a check says of a trace.
use Rattle.std.specs.Prelude.{◌≡◌, ◌≢◌, ℕ, ◌+◌, Option, None, List, [], length}
use Rattle.gmp_seq.specs.declared.call.Entry.{Entry}
use Rattle.gmp_seq.specs.declared.call.Limits.{Limits}
use Rattle.gmp_seq.specs.declared.call.Outcome.{Outcome}
use Rattle.gmp_seq.specs.Fits.{AreLimits}
use Rattle.gmp_seq.specs.Laws.{FitsTogether, HasSizes}
use Rattle.gmp_seq.specs.State.{State, opening}
use Rattle.gmp_trace.specs.declared.bad.Bad.{Bad}
use Rattle.gmp_trace.specs.declared.bad.Why.{Why}
use Rattle.gmp_trace.specs.declared.bad.Why.TheVariants as why
use Rattle.gmp_trace.specs.declared.trace.End.{End}
use Rattle.gmp_trace.specs.HasText.{lines_before}
use Rattle.gmp_trace.specs.Text.{Begins, Content, end_of}
use Rattle.gmp_trace.specs.Text.Begins.{AtOpening, AtState}
use Rattle.gmp_check.specs.Replayed.{EndsWith, IsNoStep}

-- Entries from any state on

-- the state before the first entry, and how the entries are said to end
pub record Part : Type 0 where
  pub limits : Limits
  pub start : State
  pub entries : List Entry
  pub end : End

abbrev pub part : Limits → State → List Entry → End → Part
part limits start h end = record { limits = limits; start = start; entries = h; end = end }

-- its entries are a run to a state with this outcome, and its end tells so
pub record IsRightPart (x : Part) (outcome : Option Outcome) : Type 0 where
  pub ends : EndsWith x.limits x.start x.entries outcome
  pub told : x.end ≡ end_of outcome

-- behind so many lines entry n stands on this line, and behind the last entry the end
abbrev pub line_of : ℕ → ℕ → ℕ
line_of before n = before + n + 1

-- the entries before this line are a run, and no step follows it by the entry there
pub record IsNoStepAt (x : Part) (before line : ℕ) : Type 0 where
  pub n : ℕ
  pub there : line ≡ line_of before n
  pub no_step : IsNoStep x.limits x.start x.entries n

-- the entries are a run, and the end, on this line, tells of another outcome
pub record IsOtherEndAt (x : Part) (before line : ℕ) : Type 0 where
  pub outcome : Option Outcome
  pub ends : EndsWith x.limits x.start x.entries outcome
  pub other : x.end ≢ end_of outcome
  pub there : line ≡ line_of before (length x.entries)

-- where so many lines are before the first entry: what is wrong at this line, and nothing is before it
abbrev pub IsBadPartAt : Part → ℕ → ℕ → Why → Type 0
IsBadPartAt x before line why.Step = IsNoStepAt x before line
IsBadPartAt x before line why.Outcome = IsOtherEndAt x before line
IsBadPartAt x before line why.OutOfMemory = line ≡ 0
IsBadPartAt x before line other = ⊥

-- How a run begins

-- the state before its first entry
abbrev pub start_at : Limits → ℕ → Begins → State
start_at limits bodies (AtOpening capacities) = opening limits bodies capacities
start_at limits bodies (AtState s) = s

-- it may go on from the state
pub record MayGoOn (limits : Limits) (bodies : ℕ) (s : State) : Type 0 where
  pub sizes : HasSizes limits bodies s
  pub together : FitsTogether limits s
  pub lasts : s.outcome ≡ None

-- within these limits, by so many goroutines, it may begin so
abbrev pub MayStart : Limits → ℕ → Begins → Type 0
MayStart limits bodies (AtOpening capacities) = AreLimits limits bodies capacities
MayStart limits bodies (AtState s) = AreLimits limits bodies [] × MayGoOn limits bodies s

-- line 3 of version 1: the limits are in range, and the capacities are not
abbrev pub AreBadCapacities : Limits → ℕ → Begins → ℕ → Type 0
AreBadCapacities limits bodies (AtOpening capacities) line = (line ≡ 3) × AreLimits limits bodies [] × (AreLimits limits bodies capacities → ⊥)
AreBadCapacities limits bodies (AtState s) line = ⊥

-- the line of versions 2 and 4 that has `begin`: the limits are in range, and no run may go on from the state
abbrev pub IsBadStart : Limits → ℕ → Begins → ℕ → Type 0
IsBadStart limits bodies (AtOpening capacities) line = ⊥
IsBadStart limits bodies (AtState s) line = (line ≡ lines_before (AtState s)) × AreLimits limits bodies [] × (MayGoOn limits bodies s → ⊥)

-- where the limits are in range: what is wrong with the beginning at this line, or memory was refused
abbrev pub IsBadBeginning : Limits → ℕ → Begins → ℕ → Why → Type 0
IsBadBeginning limits bodies b line why.Caps = AreBadCapacities limits bodies b line
IsBadBeginning limits bodies b line why.Start = IsBadStart limits bodies b line
IsBadBeginning limits bodies b line why.OutOfMemory = MayStart limits bodies b × (line ≡ 0)
IsBadBeginning limits bodies b line other = ⊥

-- A trace

-- the state before its first entry
abbrev pub start_of : Content → State
start_of x = start_at x.limits x.bodies x.begins

-- its entries begin there
abbrev pub part_of : Content → Part
part_of x = part x.limits (start_of x) x.entries x.end

-- its limits and its beginning are in range, its entries are a run from there to a state with this outcome, and its end tells so
pub record IsRight (x : Content) (outcome : Option Outcome) : Type 0 where
  pub range : MayStart x.limits x.bodies x.begins
  pub run : IsRightPart (part_of x) outcome

-- what is wrong at this line, and nothing is before it
abbrev pub IsBadAt : Content → ℕ → Why → Type 0
IsBadAt x line why.Limits = (line ≡ 2) × (AreLimits x.limits x.bodies [] → ⊥)
IsBadAt x line why.Caps = AreBadCapacities x.limits x.bodies x.begins line
IsBadAt x line why.Start = IsBadStart x.limits x.bodies x.begins line
IsBadAt x line other = MayStart x.limits x.bodies x.begins × IsBadPartAt (part_of x) (lines_before x.begins) line other

-- the first line that is wrong
abbrev pub IsFirstBad : Content → Bad → Type 0
IsFirstBad x bad = IsBadAt x bad.line bad.why
