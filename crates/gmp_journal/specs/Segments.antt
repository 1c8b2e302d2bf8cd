-- A history that is handed out in parts.
use Rattle.std.specs.Prelude.{◌≡◌, [], ◌∷◌, All, List, Option, None, Some, IsSome, true, false, is_some, if◌then◌else◌}
use Rattle.std.specs.List.{flat_map}
use Rattle.gmp_base.specs.declared.refusal.Refusal.{Refusal}
use Rattle.gmp_base.specs.declared.refusal.Refusal.TheVariants.{Over, Busy, OutOfMemory}
use Rattle.gmp_seq.specs.declared.call.Entry.{Entry}
use Rattle.gmp_seq.specs.declared.call.Limits.{Limits}
use Rattle.gmp_seq.specs.Fits.{AreLimits, Fits}
use Rattle.gmp_seq.specs.Laws.{FitsTogether}
use Rattle.gmp_seq.specs.Run.{IsLegal, Run}
use Rattle.gmp_seq.specs.State.{State}
use Rattle.gmp_start.specs.Start.{state_of}
use Rattle.gmp_journal.specs.declared.segment.Segment.{Segment}
use Rattle.gmp_journal.specs.Log.{Log}

-- the history is a run from a state of a legal run to the present one, under limits in range, and the numbers of both runs are within their
-- types
pub record IsPart (log : Log) : Type 0 where
  -- what was handed out, and the state at which it stops
  pub before : List Entry
  pub start : State
  pub led : IsLegal log.limits log.bodies log.capacities before start
  pub before_fits : All Fits before
  pub run : Run log.limits start log.history log.state
  pub fits : All Fits log.history
  pub within : AreLimits log.limits log.bodies log.capacities

-- a run may go on from the state, and a legal run whose numbers are within their types leads there; so the text of a trace can say it
pub record MayGoOn (log : Log) (s : State) : Type 0 where
  pub together : FitsTogether log.limits s
  pub before : List Entry
  pub led : IsLegal log.limits log.bodies log.capacities before s
  pub before_fits : All Fits before
  pub within : AreLimits log.limits log.bodies log.capacities

-- Entries that are handed out, without the state before them or with it

-- the log once its entries are handed out: the next begin at its state, which is not kept
abbrev pub handed_out : Log → Log
handed_out log = record log { history = []; begun = None; closed = is_some log.state.outcome }

-- the state, where the run lasts
abbrev pub lasting_state : State → Option State
lasting_state s = if is_some s.outcome then None else Some s

-- the log once a segment was taken: the same, but a run that lasts keeps its state
abbrev pub segmented : Log → Log
segmented log = record (handed_out log) { begun = lasting_state log.state }

-- what is kept, or else the present state, where there is no entry
abbrev pub begin_before : Option State → List Entry → State → Option State
begin_before (Some s) entries now = Some s
begin_before None [] now = Some now
begin_before None (e ∷ es) now = None

-- the state before the first entry, where it is known
abbrev pub begin_of : Log → Option State
begin_of log = begin_before log.begun log.history log.state

-- The segment has the state before the first entry, all entries, and how the run ended. Its entries are a run from there to the present state,
-- at which the history begins from then on.
pub record IsSegment (old : Log) (x : Segment) (new : Log) : Type 0 where
  pub start : begin_of old ≡ Some (state_of x.start)
  pub entries : x.entries.list ≡ old.history
  pub end : x.end ≡ old.state.outcome
  pub log : new ≡ segmented old
  pub run : Run old.limits (state_of x.start) x.entries.list old.state
  pub together : MayGoOn old (state_of x.start)
  pub fits : All Fits x.entries.list

-- Entries were handed out since the outcome; or there are entries, and the state before them is not known; or else memory was refused.
abbrev pub WhyNoSegment : Log → Refusal → Type 0
WhyNoSegment log Over = log.closed ≡ true
WhyNoSegment log Busy = (log.closed ≡ false) × (begin_of log ≡ None)
WhyNoSegment log OutOfMemory = (log.closed ≡ false) × IsSome (begin_of log)
WhyNoSegment log _ = ⊥

-- a segment in words: the state before its entries, and the entries
pub record Piece : Type 0 where
  pub start : State
  pub entries : List Entry

-- each goes on where the one before it stops
abbrev pub AreSegments : Limits → State → List Piece → State → Type 0
AreSegments limits a [] b = b ≡ a
AreSegments limits a (p ∷ ps) b = (p.start ≡ a) × (mid : State) × Run limits a p.entries mid × AreSegments limits mid ps b

abbrev pub entries_of : List Piece → List Entry
entries_of ps = flat_map (λ (p : Piece). p.entries) ps
