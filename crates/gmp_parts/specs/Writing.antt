-- A run that is written in parts, as it goes on.
use Rattle.std.specs.Prelude.{◌≡◌, ◌≢◌, ℕ, ◌+◌, ◌≤◌, All, List, [], Option, None, length}
use Rattle.std.specs.Io.KnownBytes.{Appends}
use Rattle.gmp_seq.specs.declared.call.Entry.{Entry}
use Rattle.gmp_seq.specs.declared.call.Limits.{Limits}
use Rattle.gmp_seq.specs.Fits.{AreLimits, Fits}
use Rattle.gmp_seq.specs.Run.{IsLegal, Run}
use Rattle.gmp_seq.specs.State.{State}
use Rattle.gmp_trace.specs.Text.{Content, end_of, text}
use Rattle.gmp_check.specs.Checked.{start_of}
use Rattle.gmp_check.specs.Replayed.{Replayed}
use Rattle.gmp_parts.specs.declared.error.PartError.{PartError}
use Rattle.gmp_parts.specs.Parts.{AreInOrder, IsRightTrace, Parts, count, entries_of, first, texts}
use Rattle.gmp_parts.specs.Parts.Parts.{NoPart, Then}

-- The run's size, the state behind all entries that were written, how many entries and parts those are, why nothing more is written, and
-- where the parts went.
pub record Writing (W : Type 0) : Type 0 where
  pub limits : Limits
  pub bodies : ℕ
  pub state : State
  pub entries : ℕ
  pub parts : ℕ
  pub failed : Option PartError
  pub out : W

-- there are entries, and they are a run from this state
abbrev pub LeadsOn : Limits → State → List Entry → Type 0
LeadsOn limits s h = (h ≢ []) × ((new : State) × Run limits s h new)

-- they go on where the last part stops
abbrev pub GoesOn : {W : Type 0} → Writing W → List Entry → Type 0
GoesOn w h = LeadsOn w.limits w.state h

-- x is the part with these entries: it begins where the last one stopped, leads to the new state, and tells its outcome
pub record IsNextPart {W : Type 0} (old : Writing W) (h : List Entry) (new : Writing W) (x : Content) : Type 0 where
  pub limits : x.limits ≡ old.limits
  pub bodies : x.bodies ≡ old.bodies
  pub begins : start_of x ≡ old.state
  pub entries : x.entries ≡ h
  pub led : Run old.limits old.state h new.state
  pub end : x.end ≡ end_of new.state.outcome
  pub right : IsRightTrace x

-- The entries were written as the next part. `contents` says what went to the writer.
pub record WritesPart {W : Type 0} (contents : W → Option (List ℕ)) (old : Writing W) (h : List Entry) (new : Writing W) : Type 0 where
  pub part : Content
  pub next : IsNextPart old h new part
  pub appended : Appends (contents old.out) (contents new.out) (text part)
  pub entries : new.entries ≡ old.entries + length h
  pub parts : new.parts ≡ old.parts + 1
  pub same : (new.limits ≡ old.limits) × (new.bodies ≡ old.bodies)
  pub works : (old.failed ≡ None) × (new.failed ≡ None)

-- The state where these parts stop; behind none it is where the writing began.
abbrev pub StopsAt : {W : Type 0} → Writing W → Parts → State → Type 0
StopsAt began NoPart s = s ≡ began.state
StopsAt began (Then parts x) s =
    (x.limits ≡ began.limits) × (x.bodies ≡ began.bodies) × Run x.limits (start_of x) x.entries s × (x.end ≡ end_of s.outcome)

-- the first of these parts begins where the writing began
abbrev pub BeginsAt : {W : Type 0} → Writing W → Parts → Type 0
BeginsAt began NoPart = Unit {0}
BeginsAt began (Then parts x) =
    ((first parts x).limits ≡ began.limits) × ((first parts x).bodies ≡ began.bodies) × (start_of (first parts x) ≡ began.state)

-- Since it began these parts were written, in order: one run to the present state.
pub record HasWritten {W : Type 0} (contents : W → Option (List ℕ)) (began now : Writing W) (parts : Parts) : Type 0 where
  pub in_order : AreInOrder parts
  pub appended : Appends (contents began.out) (contents now.out) (texts parts)
  pub one_run : Run began.limits began.state (entries_of parts) now.state
  pub begins : BeginsAt began parts
  pub stops : StopsAt began parts now.state
  pub entries : now.entries ≡ began.entries + length (entries_of parts)
  pub number : now.parts ≡ began.parts + count parts
  pub same : (now.limits ≡ began.limits) × (now.bodies ≡ began.bodies)

-- Within the crate

-- Of a run from the opening on, so many entries were written, in so many parts; the state is behind them.
pub record IsUnderWay (limits : Limits) (bodies entries parts : ℕ) (s : State) : Type 0 where
  pub capacities : List ℕ
  pub written : List Entry
  pub range : AreLimits limits bodies capacities
  pub fits : All Fits written
  pub legal : IsLegal limits bodies capacities written s
  pub made : entries ≡ length written
  -- a part has an entry at least
  pub few : parts ≤ entries

-- So much is kept of it. While nothing failed, the replay is in that state.
pub record IsHeld (limits : Limits) (bodies entries parts : ℕ) (failed : Option PartError) (s : State) (replay : Replayed) : Type 0 where
  pub under_way : IsUnderWay limits bodies entries parts s
  pub follows : failed ≡ None → replay ≡ record { limits = limits; state = s }
