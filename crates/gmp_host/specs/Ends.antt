-- What is told of a run.
use Rattle.std.specs.Prelude.{◌≡◌, ◌≢◌, ◌⊎◌, ◌≤◌, ℕ, All, List, [], ◌∷◌, ◌++◌, length, None, Some, ⊤}
use Rattle.gmp_base.specs.declared.number.GNo.{GNo}
use Rattle.gmp_seq.specs.declared.call.Entry.{Entry}
use Rattle.gmp_seq.specs.declared.call.Limits.{Limits}
use Rattle.gmp_seq.specs.declared.call.Outcome.{Outcome}
use Rattle.gmp_seq.specs.declared.call.Outcome.TheVariants as outcome
use Rattle.gmp_seq.specs.Fits.{AreLimits}
use Rattle.gmp_seq.specs.Run.{IsLegal}
use Rattle.gmp_seq.specs.State.{State}
use Rattle.gmp_said.specs.Said.{AreSaid, Blocks, Resumes}
use Rattle.gmp_run.specs.Desks.{IsCut, IsFull, TakesAll, joined}
use Rattle.gmp_waits.specs.declared.ending.Waiting.{Waiting}
use Rattle.gmp_waits.specs.Lately.{IsLately}
use Rattle.gmp_waits.specs.Waits.{AreWaiting}
use Rattle.gmp_host.specs.declared.ending.Ended.{Ended}
use Rattle.gmp_host.specs.declared.ending.Short.{Short}
use Rattle.gmp_host.specs.declared.saving.SaveError.{SaveError}
use Rattle.gmp_host.specs.declared.saving.SaveError.TheVariants as save_error

-- What is told of goroutines where this history ends with this outcome: all that began and are not done, each with what it does, and who ran
-- lately; nothing where main ended.
abbrev pub TellsOf : Limits → ℕ → List ℕ → List Entry → Outcome → List Waiting → List GNo → Type 0
TellsOf limits bodies capacities history outcome.MainEnded waiting lately = (waiting ≡ []) × (lately ≡ [])
TellsOf limits bodies capacities history other waiting lately = AreWaiting limits bodies capacities history waiting × IsLately limits bodies capacities history lately

-- There is a legal run, from the opening under these limits, which are in range, with these capacities and so many bodies, that has this
-- outcome and as many entries, and of whose end this is told.
pub record IsOfLegalRun (limits : Limits) (capacities : List ℕ) (bodies : ℕ) (ended : Ended) : Type 0 where
  pub history : List Entry
  pub last : State
  pub legal : IsLegal limits bodies capacities history last
  pub outcome : last.outcome ≡ Some ended.outcome
  pub entries : length history ≡ ended.entries
  pub within : AreLimits limits bodies capacities
  pub tells : TellsOf limits bodies capacities history ended.outcome ended.waiting.items ended.lately.items

-- Such a run that is what these bodies said: each of a goroutine's calls is what its body asked, told what the history gives it.
abbrev pub IsSaidRun : {T : Type 0} → Resumes T → Blocks T → Limits → List ℕ → List T → Ended → Type 0
IsSaidRun {T} resumes blocks limits capacities given ended = (r : IsOfLegalRun limits capacities (length given) ended) × (back : List T) × AreSaid resumes blocks limits capacities given r.history back

-- nobody is told of
abbrev pub TellsNobody : Ended → Type 0
TellsNobody ended = (ended.waiting.items ≡ []) × (ended.lately.items ≡ [])

-- The sink took these pieces, cut where there was no room for another entry, and nothing more. In order they are a legal run, from the opening
-- under these limits, with these capacities and so many bodies, that has this outcome and as many entries.
pub record IsOfPieces {S : Type 0} (takes : S → List Entry → S → Type 0) (limits : Limits) (capacities : List ℕ) (bodies : ℕ) (began : S) (ended : Ended) (sink : S) : Type 0 where
  pub pieces : List (List Entry)
  pub taken : TakesAll takes began pieces sink
  pub sized : IsCut limits pieces
  pub last : State
  pub legal : IsLegal limits bodies capacities (joined pieces) last
  pub outcome : last.outcome ≡ Some ended.outcome
  pub entries : length (joined pieces) ≡ ended.entries
  pub within : AreLimits limits bodies capacities
  pub nobody : TellsNobody ended

-- Such pieces that are, in order, what these bodies said.
abbrev pub IsSaidInPieces : {T S : Type 0} → Resumes T → Blocks T → (S → List Entry → S → Type 0) → Limits → List ℕ → List T → S → Ended → S → Type 0
IsSaidInPieces {T} resumes blocks takes limits capacities given began ended sink =
    (p : IsOfPieces takes limits capacities (length given) began ended sink) × (back : List T) × AreSaid resumes blocks limits capacities given (joined p.pieces) back

-- what was left was taken, if there was anything
abbrev pub TakesLeft : {S : Type 0} → (S → List Entry → S → Type 0) → S → List Entry → S → Type 0
TakesLeft takes old [] new = new ≡ old
TakesLeft takes old (entry ∷ entries) new = takes old (entry ∷ entries) new

-- The sink took these pieces, each handed out where there was no room for another entry, and then stopped the run, since it refused what is left:
-- some entries, and no more than there is room for. Where the run has no outcome, what is left is full. In order, and with that, they are a legal
-- run, from the opening under these limits, with these capacities and so many bodies.
pub record StopsPieces {S : Type 0} (takes refuses : S → List Entry → S → Type 0) (limits : Limits) (capacities : List ℕ) (bodies : ℕ) (began : S) (sink : S) : Type 0 where
  pub pieces : List (List Entry)
  pub left : List Entry
  pub behind : S
  pub taken : TakesAll takes began pieces behind
  pub refused : refuses behind left sink
  pub sized : All (IsFull limits) pieces
  pub some : left ≢ []
  pub few : length left ≤ limits.room
  pub last : State
  pub legal : IsLegal limits bodies capacities (joined pieces ++ left) last
  pub full : last.outcome ≡ None → IsFull limits left
  pub within : AreLimits limits bodies capacities

-- Such pieces, which with what is left are what these bodies said.
abbrev pub IsSaidToStop : {T S : Type 0} → Resumes T → Blocks T → (S → List Entry → S → Type 0) → (S → List Entry → S → Type 0) → Limits → List ℕ → List T → S → S → Type 0
IsSaidToStop {T} resumes blocks takes refuses limits capacities given began sink =
    (p : StopsPieces takes refuses limits capacities (length given) began sink) × (back : List T) × AreSaid resumes blocks limits capacities given (joined p.pieces ++ p.left) back

-- where the run fell short, this holds of why
abbrev pub FellSo : (Short → Type 0) → SaveError → Type 0
FellSo So (save_error.Short why) = So why
FellSo So (save_error.Write why) = ⊤
