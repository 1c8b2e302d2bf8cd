-- A host's run by a core: its machines act in turn, or as they are dealt, time passes where one waits for a deadline, and nothing is left
-- open but what bodies do.
use Rattle.std.specs.Prelude.{◌≡◌, ℕ, ◌*◌, max, Bool, List, Option, None, Some, length}
use Rattle.std.specs.Option.{unwrap_or}
use Rattle.gmp_base.specs.declared.ask.Ask.{Ask}
use Rattle.gmp_base.specs.declared.ask.Woke.{Woke}
use Rattle.gmp_seq.specs.declared.call.Limits.{Limits}
use Rattle.gmp_acts.specs.System.{BookRun}
use Rattle.gmp_core.specs.Plays.{IsPlayed}
use Rattle.gmp_core.specs.Stage.{Stage, opening_stage}
use Rattle.gmp_chance.specs.declared.dealer.Next.{Next}
use Rattle.gmp_chance.specs.Drawn.{IsDrawn, Table, opening_table}
use Rattle.gmp_host.specs.declared.ending.Ended.{Ended}
use Rattle.gmp_host.specs.Ends.{TellsOf}

-- the clock shows the moment that it showed, or the deadline that is minded, whichever is later
abbrev pub ShowsSo : ℕ → Option ℕ → ℕ → ℕ → Type 0
ShowsSo shown minded moment shown' = (moment ≡ max shown (unwrap_or minded 0)) × (shown' ≡ moment)

-- the most acts of all machines
abbrev pub most_acts : Limits → ℕ
most_acts limits = 1000000 * limits.machines

-- the run from this opening has this outcome, and as many entries, and this is told of goroutines where it ends
pub record EndsSo (limits : Limits) (capacities : List ℕ) (bodies : ℕ) (book : BookRun) (ended : Ended) : Type 0 where
  pub outcome : book.state.outcome ≡ Some ended.outcome
  pub entries : length book.history ≡ ended.entries
  pub tells : TellsOf limits bodies capacities book.history ended.outcome ended.waiting.items ended.lately.items

-- a body asks as it does when it is resumed, and the clock stands
abbrev pub AsksSo : {T : Type 0} → (T → Woke → Ask → T → Type 0) → ℕ → T → Woke → Ask → ℕ → T → Type 0
AsksSo resumed shown before told asked shown' after = resumed before told asked after × (shown' ≡ shown)

-- and answers as it does by its blocking call
abbrev pub AnswersSo : {T : Type 0} → (T → ℕ → T → Type 0) → ℕ → T → ℕ → ℕ → T → Type 0
AnswersSo called shown before number shown' after = called before number after × (shown' ≡ shown)

-- The body in a box asks so when it is resumed, and the same box holds it afterwards: `holding` is the box with this body in it.
abbrev pub BoxAsks : {B : Type 0} {In : B → Type 0} → ((box : B) → In box → B) → ((box : B) → Woke → Ask → In box → Type 0) → B → Woke → Ask → B → Type 0
BoxAsks {B} {In} holding resumed before told asked after = (left : In before) × (after ≡ holding before left) × resumed before told asked left

-- and answers so by its blocking call
abbrev pub BoxAnswers : {B : Type 0} {In : B → Type 0} → ((box : B) → In box → B) → ((box : B) → ℕ → In box → Type 0) → B → ℕ → B → Type 0
BoxAnswers {B} {In} holding called before number after = (left : In before) × (after ≡ holding before left) × called before number left

-- By what bodies ask when they are resumed, and answer by their blocking calls.
module _ {T : Type 0} (resumed : T → Woke → Ask → T → Type 0) (called : T → ℕ → T → Type 0) where
  -- the bodies were played so far, by machines that are all fair, or all not
  abbrev pub IsPlayedTo : Bool → Limits → List ℕ → List T → Stage T ℕ → Type 0
  IsPlayedTo is_fair limits capacities bodies last = IsPlayed (AsksSo resumed) (AnswersSo called) ShowsSo (most_acts limits) 0 (opening_stage is_fair limits capacities bodies 0) last

  -- the bodies were played, each choice the first, and the run ended so
  pub record IsPlayedOut (is_fair : Bool) (limits : Limits) (capacities : List ℕ) (bodies : List T) (ended : Ended) : Type 0 where
    pub last : Stage T ℕ
    pub played : IsPlayedTo is_fair limits capacities bodies last
    pub ends : EndsSo limits capacities (length bodies) last.core.system.book ended

  -- the bodies were played, and the run came to no outcome
  pub record HasNoEnd (is_fair : Bool) (limits : Limits) (capacities : List ℕ) (bodies : List T) : Type 0 where
    pub last : Stage T ℕ
    pub played : IsPlayedTo is_fair limits capacities bodies last
    pub none : last.core.system.book.state.outcome ≡ None

-- By what a dealer deals, too.
module _ {T D : Type 0} (resumed : T → Woke → Ask → T → Type 0) (called : T → ℕ → T → Type 0) (deals : D → List Next → ℕ → ℕ → D → Type 0) where
  -- the bodies were played so far, each machine and each word as they are dealt, by this dealer at first
  abbrev pub IsDrawnTo : D → Bool → Limits → List ℕ → List T → Table T ℕ D → Type 0
  IsDrawnTo dealer is_fair limits capacities bodies last =
      IsDrawn (AsksSo resumed) (AnswersSo called) ShowsSo deals (most_acts limits) (opening_table is_fair limits capacities bodies 0 dealer) last

  -- the bodies were played as they are dealt, and the run ended so
  pub record IsDrawnOut (dealer : D) (is_fair : Bool) (limits : Limits) (capacities : List ℕ) (bodies : List T) (ended : Ended) : Type 0 where
    pub last : Table T ℕ D
    pub drawn : IsDrawnTo dealer is_fair limits capacities bodies last
    pub ends : EndsSo limits capacities (length bodies) last.core.system.book ended

  -- the bodies were played as they are dealt, and the run came to no outcome
  pub record HasNoDrawnEnd (dealer : D) (is_fair : Bool) (limits : Limits) (capacities : List ℕ) (bodies : List T) : Type 0 where
    pub last : Table T ℕ D
    pub drawn : IsDrawnTo dealer is_fair limits capacities bodies last
    pub none : last.core.system.book.state.outcome ≡ None
