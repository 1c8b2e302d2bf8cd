-- A run in turn: the machines act over one book, and what they read comes from their bodies and from outside.
use Rattle.std.specs.Prelude.{◌≡◌, ◌⊎◌, ℕ, zero, suc, ◌+◌, ◌≤◌, Bool, true, false, List, Option, Some, slice_get, slice_set}
use Rattle.gmp_base.specs.declared.ask.Ask.{Ask}
use Rattle.gmp_base.specs.declared.ask.Woke.{Woke}
use Rattle.gmp_base.specs.declared.number.GNo.{GNo}
use Rattle.gmp_base.specs.declared.number.MNo.{MNo}
use Rattle.gmp_acts.specs.declared.choice.Choice.{Choice}
use Rattle.gmp_acts.specs.Acts.{Acts}
use Rattle.gmp_acts.specs.System.{machine_at}
use Rattle.gmp_driver.specs.Machine.{held_at}
use Rattle.gmp_driver.specs.Table.{next_act}
use Rattle.gmp_core.specs.declared.want.Want.{Want}
use Rattle.gmp_core.specs.declared.want.Want.TheVariants as want
use Rattle.gmp_core.specs.Whole.{TakesFixed, Whole, goroutine_in_hand, wanted_by}
use Rattle.gmp_core.specs.Stage.{AreParked, HasTurn, IsOver, Stage}

-- What an act is dealt

-- the body in machine m's hand, told what it waits for, asks so and goes on
pub record Asks {T O : Type 0} (asks : O → T → Woke → Ask → O → T → Type 0) (k : Whole T) (o : O) (m : MNo) (asked : Ask) (stock' : List (Option T)) (o' : O) : Type 0 where
  pub g : GNo
  pub in_hand : goroutine_in_hand k.system m ≡ Some g
  pub before : T
  pub has : slice_get k.stock g.0 ≡ Some (Some before)
  pub told : Woke
  pub holds : held_at (machine_at k.system m).place (machine_at k.system m).hand.held ≡ Some told
  pub after : T
  pub asks_so : asks o before told asked o' after
  pub stock : stock' ≡ slice_set k.stock g.0 (Some after)

-- the blocking call of the body in machine m's hand answers so
pub record AnswersNumber {T O : Type 0} (answers : O → T → ℕ → O → T → Type 0) (k : Whole T) (o : O) (m : MNo) (number : ℕ) (stock' : List (Option T)) (o' : O) : Type 0 where
  pub g : GNo
  pub in_hand : goroutine_in_hand k.system m ≡ Some g
  pub before : T
  pub has : slice_get k.stock g.0 ≡ Some (Some before)
  pub after : T
  pub answers_so : answers o before number o' after
  pub stock : stock' ≡ slice_set k.stock g.0 (Some after)

-- the clock shows so
pub record Shows {T O : Type 0} (shows : O → Option ℕ → ℕ → O → Type 0) (k : Whole T) (o : O) (minded : Option ℕ) (moment : ℕ) (stock' : List (Option T)) (o' : O) : Type 0 where
  pub shows_so : shows o minded moment o'
  pub stock : stock' ≡ k.stock

-- nothing is read
pub record ReadsNothing {T O : Type 0} (k : Whole T) (o : O) (stock' : List (Option T)) (o' : O) : Type 0 where
  pub outside : o' ≡ o
  pub stock : stock' ≡ k.stock

-- every word is this, no push is refused, and no steal loses its race
pub record IsSettled (drawn : ℕ) (choice : Choice) : Type 0 where
  pub word : choice.word ≡ drawn
  pub pushed : choice.push_refused ≡ false
  pub sure : choice.unsure ≡ false

-- By what bodies ask, what their blocking calls answer and what the clock shows.
module _ {T O : Type 0} (asks : O → T → Woke → Ask → O → T → Type 0) (answers : O → T → ℕ → O → T → Type 0) (shows : O → Option ℕ → ℕ → O → Type 0) where
  -- what an act of machine m that wants this is dealt, and what is left of the bodies and outside
  abbrev pub IsDealt : Want → Whole T → O → MNo → Choice → List (Option T) → O → Type 0
  IsDealt want.Ask k o m choice stock' o' = Asks asks k o m choice.ask stock' o'
  IsDealt want.Number k o m choice stock' o' = AnswersNumber answers k o m choice.number stock' o'
  IsDealt (want.Moment minded) k o m choice stock' o' = Shows shows k o minded choice.moment stock' o'
  IsDealt want.Nothing k o m choice stock' o' = ReadsNothing k o stock' o'

  -- one act of the machine whose turn it is
  pub record PlaysOne (word : ℕ) (s s' : Stage T O) : Type 0 where
    pub lasts : ¬ (IsOver s.core.system)
    pub m : MNo
    pub next : HasTurn s.core.system s.turn m
    pub choice : Choice
    pub settled : IsSettled word choice
    pub deals : IsDealt (wanted_by (next_act (machine_at s.core.system m))) s.core s.outside m choice s'.core.stock s'.outside
    pub acts : Acts s.core.system m choice s'.core.system
    -- where the scheduler leaves a choice, it is the one that is fixed: by the word among cases, by who came first on the shelf
    pub fixed : TakesFixed s.core m choice.word s'.core
    pub turn : s'.turn ≡ m.0 + 1

  -- so many acts, one after another
  abbrev pub Plays : ℕ → ℕ → Stage T O → Stage T O → Type 0
  Plays word zero s s' = s' ≡ s
  Plays word (suc n) s s' = (mid : Stage T O) × Plays word n s mid × PlaysOne word mid s'

  -- to the run's end: it is over, or as many acts were made as may be, or no machine is left to act
  pub record IsPlayed (acts word : ℕ) (s s' : Stage T O) : Type 0 where
    pub made : ℕ
    pub few : made ≤ acts
    pub plays : Plays word made s s'
    pub ends : IsOver s'.core.system ⊎ (made ≡ acts) ⊎ AreParked s'.core.system

  -- an act was made, or nothing changed, since it is over or no machine is left to act
  abbrev pub TriesOne : Bool → ℕ → Stage T O → Stage T O → Type 0
  TriesOne true word s s' = PlaysOne word s s'
  TriesOne false word s s' = (s' ≡ s) × (IsOver s.core.system ⊎ AreParked s.core.system)
