-- What was said so far, and where the goroutines stand to it that machines have in hand, or the book.
use Rattle.std.specs.Prelude.{◌≡◌, ℕ, Bool, List, Option, Some, slice_get}
use Rattle.gmp_seq.specs.declared.call.Entry.{Entry}
use Rattle.gmp_journal.specs.Log.{Log, is_over}
use Rattle.gmp_driver.specs.Machine.{Machine}
use Rattle.gmp_acts.specs.System.{called_number, held_number}
use Rattle.gmp_said.specs.Said.{Blocks, IsSaid, Resumes, Speaker}
use Rattle.gmp_said.specs.Standing.{AreInside, HandStands, Owns}
use Rattle.gmp_run.specs.Boards.{AreLed, IsOn}
use Rattle.gmp_run.specs.Trails.{AreMade}

module _ {T : Type 0} (resumes : Resumes T) (blocks : Blocks T) (given : List T) where
  -- The history is what the bodies said that were given. As machines left the lock, each goroutine in hand stands to that, and each body that is
  -- in its place in the book; and the machine that has a goroutine in hand is the one that runs it, by the log's state.
  pub record AreHeard {Q : Type 0} (machines : ℕ) (log : Log) (board : List (Machine T Q)) (places : List (Option T)) (h : List Entry) : Type 0 where
    pub speakers : List (Speaker T)
    pub said : IsSaid resumes blocks log.limits log.capacities given h log.state speakers
    pub inside : AreInside resumes blocks (is_over log) log.state.table speakers places
    pub in_hand : (at : ℕ) (x : Machine T Q) → slice_get board at ≡ Some x → HandStands resumes blocks speakers x.place x.hand
    pub owns : (m : ℕ) (x : Machine T Q) → IsOn machines board m x → Owns (is_over log) log.state.table (record { 0 = m }) (held_number x.hand.held) (called_number x.hand.called)

  -- So it is of all bodies, each in its place.
  pub record AreHeardLast (log : Log) (places : List (Option T)) (h : List Entry) : Type 0 where
    pub speakers : List (Speaker T)
    pub said : IsSaid resumes blocks log.limits log.capacities given h log.state speakers
    pub inside : AreInside resumes blocks (is_over log) log.state.table speakers places

  -- the machines on the board made the history, and the bodies said it
  abbrev pub AreAccounted : {Q : Type 0} → ℕ → ℕ → Bool → Log → List (Machine T Q) → List (Option T) → List Entry → Type 0
  AreAccounted machines run is_fair log board places h = AreLed machines run is_fair log board h × ∥ AreHeard machines log board places h ∥₁

  -- so many machines made it, and the bodies said it
  abbrev pub AreAccountedLast : ℕ → ℕ → Bool → Log → List (Option T) → List Entry → Type 0
  AreAccountedLast machines run is_fair log places h = AreMade machines run is_fair log.limits log.bodies log.capacities log.state h × ∥ AreHeardLast log places h ∥₁
