-- The scheduler as a host sees it.
use Rattle.std.specs.Prelude.{◌≡◌, ◌≤◌, ℕ, zero, suc, Bool, List, [], ◌∷◌, ◌++◌, map, Option, None, Some, IfSome, slice_get}
use Rattle.gmp_base.specs.declared.number.GNo.{GNo}
use Rattle.gmp_seq.specs.declared.call.Entry.{Entry}
use Rattle.gmp_seq.specs.declared.call.Limits.{Limits}
use Rattle.gmp_seq.specs.State.{main}
use Rattle.gmp_history.specs.Brief.{HistoryContents}
use Rattle.gmp_acts.specs.Headline.{opening_system}
use Rattle.gmp_core.specs.Whole.{IsWhole, Whole}

-- the core, whose bodies are the goroutines' own numbers, and the entries that were handed out last
pub record Standing : Type 0 where
  pub core : Whole GNo
  pub piece : List Entry

-- the numbers of so many goroutines
abbrev pub numbers : ℕ → List GNo
numbers zero = []
numbers (suc n) = numbers n ++ record { 0 = n } ∷ []

-- no act was made yet, and main is on the shelf; all machines are fair, or none is; there is one run, number 0
abbrev pub opening_standing : Bool → Limits → ℕ → List ℕ → Standing
opening_standing is_fair limits goroutines capacities = record {
  core = record { system = opening_system is_fair 0 limits goroutines capacities; stock = map Some (numbers goroutines); shelf = main ∷ [] };
  piece = [];
}

-- the body of each goroutine is its number
abbrev pub IsNumbered : List (Option GNo) → Type 0
IsNumbered stock = (g : ℕ) (body : GNo) → slice_get stock g ≡ Some (Some body) → body.0 ≡ g

-- the entries of a piece, if one was handed out
abbrev pub piece_of : Option HistoryContents → List Entry
piece_of None = []
piece_of (Some piece) = piece.list

-- What is kept beside the core is what it was opened with, and a piece has room for the next one. While there is none no entry was handed out.
pub record IsStanding (limits : Limits) (goroutines : ℕ) (capacities : List ℕ) (piece : Option HistoryContents) (k : Whole GNo) : Type 0 where
  pub numbered : IsNumbered k.stock
  pub limits_are : k.system.book.limits ≡ limits
  pub bodies_are : k.system.book.bodies ≡ goroutines
  pub capacities_are : k.system.book.capacities ≡ capacities
  pub roomy : IfSome piece (λ (x : HistoryContents). limits.room ≤ x.lasting)
  pub whole : piece ≡ None → IsWhole k.system
