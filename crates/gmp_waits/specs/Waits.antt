-- Who is not done at the end of a run, and what it waits for.
use Rattle.std.specs.Prelude.{◌≡◌, ℕ, zero, suc, Option, None, Some, List, [], ◌∷◌, ◌++◌, length, map, slice_get}
use Rattle.gmp_seq.specs.declared.call.Entry.{Entry}
use Rattle.gmp_seq.specs.declared.call.Limits.{Limits}
use Rattle.gmp_seq.specs.declared.status.Goroutine.{Goroutine}
use Rattle.gmp_seq.specs.declared.status.Status.{Status}
use Rattle.gmp_seq.specs.declared.status.Status.TheVariants as status
use Rattle.gmp_seq.specs.Run.{IsLegal}
use Rattle.gmp_seq.specs.State.{State}
use Rattle.gmp_waits.specs.declared.ending.Does.{Does}
use Rattle.gmp_waits.specs.declared.ending.Does.TheVariants as does
use Rattle.gmp_waits.specs.declared.ending.Waiting.{Waiting}
use Rattle.gmp_waits.specs.Doing.{doing_text}

-- what a goroutine does, unless it never began or is done
abbrev pub does_so : Status → Option Does
does_so status.Dormant = None
does_so status.Dead = None
does_so (status.Ready place answer) = Some does.Ready
does_so (status.Running m) = Some does.Runs
does_so (status.Calling m) = Some does.Calls
does_so (status.Waiting wait) = Some does.Waits

-- its number, what it does, and that in words
abbrev pub row_so : ℕ → Option Does → List ℕ → List (ℕ × Does × List ℕ)
row_so g None text = []
row_so g (Some does) text = (g, does, text) ∷ []

abbrev pub waits_at : ℕ → Option Goroutine → List (ℕ × Does × List ℕ)
waits_at g None = []
waits_at g (Some row) = row_so g (does_so row.status) (doing_text row.status)

-- those of the goroutines below this number
abbrev pub waits_below : List Goroutine → ℕ → List (ℕ × Does × List ℕ)
waits_below rows zero = []
waits_below rows (suc g) = waits_below rows g ++ waits_at g (slice_get rows g)

-- who is told, and what of it
abbrev pub told : List Waiting → List (ℕ × Does × List ℕ)
told list = map (λ (w : Waiting). (w.goroutine.0, w.does, w.what.bytes.items)) list

-- the history is a legal run, and these are all goroutines that began and are not done where it ends, each with what it does
pub record AreWaiting (limits : Limits) (bodies : ℕ) (capacities : List ℕ) (history : List Entry) (list : List Waiting) : Type 0 where
  pub last : State
  pub legal : IsLegal limits bodies capacities history last
  pub all : told list ≡ waits_below last.table.goroutines (length last.table.goroutines)
