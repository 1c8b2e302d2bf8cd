-- How far a walk comes, and what its listener hears.
use Rattle.std.specs.Prelude.{◌≡◌, ◌⊎◌, ℕ, Some, List, [], ◌∷◌, length, slice_get, take}
use Rattle.gmp_seq.specs.declared.call.Entry.{Entry}
use Rattle.gmp_seq.specs.declared.call.Limits.{Limits}
use Rattle.gmp_seq.specs.declared.status.Goroutine.{Goroutine}
use Rattle.gmp_seq.specs.Run.{IsStep, Run}
use Rattle.gmp_seq.specs.State.{State}
use Rattle.gmp_trace.specs.Text.{Content}
use Rattle.gmp_check.specs.Checked.{start_of}

-- no step follows by entry n
pub record IsStuckAt (limits : Limits) (h : List Entry) (n : ℕ) (s : State) : Type 0 where
  pub entry : Entry
  pub there : slice_get h n ≡ Some entry
  pub no_step : (new : State) → IsStep limits entry s new → ⊥

-- the first n entries lead from start to s; they are all, or no step follows by the next
pub record IsLed (limits : Limits) (start : State) (h : List Entry) (n : ℕ) (s : State) : Type 0 where
  pub led : Run limits start (take n h) s
  pub stops : (n ≡ length h) ⊎ IsStuckAt limits h n s

-- the same of the entries of a trace
abbrev pub IsWalked : Content → ℕ → State → Type 0
IsWalked x n s = IsLed x.limits (start_of x) x.entries n s

module _ {L : Type 0} (hears : L → Entry → List Goroutine → L → Type 0) (limits : Limits) where
  -- Entries that lead from one state to another. The listener hears of each, with what each goroutine does after it, and so becomes another.
  abbrev pub RunsHeard : State → List Entry → State → L → L → Type 0
  RunsHeard old [] new l l' = (new ≡ old) × (l' ≡ l)
  RunsHeard old (e ∷ h) new l l' =
      (mid : State) × (between : L) × IsStep limits e old mid × hears l e mid.table.goroutines between × RunsHeard mid h new between l'
