-- What stands on the lanes of goroutines.
use Rattle.std.specs.Prelude.{◌≡◌, ◌<◌, ◌^◌, ◌==◌, ◌&&◌, ℕ, Bool, true, false, Option, None, Some, List, get_or, slice_get}
use Rattle.gmp_seq.specs.declared.status.Goroutine.{Goroutine}
use Rattle.gmp_seq.specs.declared.status.Status.{Status}
use Rattle.gmp_seq.specs.declared.status.Status.TheVariants as status
use Rattle.gmp_lanes.specs.declared.spans.Doing.{Doing}
use Rattle.gmp_lanes.specs.declared.spans.Doing.TheVariants as doing
use Rattle.gmp_lanes.specs.declared.spans.Span.{Span}

-- goroutine g, which is not over, does this
abbrev pub does : ℕ → Doing → Status → Bool
does g doing.Ready (status.Ready place answer) = true
does g (doing.Runs h m) (status.Running n) = h.0 == g && m.0 == n.0
does g (doing.Calls h m) (status.Calling n) = h.0 == g && m.0 == n.0
does g (doing.Waits reason) (status.Waiting w) = true
does _ _ _ = false

-- it has no lane: it never started, or ended
abbrev pub is_out : Status → Bool
is_out status.Dormant = true
is_out status.Dead = true
is_out _ = false

-- what stands open is of this goroutine's lane, and what it does
abbrev pub shows : ℕ → Option Span → Status → Bool
shows g None s = is_out s
shows g (Some span) s = span.lane == g && does g span.doing s

-- so it is on the lanes of all goroutines below this number
abbrev pub AreShown : List (Option Span) → List Goroutine → ℕ → Type 0
AreShown spans rows n =
    (g : ℕ) → g < n → g < 2 ^ 16 → (row : Goroutine) → slice_get rows g ≡ Some row → shows g (get_or spans g None) row.status ≡ true
