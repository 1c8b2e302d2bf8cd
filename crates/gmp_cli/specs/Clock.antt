-- What the clock of a machine reads.
use Rattle.std.specs.Prelude.{ℕ, List, Option, drop, max, slice_get, unwrap_or}

-- the readings that are given and not yet spent, and the greatest reading so far, in nanoseconds
pub record ClockState : Type 0 where
  pub ahead : List ℕ
  pub greatest : ℕ

-- before the first reading
abbrev pub unread : List ℕ → ClockState
unread readings = record { ahead = readings; greatest = 0 }

-- the next reading: the first that is ahead; where none is, the greatest so far, or the minded deadline where that is greater
abbrev pub reading : ClockState → Option ℕ → ℕ
reading c minded = unwrap_or (slice_get c.ahead 0) (max c.greatest (unwrap_or minded 0))

-- the clock once it was read
abbrev pub clock_after : ClockState → Option ℕ → ClockState
clock_after c minded = record { ahead = drop 1 c.ahead; greatest = max c.greatest (reading c minded) }
