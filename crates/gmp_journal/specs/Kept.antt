-- What the parts of a journal keep.
use Rattle.std.specs.Prelude.{◌≡◌, ℕ, ◌+◌, ◌<◌, ◌≤◌, [], None, Some, false, length}
use Rattle.gmp_seq.specs.declared.call.Limits.{Limits}
use Rattle.gmp_seq.specs.State.{State}
use Rattle.gmp_journal.specs.Log.{Log, entries_made, is_over}
use Rattle.gmp_journal.specs.Segments.{IsPart}
use Rattle.gmp_journal.specs.declared.scheduler.Scheduler.{Scheduler}

-- The history is a part of a legal run, of no more entries than one holds at a time, and there is room for as many, now and once all are let go.
-- A state that is kept is the one at which it begins. Where it has no entry, the run lasts, unless entries were handed out since its outcome.
pub record IsJournal (log : Log) (space lasting : ℕ) : Type 0 where
  pub part : IsPart log
  pub few : length log.history ≤ log.limits.room
  pub room : log.limits.room ≤ space
  pub lasts : log.limits.room ≤ lasting
  pub begins : (s : State) → log.begun ≡ Some s → s ≡ part.start
  pub ongoing : log.history ≡ [] → log.closed ≡ false → log.state.outcome ≡ None

-- there may be as many channels, and there are as many machines, as the limits say
pub record IsSized (limits : Limits) (s : Scheduler) : Type 0 where
  pub channels : s.goroutines.limit ≡ limits.channels
  pub machines : s.goroutines.machines ≡ limits.machines

-- So many entries may follow: no more than there is room for, and than the limit leaves, and none where the run is over
pub record IsLeft (log : Log) (left : ℕ) : Type 0 where
  pub room : length log.history + left ≤ log.limits.room
  pub lasts : 0 < left → is_over log ≡ false
  pub fits : 0 < left → entries_made log + left ≤ log.limits.entries
