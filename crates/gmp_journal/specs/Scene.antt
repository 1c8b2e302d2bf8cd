-- What a contract sees of the scheduler's parts.
use Rattle.std.specs.Prelude.{◌≡◌, ◌<◌, ◌^◌}
use Rattle.gmp_base.specs.declared.number.GNo.{GNo}
use Rattle.gmp_seq.specs.State.{State}
use Rattle.gmp_seq.specs.Table.{epoch_at}
use Rattle.gmp_journal.specs.declared.scheduler.Scheduler.{Scheduler}

-- the state that the parts make
abbrev pub scheduler_state : Scheduler → State
scheduler_state s = record { table = s.goroutines.table; channels = s.goroutines.channels; machines = s.machines; counts = s.counts; outcome = s.outcome }

-- no number of the state is near its type's end
pub record IsYoung (s : State) : Type 0 where
  pub epochs : (g : GNo) → epoch_at s.table g < 2 ^ 63
  pub arrivals : s.table.arrivals < 2 ^ 63

-- the counts, the outcome and the sizes stay
pub record KeepsCounts (old new : Scheduler) : Type 0 where
  pub counts : new.counts ≡ old.counts
  pub outcome : new.outcome ≡ old.outcome
  pub limit : new.goroutines.limit ≡ old.goroutines.limit
  pub machines : new.goroutines.machines ≡ old.goroutines.machines
