-- What a contract sees of the channels and of those who wait on them.
use Rattle.std.specs.Prelude.{ℕ, ◌==◌, not, Bool, List, filter}
use Rattle.gmp_base.specs.declared.number.GNo.{GNo}
use Rattle.gmp_seq.specs.declared.status.Transfer.{Transfer}
use Rattle.gmp_seq.specs.declared.status.Transfer.TheVariants.{Handed, Relayed}
use Rattle.gmp_seq.specs.declared.status.Waiter.{Waiter}
use Rattle.gmp_seq.specs.Channels.{Channel}

-- the channels, how many there may be, who waits on them in order, and how many goroutines there are
pub record ChannelContents : Type 0 where
  pub channels : List Channel
  pub limit : ℕ
  pub waiters : List Waiter
  pub bodies : ℕ

-- those who wait, in order, and how many goroutines and channels there may be
pub record WaiterContents : Type 0 where
  pub list : List Waiter
  pub bodies : ℕ
  pub channels : ℕ

-- it is an offer of goroutine g
abbrev pub is_of : GNo → Waiter → Bool
is_of g w = w.g.0 == g.0

-- all but those of goroutine g
abbrev pub without : GNo → List Waiter → List Waiter
without g all = filter (λ (w : Waiter). not (is_of g w)) all

-- without the waiter that was served
abbrev pub without_served : Transfer → List Waiter → List Waiter
without_served (Handed w) all = without w.g all
without_served (Relayed v w) all = without w.g all
without_served _ all = all
