-- The whole wait of a ticket, from the moment on when its goroutine is ready until it is claimed: in lines, and in hands between them.
use Rattle.std.specs.Prelude.{◌≡◌, ℕ, ◌+◌, ◌-◌, nat_le, List, [], ◌∷◌, None, sum_by, if◌then◌else◌}
use Rattle.gmp_base.specs.declared.number.GNo.{GNo}
use Rattle.gmp_base.specs.declared.number.MNo.{MNo}
use Rattle.gmp_base.specs.declared.number.Readiness.{Readiness}
use Rattle.gmp_acts.specs.declared.choice.Choice.{Choice}
use Rattle.gmp_acts.specs.Acts.{Acts}
use Rattle.gmp_acts.specs.System.{System, in_queue, on_shelf, readied}
use Rattle.gmp_fair.specs.Fair.{InTurn, Lists, claims_of}

-- in how many lines a ticket stands: the shelf, and the local queues
abbrev pub lines_of : Readiness → System → ℕ
lines_of r k = on_shelf r k.book.state.table + sum_by (in_queue r) k.queues

-- how many tickets machine m claims by an act, while ticket r stands in a line
abbrev pub claimed_past : MNo → Readiness → System → System → ℕ
claimed_past m r k k' = if nat_le 1 (lines_of r k) then claims_of k' m - claims_of k m else 0

-- the run lasts, the ticket's goroutine is ready by it, and the line is the shelf
pub record IsWaiting (r : Readiness) (line : List GNo) (k : System) : Type 0 where
  pub lasts : k.book.state.outcome ≡ None
  pub ready : readied r k.book.state.table ≡ 1
  pub shelf : Lists line k

-- acts in a row, while the ticket waits, and the shelf is first in, first out; so many tickets machine m claims while it stands in lines
abbrev pub Waits : MNo → Readiness → List GNo → System → List (MNo × Choice) → ℕ → System → Type 0
Waits m r line k [] count k' = IsWaiting r line k × (count ≡ 0) × (k' ≡ k)
Waits m r line k (move ∷ moves) count k' =
    IsWaiting r line k × (mid : System) × (next : List GNo) × (rest : ℕ) × Acts k move.0 move.1 mid × InTurn line next
    × (count ≡ claimed_past m r k mid + rest) × Waits m r next mid moves rest k'
