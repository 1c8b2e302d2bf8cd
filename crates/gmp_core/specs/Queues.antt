-- The local queues, as a contract sees them.
use Rattle.std.specs.Prelude.{◌≡◌, ◌≤◌, ℕ, length, List, [], ◌∷◌, Option, None, Some, slice_set}
use Rattle.gmp_base.specs.declared.number.PNo.{PNo}
use Rattle.gmp_base.specs.declared.number.Readiness.{Readiness}
use Rattle.circular_buffer.specs.Buffer.{Buffer}

-- a list of tickets for each processor, and for how many each has room
pub record Rings : Type 0 where
  pub queues : List (List Readiness)
  pub room : ℕ

-- The first of this queue, that of processor p, is taken, and the rest stays. If there is none nothing changes.
abbrev pub Pops : List (List Readiness) → PNo → List Readiness → Option Readiness → List (List Readiness) → Type 0
Pops queues p [] result queues' = (result ≡ None) × (queues' ≡ queues)
Pops queues p (r ∷ rest) result queues' = (result ≡ Some r) × (queues' ≡ slice_set queues p.0 rest)

-- a ring that has room for so many, and no more in it
abbrev pub HasRoom : ℕ → Buffer Readiness → Type 0
HasRoom room b = (room ≤ b.capacity) × (length b.items ≤ room)
