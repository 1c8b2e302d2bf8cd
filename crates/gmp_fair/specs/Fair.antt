-- Bounded bypass: how many tickets one machine may claim while another ticket waits, where all machines are fair.
use Rattle.std.specs.Prelude.{◌≡◌, ◌⊎◌, ℕ, ◌==◌, ◌&&◌, ◌<◌, ◌≤◌, Bool, true, false, List, [], ◌∷◌, ◌++◌, Option, None, Some, count_by, is_some, length, slice_get}
use Rattle.gmp_base.specs.declared.number.GNo.{GNo}
use Rattle.gmp_base.specs.declared.number.MNo.{MNo}
use Rattle.gmp_base.specs.declared.number.PNo.{PNo}
use Rattle.gmp_base.specs.declared.number.Readiness.{Readiness}
use Rattle.gmp_seq.specs.declared.call.Call.{Call}
use Rattle.gmp_seq.specs.declared.call.Call.TheVariants as call
use Rattle.gmp_seq.specs.declared.call.Entry.{Entry}
use Rattle.gmp_seq.specs.Table.{is_shelved}
use Rattle.gmp_table.specs.Kept.{IsListing}
use Rattle.gmp_driver.specs.declared.place.Aside.{Aside}
use Rattle.gmp_driver.specs.declared.place.Aside.TheVariants as aside
use Rattle.gmp_driver.specs.declared.place.Place.{Place}
use Rattle.gmp_driver.specs.declared.place.Place.TheVariants as place
use Rattle.gmp_driver.specs.Seen.{own_processor}
use Rattle.gmp_acts.specs.declared.choice.Choice.{Choice}
use Rattle.gmp_acts.specs.Acts.{Acts}
use Rattle.gmp_acts.specs.Hands.{PlainMachine}
use Rattle.gmp_acts.specs.System.{System, machine_at, queue_at}

-- Claims

abbrev pub is_claim : Call → Bool
is_claim (call.Claim r) = true
is_claim _ = false

-- machine m claims by this entry
abbrev pub is_claim_by : MNo → Entry → Bool
is_claim_by m e = (e.m.0 == m.0) && is_claim e.call

-- how many tickets machine m claimed so far
abbrev pub claims_of : System → MNo → ℕ
claims_of k m = count_by (is_claim_by m) k.book.history

-- Lines

-- somebody stands in this line behind so many others
abbrev pub IsBehind : {A : Type 0} → ℕ → A → List A → Type 0
IsBehind j x line = slice_get line j ≡ Some x

abbrev pub Stands : {A : Type 0} → A → List A → Type 0
Stands x line = (j : ℕ) × IsBehind j x line

-- a line from one moment to the next, first in, first out: the first left, or some came, last
abbrev pub InTurn : {A : Type 0} → List A → List A → Type 0
InTurn {A = A} old new = ((came : List A) × (new ≡ old ++ came)) ⊎ ((first : A) × (old ≡ first ∷ new))

-- the line has each goroutine on the shelf once, and no other
abbrev pub Lists : List GNo → System → Type 0
Lists line k = IsListing is_shelved k.book.state.table.goroutines line

-- Waits

-- acts in a row, at the beginning of each of which, and at the end, this holds
abbrev pub ActsWhile : (System → Type 0) → System → List (MNo × Choice) → System → Type 0
ActsWhile P k [] k' = P k × (k' ≡ k)
ActsWhile P k (move ∷ moves) k' = P k × (mid : System) × Acts k move.0 move.1 mid × ActsWhile P mid moves k'

-- acts in a row, while the ticket stands in the queue of processor p
abbrev pub WaitsInQueue : PNo → Readiness → System → List (MNo × Choice) → System → Type 0
WaitsInQueue p r k moves k' = ActsWhile (λ (s : System). Stands r (queue_at s p)) k moves k'

-- the same while machine m holds that processor
abbrev pub WaitsAtHome : MNo → PNo → Readiness → System → List (MNo × Choice) → System → Type 0
WaitsAtHome m p r k moves k' = ActsWhile (λ (s : System). Stands r (queue_at s p) × (own_processor (machine_at s m).hand ≡ Some p)) k moves k'

-- acts in a row, while goroutine g stands on the shelf, which is first in, first out
abbrev pub WaitsOnShelf : GNo → List GNo → System → List (MNo × Choice) → System → Type 0
WaitsOnShelf g line k [] k' = Lists line k × Stands g line × (k' ≡ k)
WaitsOnShelf g line k (move ∷ moves) k' =
    Lists line k × Stands g line × (mid : System) × (next : List GNo) × Acts k move.0 move.1 mid × InTurn line next × WaitsOnShelf g next mid moves k'

-- the machine is about to tell the book what the clock shows, while it holds a processor
abbrev pub is_ticking : Place → Bool
is_ticking (place.Ticking now) = true
is_ticking here = false

-- acts in a row, in which machine m makes no tick but where it minds a deadline
abbrev pub TicksNever : MNo → System → List (MNo × Choice) → System → Type 0
TicksNever m k moves k' = ActsWhile (λ (s : System). is_ticking (machine_at s m).place ≡ false) k moves k'

-- What every act keeps

-- the queue that is looked at next is there
abbrev pub IsWithin : ℕ → Option Aside → Type 0
IsWithin procs None = Unit {0}
IsWithin procs (Some (aside.Shelf v)) = v.0 < procs
IsWithin procs (Some (aside.Queue v)) = v.0 < procs

-- places from which a claim may follow before the machine looks aside the next time
abbrev pub leads_to_claim : Place → Bool
leads_to_claim place.Keep = true
leads_to_claim place.Glance = true
leads_to_claim (place.Peek v) = true
leads_to_claim place.Global = true
leads_to_claim place.Spin = true
leads_to_claim (place.Hunt r) = true
leads_to_claim (place.More v goal) = true
leads_to_claim (place.StoreMore v goal) = true
leads_to_claim (place.PutMore v goal) = true
leads_to_claim place.Unspin = true
leads_to_claim place.Claim = true
leads_to_claim place.Have = true
leads_to_claim here = false

-- places at which a machine steals more than the first ticket
abbrev pub steals_more : Place → Bool
steals_more (place.More v goal) = true
steals_more (place.StoreMore v goal) = true
steals_more (place.PutMore v goal) = true
steals_more here = false

-- a fair machine: where a claim may follow, it made fewer than 16 since it looked aside, and it takes one ticket a hunt
pub record IsSteady (x : PlainMachine) : Type 0 where
  pub fair : is_some x.aside ≡ true
  pub within : IsWithin x.procs x.aside
  pub left : leads_to_claim x.place ≡ true → x.turns ≤ 15
  pub single : steals_more x.place ≡ false

abbrev pub AllSteady : System → Type 0
AllSteady k = (m : MNo) → m.0 < length k.machines → IsSteady (machine_at k m)
