-- The deadlines of those who wait, as they are kept.
use Rattle.std.specs.Prelude.{◌≡◌, ℕ, ◌<◌, ◌≤◌, ◌^◌, ◌&&◌, ◌||◌, nat_lt, not, true, false, Bool, Option, None, List, length, AllPairs, Contains, slice_get, ◌↔◌, Some}
use Rattle.std.specs.Option.{option_map, option_map_or}
use Rattle.gmp_base.specs.declared.number.GNo.{GNo}
use Rattle.gmp_seq.specs.declared.status.Goroutine.{Goroutine}
use Rattle.gmp_seq.specs.declared.status.Status.{Status}
use Rattle.gmp_seq.specs.declared.status.Status.TheVariants.{Waiting}
use Rattle.gmp_seq.specs.Table.{is_startable}
use Rattle.gmp_table.specs.Kept.{IsCounted, passes_at}
use Rattle.gmp_table.specs.Waking.{is_before}
use Rattle.gmp_table.specs.declared.deadlines.Deadline.{Deadline}

-- that of a goroutine, by its status
abbrev pub deadline_in : GNo → Status → Option Deadline
deadline_in g (Waiting w) =
    option_map (λ (until : ℕ). let d : Deadline = record { rank = record { moment = until; arrival = w.arrival }; g = g } in d) w.until
deadline_in g _ = None

-- that of a goroutine, by its number
abbrev pub deadline_at : List Goroutine → GNo → Option Deadline
deadline_at rows g = option_map_or (λ (x : Goroutine). deadline_in g x.status) (slice_get rows g.0) None

-- by rank, and then by the goroutine's number
abbrev pub is_sooner : Deadline → Deadline → Bool
is_sooner a b = is_before a.rank b.rank || (not (is_before b.rank a.rank) && nat_lt a.g.0 b.g.0)

-- the latest stands first, and the least last
abbrev pub IsLatestFirst : List Deadline → Type 0
IsLatestFirst list = AllPairs (λ (x y : Deadline). is_sooner y x ≡ true) list

-- the list has each goroutine's deadline, and no other
abbrev pub AreDue : List Goroutine → List Deadline → Type 0
AreDue rows list = (d : Deadline) → Contains list d ↔ (deadline_at rows d.g ≡ Some d)

-- what a contract sees of the deadlines: the list, and how many have room
pub record DueContents : Type 0 where
  pub list : List Deadline
  pub room : ℕ

-- no goroutine below this number is dormant or dead
abbrev pub NoneStartableBelow : ℕ → List Goroutine → Type 0
NoneStartableBelow low rows = (i : ℕ) → i < low → passes_at is_startable rows i ≡ false

-- the rows are few and counted, their deadlines stand in the list, which has room for one of each, and who may be started isn't below low
pub record IsTimed (rows : List Goroutine) (bodies going calling : ℕ) (due : DueContents) (low : ℕ) : Type 0 where
  pub counted : IsCounted rows bodies going calling (length due.list)
  pub each : AreDue rows due.list
  pub room : bodies ≤ due.room
  pub few : bodies < 2 ^ 16
  pub startable : NoneStartableBelow low rows
