-- What the parts of a status table keep.
use Rattle.std.specs.Prelude.{◌≡◌, ℕ, ◌≤◌, ◌==◌, Bool, false, List, length, slice_get, count_by, if◌then◌else◌}
use Rattle.std.specs.Option.{option_map_or}
use Rattle.gmp_base.specs.declared.number.GNo.{GNo}
use Rattle.gmp_seq.specs.declared.status.Goroutine.{Goroutine}
use Rattle.gmp_seq.specs.declared.status.Status.{Status}
use Rattle.gmp_seq.specs.Table.{is_calling, is_shelved, is_ready_or_running}
use Rattle.gmp_table.specs.Contents.{has_deadline}

-- 1 where it holds
abbrev pub tally : Bool → ℕ
tally b = if b then 1 else 0

-- how often the goroutine of this number is in the list
abbrev pub times : ℕ → List GNo → ℕ
times i list = count_by (λ (x : GNo). x.0 == i) list

-- does the status of the goroutine of this number pass the test
abbrev pub passes_at : (Status → Bool) → List Goroutine → ℕ → Bool
passes_at test rows i = option_map_or (λ (x : Goroutine). test x.status) (slice_get rows i) false

-- how many have a status that passes the test
abbrev pub count_status : (Status → Bool) → List Goroutine → ℕ
count_status test rows = count_by (λ (x : Goroutine). test x.status) rows

-- the list has each goroutine whose status passes the test once, and no other
pub record IsListing (test : Status → Bool) (rows : List Goroutine) (list : List GNo) : Type 0 where
  pub all : length list ≡ count_status test rows
  pub each : (i : ℕ) → times i list ≡ tally (passes_at test rows i)

-- as many rows as bodies, and how many of them are ready or running, are calling, wait with a deadline
pub record IsCounted (rows : List Goroutine) (bodies going calling timed : ℕ) : Type 0 where
  pub size : length rows ≡ bodies
  pub going_is : going ≡ count_status is_ready_or_running rows
  pub calling_is : calling ≡ count_status is_calling rows
  pub timed_is : timed ≡ count_status has_deadline rows

-- the shelf lists each goroutine on it once, and has room for all
pub record IsTable (rows : List Goroutine) (shelf : List GNo) (capacity : ℕ) : Type 0 where
  pub listing : IsListing is_shelved rows shelf
  pub room : length rows ≤ capacity
