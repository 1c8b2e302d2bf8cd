-- What a history keeps.
use Rattle.std.specs.Prelude.{◌≤◌, ◌<◌, ◌+◌, ◌^◌, ℕ, List, length, All}
use Rattle.gmp_history.specs.declared.brief.Choosing.{Choosing}
use Rattle.gmp_history.specs.declared.brief.Row.{Row}
use Rattle.gmp_history.specs.declared.brief.Served.{Served}
use Rattle.gmp_history.specs.Brief.{IsIn}

-- What rows name is there, and each row names one choosing and one sender at most. Where there is room for so many entries, each of those to
-- come has room for its row, for a choosing and for a sender; and what room lasts is there for each of the three, whatever the entries are.
pub record IsHistory (rows : List Row) (choosings : List Choosing) (served : List Served) (room lasting : ℕ) (space space' space'' : ℕ) : Type 0 where
  pub named : All (IsIn (length choosings) (length served)) rows
  pub few : length rows < 2 ^ 32
  pub few_choosings : length choosings ≤ length rows
  pub few_served : length served ≤ length rows
  pub lasts : lasting ≤ room
  pub choosings_last : lasting ≤ space'
  pub served_last : lasting ≤ space''
  pub rows_room : room ≤ space
  pub choosings_room : room + length choosings ≤ space' + length rows
  pub served_room : room + length served ≤ space'' + length rows
