-- Where the column of an entry begins.
use Rattle.std.specs.Prelude.{ℕ, ◌+◌, ◌-◌, ◌*◌, ◌^◌, min}

-- the greatest number of 64 bits is the end of all sums
abbrev pub capped : ℕ → ℕ
capped n = min n (2 ^ 64 - 1)

-- as many columns right of left as entries from the first one to this, and not beyond the last
unfoldable pub position : (left column from to number : ℕ) → ℕ
position left column from to number = capped (left + capped (column * min (number - from) (to - from)))
