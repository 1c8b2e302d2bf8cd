-- What a contract sees of a set of small numbers: for each number below its size, whether it is in the set.
use Rattle.std.specs.Prelude.{ℕ, ◌==◌, Bool, List, map}
use Rattle.std.specs.Int.{bit_at}
use Rattle.std.specs.List.{range_with_len}

-- is the bit of each number below the size set
abbrev pub flags : ℕ → ℕ → List Bool
flags bits size = map (λ i. bit_at bits i == 1) (range_with_len 0 size)
