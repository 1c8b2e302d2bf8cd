-- Which case is taken (Go specification, Select statements).
use Rattle.std.specs.Prelude.{ℕ, ◌==◌, ◌%◌, Bool, false, Option, List, filter, length, slice_get}
use Rattle.std.specs.Int.{bit_at}
use Rattle.std.specs.List.{range_with_len}
use Rattle.std.specs.Option.{option_map_or}
use Rattle.gmp_base.specs.declared.cases.Case.{Case}
use Rattle.gmp_seq.specs.declared.status.Waiter.{Waiter}
use Rattle.gmp_seq.specs.Channels.{Channel}
use Rattle.gmp_seq.specs.Waits.{can}

-- is the bit of this number set
abbrev pub is_set : ℕ → ℕ → Bool
is_set bits i = bit_at bits i == 1

-- can the case of this number proceed
abbrev pub case_can : List Channel → List Waiter → List Case → ℕ → Bool
case_can channels all cases i = option_map_or (can channels all) (slice_get cases i) false

-- the numbers below 8 that pass, in order
abbrev pub passing : (ℕ → Bool) → List ℕ
passing test = filter test (range_with_len 0 8)

-- number `word mod r` of the r numbers below 8 that pass, none where none passes
abbrev pub pick : (ℕ → Bool) → ℕ → Option ℕ
pick test word = slice_get (passing test) (word % length (passing test))
