-- Numbers that are written in digits.
use Rattle.std.specs.Prelude.{ℕ, Bool, ◌&&◌, nat_lt, List, length, Option, Some, None, if◌then◌else◌}
use Rattle.std.specs.Str.{all_ascii_digits}
use Rattle.std.specs.Str.Parse.{digits_value}

-- one digit or more, and nothing else, of a number below 2 ^ 64
abbrev pub is_number : List ℕ → Bool
is_number word = nat_lt 0 (length word) && (all_ascii_digits word && nat_lt (digits_value 10 word) 18446744073709551616)

abbrev pub parsed_number : List ℕ → Option ℕ
parsed_number word = (if is_number word then Some (digits_value 10 word) else None)
