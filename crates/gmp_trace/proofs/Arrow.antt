-- One word further on the way to the arrow.
use Rattle.std.proofs.Common.{◌≡◌, ℕ, ◌+◌, ◌<◌, true, false, List, [], length, get_or, take, drop, refl, codes, drop-cons, add-one}
use Rattle.std.proofs.Math.Seq.{take-suc}
use Rattle.std.specs.Str.{bytes_eq}
use Rattle.gmp_trace.specs.Guess.{sides_on}

pub arrow_here : (front words : List (List ℕ)) (i : ℕ) → i < length words → bytes_eq (get_or words i []) (codes "->") ≡ true
    → sides_on front (drop i words) ≡ (front, drop (i + 1) words)
arrow_here front words i lt is = rw (add-one, drop-cons words i [] lt, is) refl

pub arrow_later : (words : List (List ℕ)) (i : ℕ) → i < length words → bytes_eq (get_or words i []) (codes "->") ≡ false
    → sides_on (take (i + 1) words) (drop (i + 1) words) ≡ sides_on (take i words) (drop i words)
arrow_later words i lt other = rw (add-one, take-suc words i [] lt, drop-cons words i [] lt, other) refl
