-- The first that passes.
use Rattle.std.proofs.Common.{◌≡◌, ◌≤◌, Bool, true, false, cond, Some, None, List, [], ◌∷◌, length, slice_get, filter, refl, arith}
use Rattle.std.specs.List.{find}

-- the first that passes is the first of those that pass
pub find_first : {X : Type 0} (p : X → Bool) (xs : List X) → find p xs ≡ slice_get (filter p xs) 0
find_first p [] = refl
find_first p (x ∷ xs) = by_test (p x) (find_first p xs)
  where
    by_test : (b : Bool) → find p xs ≡ slice_get (filter p xs) 0 → cond b (Some x) (find p xs) ≡ slice_get (cond b (x ∷ filter p xs) (filter p xs)) 0
    by_test true rest = refl
    by_test false rest = rest

pub empty_first : {X : Type 0} (xs : List X) → slice_get xs 0 ≡ None → xs ≡ []
empty_first [] e = refl
empty_first (x ∷ xs) e = absurd cc

pub empty_length : {X : Type 0} (xs : List X) → length xs ≤ 0 → xs ≡ []
empty_length [] h = refl
empty_length (x ∷ xs) h = absurd (omega arith)
