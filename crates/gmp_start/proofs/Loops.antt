-- One element further.
use Rattle.std.proofs.Common.{◌≡◌, ℕ, zero, suc, Some, map, ◌+◌, ◌-◌, ◌<◌, Bool, true, false, List, [], ◌∷◌, length, take, drop, get_or, refl, sym, ap, ◌∙◌, arith, add-one, drop-cons}
use Rattle.std.proofs.lemmas.List.{length-drop, take_all}
use Rattle.std.specs.List.{list_any, slice_get}
use Rattle.gmp_start.specs.Fit.{pairs_apart}

pub next_here : {A : Type 0} (xs : List A) (i : ℕ) (x : A) → i < length xs → x ≡ get_or xs i x → drop i xs ≡ x ∷ drop (i + 1) xs
next_here xs i x lt at = drop-cons xs i x lt ∙ rw (add-one i) (ap (λ y. y ∷ drop (suc i) xs) (sym at))

pub rest_is : {A : Type 0} (xs : List A) (n : ℕ) → take (length xs - n) (drop n xs) ≡ drop n xs
rest_is xs n = take_all (length xs - n) (drop n xs) (omega (arith, length-drop n xs))

pub apart_next : {A : Type 0} (R : A → A → Bool) (xs : List A) (i : ℕ) (x : A) → i < length xs → x ≡ get_or xs i x
    → list_any (R x) (take (length xs - (i + 1)) (drop (i + 1) xs)) ≡ false → pairs_apart R (drop i xs) ≡ pairs_apart R (drop (i + 1) xs)
apart_next R xs i x lt at none =
    let here : list_any (R x) (drop (i + 1) xs) ≡ false = ap (λ l. list_any (R x) l) (sym (rest_is xs (i + 1))) ∙ none in
    rw (next_here xs i x lt at, here) refl

pub apart_stops : {A : Type 0} (R : A → A → Bool) (xs : List A) (i : ℕ) (x : A) → i < length xs → x ≡ get_or xs i x
    → list_any (R x) (take (length xs - (i + 1)) (drop (i + 1) xs)) ≡ true → pairs_apart R (drop i xs) ≡ false
apart_stops R xs i x lt at some =
    let here : list_any (R x) (drop (i + 1) xs) ≡ true = ap (λ l. list_any (R x) l) (sym (rest_is xs (i + 1))) ∙ some in
    rw (next_here xs i x lt at, here) refl

pub same_lists : {A : Type 0} (xs ys : List A) → length xs ≡ length ys → ((k : ℕ) → k < length xs → slice_get xs k ≡ slice_get ys k) → xs ≡ ys
same_lists [] [] e h = refl
same_lists [] (y ∷ ys) e h = absurd (omega (arith, e))
same_lists (x ∷ xs) [] e h = absurd (omega (arith, e))
same_lists (x ∷ xs) (y ∷ ys) e h =
    let first : x ≡ y = let at = h 0 (omega arith) in cc in
    let rest : xs ≡ ys = same_lists xs ys (omega (arith, e)) (λ k lt. h (suc k) (omega (arith, lt))) in
    cc

pub mapped : {A B : Type 0} (f : A → B) (xs : List A) (k : ℕ) (x : A) → k < length xs → x ≡ get_or xs k x → slice_get (map f xs) k ≡ Some (f x)
mapped f [] k x lt at = absurd (omega arith)
mapped f (y ∷ xs) zero x lt at = ap (λ z. Some (f z)) (sym at)
mapped f (y ∷ xs) (suc k) x lt at = mapped f xs k x (omega arith) at

pub apart_next_at : {A : Type 0} (R : A → A → Bool) (xs : List A) (i : ℕ) (d : A) → i < length xs
    → list_any (R (get_or xs i d)) (take (length xs - (i + 1)) (drop (i + 1) xs)) ≡ false → pairs_apart R (drop i xs) ≡ pairs_apart R (drop (i + 1) xs)
apart_next_at R xs i d lt none =
    let here : list_any (R (get_or xs i d)) (drop (i + 1) xs) ≡ false = ap (λ l. list_any (R (get_or xs i d)) l) (sym (rest_is xs (i + 1))) ∙ none in
    let cons : drop i xs ≡ get_or xs i d ∷ drop (i + 1) xs = drop-cons xs i d lt ∙ rw (add-one i) refl in
    rw (cons, here) refl
