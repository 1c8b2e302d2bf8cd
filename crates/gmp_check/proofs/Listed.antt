-- A list whose elements are changed one after another.
use Rattle.std.proofs.Common.{◌≡◌, ℕ, zero, suc, ◌+◌, ◌<◌, Some, List, [], ◌∷◌, ◌++◌, length, map, take, drop, set, get_or, refl, sym, ap, ◌∙◌, add-one}
use Rattle.std.proofs.lemmas.Option.{slice_get-get_or}
use Rattle.std.specs.List.{slice_get}

-- the element at an index before it is changed
there : {A : Type 0} (f : A → A) (xs : List A) (i : ℕ) → slice_get (map f (take i xs) ++ drop i xs) i ≡ slice_get xs i
there f [] zero = refl
there f [] (suc i) = refl
there f (x ∷ xs) zero = refl
there f (x ∷ xs) (suc i) = there f xs i

-- and the list after
changed : {A : Type 0} (f : A → A) (xs : List A) (i : ℕ) (x : A) → slice_get xs i ≡ Some x
    → set (map f (take i xs) ++ drop i xs) i (f x) ≡ map f (take (suc i) xs) ++ drop (suc i) xs
changed f [] i x is = absurd (cc)
changed f (y ∷ ys) zero x is = let same : y ≡ x = cc in ap (λ z. f z ∷ ys) (sym same)
changed f (y ∷ ys) (suc i) x is = ap (λ zs. f y ∷ zs) (changed f ys i x is)

-- the element that is read there is changed and written
pub changed_at : {A : Type 0} (f : A → A) (xs rows : List A) (i : ℕ) (d y : A) → rows ≡ map f (take i xs) ++ drop i xs → i < length rows
    → y ≡ f (get_or rows i d) → set rows i y ≡ map f (take (i + 1) xs) ++ drop (i + 1) xs
changed_at f xs rows i d y are within is =
    let read : slice_get xs i ≡ Some (get_or rows i d) = sym (there f xs i) ∙ ap (λ zs. slice_get zs i) (sym are) ∙ slice_get-get_or rows i d within in
    rw (is, add-one i) (ap (λ zs. set zs i (f (get_or rows i d))) are ∙ changed f xs i (get_or rows i d) read)
