-- Bodies and owners are in the book but for what is held, where one thing changes.
use Rattle.std.proofs.Common.{◌≡◌, ℕ, zero, suc, Bool, true, false, not, Option, None, Some, List, [], ◌∷◌, map, set, slice_get, is_some, refl, sym, ap, ◌∙◌}
use Rattle.gmp_seq.specs.declared.status.Goroutine.{Goroutine}
use Rattle.gmp_book.specs.Slots.{is_filled, is_vacant, all_filled}
use Rattle.gmp_seq.specs.Table.{is_held}

-- a row whose body is in
abbrev pub is_in : Goroutine → Bool
is_in x = not (is_held x.status)

pub set_map : {A B : Type 0} (f : A → B) (xs : List A) (i : ℕ) (x : A) → map f (set xs i x) ≡ set (map f xs) i (f x)
set_map f [] i x = refl
set_map f (y ∷ ys) zero x = refl
set_map f (y ∷ ys) (suc i) x = ap (λ (zs : List _). f y ∷ zs) (set_map f ys i x)

-- a row changes, and keeps its test
pub set_same : {A B : Type 0} (f : A → B) (xs : List A) (i : ℕ) (x y : A) → slice_get xs i ≡ Some x → f x ≡ f y → map f (set xs i y) ≡ map f xs
set_same f [] i x y at same = refl
set_same {B = B} f (z ∷ zs) zero x y at same =
    let e : z ≡ x = cc in
    ap (λ (b : B). b ∷ map f zs) (sym same ∙ ap f (sym e))
set_same {B = B} f (z ∷ zs) (suc i) x y at same = ap (λ (bs : List B). f z ∷ bs) (set_same f zs i x y at same)

-- what the places say where the lists agree
pub filled_at : {X A : Type 0} (f : A → Bool) (slots : List (Option X)) (xs : List A) (i : ℕ) (x : A) → map is_some slots ≡ map f xs → slice_get xs i ≡ Some x → f x ≡ true
    → is_filled slots i ≡ true
filled_at f slots [] i x same at e = absurd cc
filled_at f [] (y ∷ ys) i x same at e = absurd cc
filled_at f (Some s ∷ ss) (y ∷ ys) zero x same at e = refl
filled_at f (None ∷ ss) (y ∷ ys) zero x same at e = absurd (let is : y ≡ x = cc in let no : false ≡ f y = cc in let yes : f y ≡ true = ap f is ∙ e in cc)
filled_at f (s ∷ ss) (y ∷ ys) (suc i) x same at e = filled_at f ss ys i x (let rest : map is_some ss ≡ map f ys = cc in rest) at e

pub vacant_at : {X A : Type 0} (f : A → Bool) (slots : List (Option X)) (xs : List A) (i : ℕ) (x : A) → map is_some slots ≡ map f xs → slice_get xs i ≡ Some x → f x ≡ false
    → is_vacant slots i ≡ true
vacant_at f slots [] i x same at e = absurd cc
vacant_at f [] (y ∷ ys) i x same at e = absurd cc
vacant_at f (None ∷ ss) (y ∷ ys) zero x same at e = refl
vacant_at f (Some s ∷ ss) (y ∷ ys) zero x same at e = absurd (let is : y ≡ x = cc in let no : true ≡ f y = cc in let yes : f y ≡ false = ap f is ∙ e in cc)
vacant_at f (s ∷ ss) (y ∷ ys) (suc i) x same at e = vacant_at f ss ys i x (let rest : map is_some ss ≡ map f ys = cc in rest) at e

-- both change at a place
pub both_set : {X A : Type 0} (f : A → Bool) (slots : List (Option X)) (xs : List A) (i : ℕ) (slot : Option X) (y : A) → map is_some slots ≡ map f xs → is_some slot ≡ f y
    → map is_some (set slots i slot) ≡ map f (set xs i y)
both_set f slots xs i slot y same e = set_map is_some slots i slot ∙ (ap (λ (bs : List Bool). set bs i (is_some slot)) same ∙ (ap (λ (b : Bool). set (map f xs) i b) e ∙ sym (set_map f xs i y)))

-- a row changes, and its body stays where it is
pub row_set : {X A : Type 0} (f : A → Bool) (slots : List (Option X)) (xs : List A) (i : ℕ) (x y : A) → map is_some slots ≡ map f xs → slice_get xs i ≡ Some x → f x ≡ f y
    → map is_some slots ≡ map f (set xs i y)
row_set f slots xs i x y same at e = same ∙ sym (set_same f xs i x y at e)

pub all_filled-map : {X : Type 0} (xs : List X) → all_filled (map Some xs) ≡ true
all_filled-map [] = refl
all_filled-map (x ∷ xs) = all_filled-map xs

pub map-Some : {X : Type 0} (xs ys : List X) → map Some xs ≡ map Some ys → xs ≡ ys
map-Some [] [] e = refl
map-Some [] (y ∷ ys) e = cc
map-Some (x ∷ xs) [] e = cc
map-Some (x ∷ xs) (y ∷ ys) e =
    let first : x ≡ y = cc in
    let rest : map Some xs ≡ map Some ys = cc in
    let rest' = map-Some xs ys rest in
    cc
