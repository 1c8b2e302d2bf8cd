-- Values that machines have in hand, and those in their places.
use Rattle.std.proofs.Common.{◌≡◌, ◌≢◌, ◌⊎◌, inl, inr, ℕ, ◌<◌, zero, suc, true, false, List, [], ◌∷◌, map, length, get_or, set, refl, sym, ap, ◌∙◌, subst, Option, Some, None, IsSome}
use Rattle.std.specs.List.{range_with_len, slice_get}
use Rattle.std.proofs.lemmas.Option.{slice_get-get_or, unwrap_or-slice_get}
use Rattle.std.specs.Prelude.{unwrap_or}
use Rattle.gmp_driver.specs.Registers.{first_of}
use Rattle.gmp_seq.proofs.Epochs.{at_set}
use Rattle.gmp_turn.specs.Values.{AreOut, KeepsValues}
use Rattle.gmp_core.specs.Whole.{first_with, values_of}

pub none_or_some : {X : Type 0} (o : Option X) → (o ≡ None) ⊎ IsSome o
none_or_some None = inl refl
none_or_some (Some x) = inr refl

pub no_some : {X : Type 0} (o : Option X) → o ≡ None → IsSome o → ⊥
no_some None e h = (let no : false ≡ true = h in cc)
no_some (Some x) e h = (let no : Some x ≡ None = e in cc)

first_or_none : {X : Type 0} (o : Option X) → first_of o None ≡ o
first_or_none None = refl
first_or_none (Some x) = refl

module _ {M X : Type 0} (f : M → Option X) where
  -- a machine that has the same in hand
  pub first_same : (ms : List M) (m : ℕ) (x x' : M) → slice_get ms m ≡ Some x → f x' ≡ f x → first_with f (set ms m x') ≡ first_with f ms
  first_same [] m x x' is same = absurd (let no : None ≡ Some x = is in cc)
  first_same (y ∷ ys) zero x x' is same = (let its : Some y ≡ Some x = is in let e : y ≡ x = cc in ap (λ (o : Option X). first_of o (first_with f ys)) (same ∙ ap f (sym e)))
  first_same (y ∷ ys) (suc m) x x' is same = ap (first_of (f y)) (first_same ys m x x' is same)

  pub none_has : (ms : List M) → ((n : ℕ) (y : M) → slice_get ms n ≡ Some y → f y ≡ None) → first_with f ms ≡ None
  none_has [] none = refl
  none_has (y ∷ ys) none = rw (none 0 y refl) (none_has ys (λ n z is. none (suc n) z is))

  -- the one machine that has it
  pub first_only : (ms : List M) (m : ℕ) (x : M) → slice_get ms m ≡ Some x → ((n : ℕ) (y : M) → n ≢ m → slice_get ms n ≡ Some y → f y ≡ None) → first_with f ms ≡ f x
  first_only [] m x is others = absurd (let no : None ≡ Some x = is in cc)
  first_only (y ∷ ys) zero x is others =
      let its : Some y ≡ Some x = is in
      let e : y ≡ x = cc in
      rw (none_has ys (λ n z at. others (suc n) z (λ no. absurd (let z : suc n ≡ zero = no in cc)) at)) (first_or_none (f y) ∙ ap f e)
  first_only (y ∷ ys) (suc m) x is others =
      rw (others 0 y (λ no. absurd (let z : zero ≡ suc m = no in cc)) refl) (first_only ys m x is (λ n z ne at. others (suc n) z (λ e. ne (let s : suc n ≡ suc m = e in cc)) at))

-- the element at a number within the list
pub found : {M : Type 0} (xs : List M) (i : ℕ) (x : M) → i < length xs → x ≡ get_or xs i x → slice_get xs i ≡ Some x
found xs i x within is = slice_get-get_or xs i x within ∙ ap Some (sym is)

-- another machine is where it was
pub other_at : {M : Type 0} (ms : List M) (m n : ℕ) (x y : M) → n ≢ m → slice_get (set ms m x) n ≡ Some y → slice_get ms n ≡ Some y
other_at ms m n x y ne is = at_set (λ o. o ≡ Some y → slice_get ms n ≡ Some y) ms m n x (λ e. absurd (ne (sym e))) (λ e. e) is

-- and so it is afterwards
pub other_set : {M : Type 0} (ms : List M) (m n : ℕ) (x y : M) → n ≢ m → slice_get ms n ≡ Some y → slice_get (set ms m x) n ≡ Some y
other_set ms m n x y ne is = at_set (λ o. o ≡ Some y) ms m n x (λ e. absurd (ne (sym e))) is

pub same_at : {M : Type 0} (ms : List M) (m : ℕ) (x y : M) → slice_get ms m ≡ Some y → slice_get (set ms m x) m ≡ Some x
same_at [] m x y is = absurd (let no : None ≡ Some y = is in cc)
same_at (z ∷ ms) zero x y is = refl
same_at (z ∷ ms) (suc m) x y is = same_at ms m x y is

pub map_same : {A B : Type 0} (f g : A → B) (xs : List A) → ((a : A) → f a ≡ g a) → map f xs ≡ map g xs
map_same f g [] e = refl
map_same f g (x ∷ xs) e = rw (e x) (ap (λ l. g x ∷ l) (map_same f g xs e))

pub nat_or : (a b : ℕ) → (a ≡ b) ⊎ (a ≢ b)
nat_or zero zero = inl refl
nat_or zero (suc b) = inr (λ e. (let no : zero ≡ suc b = e in cc))
nat_or (suc a) zero = inr (λ e. (let no : suc a ≡ zero = e in cc))
nat_or (suc a) (suc b) = step (nat_or a b) where
  step : (a ≡ b) ⊎ (a ≢ b) → (suc a ≡ suc b) ⊎ (suc a ≢ suc b)
  step (inl e) = inl (ap suc e)
  step (inr ne) = inr (λ e. ne (let s : suc a ≡ suc b = e in cc))

module _ {M X : Type 0} (f : M → ℕ → Option X) (ms : List M) (m : ℕ) (x x' : M) (old now : List (Option X)) (is : slice_get ms m ≡ Some x) (kept : KeepsValues (f x) (f x') old now)
    (apart : (n i : ℕ) (y : M) → n ≢ m → slice_get ms n ≡ Some y → IsSome (f y i) → (f x i ≡ None) × (f x' i ≡ None)) where
  at_place : (i : ℕ) → f x i ≡ None → f x' i ≡ None → get_or now i None ≡ get_or old i None
  at_place i none none' = sym (unwrap_or-slice_get now i None) ∙ ap (λ o. unwrap_or o None) (kept.rest i none none') ∙ unwrap_or-slice_get old i None

  others_none : (i : ℕ) → (IsSome (f x i) ⊎ IsSome (f x' i)) → (n : ℕ) (y : M) → n ≢ m → slice_get ms n ≡ Some y → f y i ≡ None
  others_none i has n y ne at = by (none_or_some (f y i)) has where
    by : (f y i ≡ None) ⊎ IsSome (f y i) → (IsSome (f x i) ⊎ IsSome (f x' i)) → f y i ≡ None
    by (inl none) h = none
    by (inr some) (inl h) = absurd (no_some (f x i) (apart n i y ne at some).0 h)
    by (inr some) (inr h) = absurd (no_some (f x' i) (apart n i y ne at some).1 h)

  abbrev value : List M → List (Option X) → ℕ → Option X
  value l places i = first_of (first_with (λ (y : M). f y i) l) (get_or places i None)

  with_one : (i : ℕ) → (IsSome (f x i) ⊎ IsSome (f x' i)) → value (set ms m x') now i ≡ value ms old i
  with_one i has =
      let none = others_none i has in
      let before : first_with (λ (y : M). f y i) ms ≡ f x i = first_only (λ y. f y i) ms m x is none in
      let after : first_with (λ (y : M). f y i) (set ms m x') ≡ f x' i = first_only (λ y. f y i) (set ms m x') m x' (same_at ms m x' x is) (λ n y ne at. none n y ne (other_at ms m n x' y ne at)) in
      rw (before, after) (kept.same i)

  value_same : (i : ℕ) → value (set ms m x') now i ≡ value ms old i
  value_same i = by (none_or_some (f x i)) (none_or_some (f x' i)) where
    by : (f x i ≡ None) ⊎ IsSome (f x i) → (f x' i ≡ None) ⊎ IsSome (f x' i) → value (set ms m x') now i ≡ value ms old i
    by (inl none) (inl none') = rw (first_same (λ y. f y i) ms m x x' is (none' ∙ sym none), at_place i none none') refl
    by (inr some) _ = with_one i (inl some)
    by _ (inr some) = with_one i (inr some)

  pub stock_same : values_of f (set ms m x') now ≡ values_of f ms old
  stock_same = rw kept.count (map_same _ _ (range_with_len 0 (length old)) value_same)

  pub out_same : ((n : ℕ) (y : M) → slice_get ms n ≡ Some y → AreOut (f y) old) → (n : ℕ) (y : M) → slice_get (set ms m x') n ≡ Some y → AreOut (f y) now
  out_same out n y at = by (nat_or n m) where
    by : (n ≡ m) ⊎ (n ≢ m) → AreOut (f y) now
    by (inl e) = (let same : Some y ≡ Some x' = sym at ∙ ap (slice_get (set ms m x')) e ∙ same_at ms m x' x is in let its : x' ≡ y = cc in subst (λ (z : M). AreOut (f z) now) its kept.out)
    by (inr ne) = λ i some. (let was = other_at ms m n x' y ne at in let none = apart n i y ne was some in kept.rest i none.0 none.1 ∙ out n y was i some)
