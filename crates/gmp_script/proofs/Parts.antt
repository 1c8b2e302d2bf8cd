-- The parts of a list to whose end one element comes.
use Rattle.std.proofs.Common.{◌≡◌, ℕ, ◌<◌, ◌-◌, ◌+◌, Bool, true, false, List, [], ◌∷◌, ◌++◌, length, get_or, take, refl, ap, sym, ◌∙◌, inl, inr, slice_set, set, length-set, arith}
use Rattle.std.specs.List.{slice_split, onto_first}
use Rattle.std.proofs.lemmas.Bool.{cases_Bool}
use Rattle.std.proofs.lemmas.List.{take_all, take_more, take_more_set}
use Rattle.std.proofs.lemmas.List.Splits.{slice_split-cons_yes, slice_split-cons_no}

-- the parts, with x at the end of the last one
abbrev pub onto_last : {X : Type 0} → X → List (List X) → List (List X)
onto_last x [] = (x ∷ []) ∷ []
onto_last x (part ∷ []) = (part ++ x ∷ []) ∷ []
onto_last x (part ∷ next ∷ parts) = part ∷ onto_last x (next ∷ parts)

pub onto_last-cons : {X : Type 0} (x : X) (q : List X) (ps : List (List X)) (part : List X) (parts : List (List X)) → ps ≡ part ∷ parts
    → onto_last x (q ∷ ps) ≡ q ∷ onto_last x ps
onto_last-cons x q ps part parts e = rw e refl

pub onto_last-append : {X : Type 0} (x : X) (ps : List (List X)) (q : List X) → onto_last x (ps ++ q ∷ []) ≡ ps ++ (q ++ x ∷ []) ∷ []
onto_last-append x [] q = refl
onto_last-append x (p ∷ []) q = refl
onto_last-append x (p ∷ r ∷ ps) q = ap (λ l. p ∷ l) (onto_last-append x (r ∷ ps) q)

onto_first-onto_last : {X : Type 0} (y x : X) (part : List X) (parts : List (List X))
    → onto_first y (onto_last x (part ∷ parts)) ≡ onto_last x (onto_first y (part ∷ parts))
onto_first-onto_last y x part [] = refl
onto_first-onto_last y x part (q ∷ parts) = refl

first_part : {X : Type 0} (p : X → Bool) (xs : List X) → (part : List X) × (parts : List (List X)) × (slice_split p xs ≡ part ∷ parts)
first_part p [] = ([], [], refl)
first_part p (y ∷ ys) = elim (cases_Bool (p y)) [
  | inl t ↦ ([], slice_split p ys, slice_split-cons_yes p y ys t)
  | inr f ↦ let h = first_part p ys in (y ∷ h.0, h.1, slice_split-cons_no p y ys f ∙ ap (onto_first y) h.2)
]

-- an element at which the list is cut begins a part
pub slice_split-push_yes : {X : Type 0} (p : X → Bool) (xs : List X) (x : X) → p x ≡ true → slice_split p (xs ++ x ∷ []) ≡ slice_split p xs ++ [] ∷ []
slice_split-push_yes p [] x e = slice_split-cons_yes p x [] e
slice_split-push_yes p (y ∷ ys) x e = elim (cases_Bool (p y)) [
  | inl t ↦ slice_split-cons_yes p y (ys ++ x ∷ []) t ∙ ap (λ l. [] ∷ l) (slice_split-push_yes p ys x e)
      ∙ ap (λ l. l ++ [] ∷ []) (sym (slice_split-cons_yes p y ys t))
  | inr f ↦ let h = first_part p ys in
      slice_split-cons_no p y (ys ++ x ∷ []) f ∙ ap (onto_first y) (slice_split-push_yes p ys x e)
      ∙ ap (λ l. onto_first y (l ++ [] ∷ [])) h.2 ∙ ap (λ l. onto_first y l ++ [] ∷ []) (sym h.2)
      ∙ ap (λ l. l ++ [] ∷ []) (sym (slice_split-cons_no p y ys f))
]

-- any other stands at the end of the last part
pub slice_split-push_no : {X : Type 0} (p : X → Bool) (xs : List X) (x : X) → p x ≡ false → slice_split p (xs ++ x ∷ []) ≡ onto_last x (slice_split p xs)
slice_split-push_no p [] x e = slice_split-cons_no p x [] e
slice_split-push_no p (y ∷ ys) x e = elim (cases_Bool (p y)) [
  | inl t ↦ let h = first_part p ys in
      slice_split-cons_yes p y (ys ++ x ∷ []) t ∙ ap (λ l. [] ∷ l) (slice_split-push_no p ys x e)
      ∙ sym (onto_last-cons x [] (slice_split p ys) h.0 h.1 h.2)
      ∙ ap (onto_last x) (sym (slice_split-cons_yes p y ys t))
  | inr f ↦ let h = first_part p ys in
      slice_split-cons_no p y (ys ++ x ∷ []) f ∙ ap (onto_first y) (slice_split-push_no p ys x e)
      ∙ ap (λ l. onto_first y (onto_last x l)) h.2 ∙ onto_first-onto_last y x h.0 h.1
      ∙ ap (λ l. onto_last x (onto_first y l)) (sym h.2)
      ∙ ap (onto_last x) (sym (slice_split-cons_no p y ys f))
]

-- a list, parted before its last element, and that element written
pub last_of : {X : Type 0} (xs : List X) (n : ℕ) (x : X) → 0 < length xs → n ≡ length xs - 1 → x ≡ get_or xs n x → xs ≡ take n xs ++ x ∷ []
last_of xs n x h e g = sym (take_all (n + 1) xs (omega arith)) ∙ take_more xs n x (omega arith) ∙ ap (λ y. take n xs ++ y ∷ []) (sym g)

pub last_set : {X : Type 0} (xs : List X) (n : ℕ) (y : X) → 0 < length xs → n ≡ length xs - 1 → slice_set xs n y ≡ take n xs ++ y ∷ []
last_set {X} xs n y h e = sym (take_all (n + 1) (set xs n y) (omega (arith, length-set {A = X}))) ∙ take_more_set xs n y (omega arith)
