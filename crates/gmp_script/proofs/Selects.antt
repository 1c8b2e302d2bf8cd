-- Words that name the cases of a select, or write numbers.
use Rattle.std.proofs.Common.{◌≡◌, ℕ, zero, suc, ◌-◌, ◌<◌, ◌≤◌, Bool, true, false, nat_lt, List, [], ◌∷◌, ◌++◌, ◌+◌, length, map, take, codes, Option, Some, None, get_or, slice_get, refl, ap, sym, ◌∙◌, if◌then◌else◌, arith}
use Rattle.std.proofs.lemmas.Grind.{common_steps}
use Rattle.std.proofs.lemmas.List.{length-map, get_or-map, map-append, take-map, take_more}
use Rattle.std.proofs.lemmas.Option.{slice_get-map, slice_get-get_or}
use Rattle.std.proofs.lemmas.Simd.{map-map}
use Rattle.std.specs.Option.{option_map}
use Rattle.std.specs.Str.{bytes_eq}
use Rattle.gmp_base.specs.declared.cases.Case.{Case}
use Rattle.gmp_script.specs.Lines.{all_there, case_of, cases_of, select_of, select_offered, selected, value}

pub all_there-somes : {X : Type 0} (xs : List X) → all_there (map Some xs) ≡ Some xs
all_there-somes [] = refl
all_there-somes (x ∷ xs) = rw (all_there-somes xs) refl

pub all_there-none : {X : Type 0} (xs : List (Option X)) (i : ℕ) → i < length xs → get_or xs i None ≡ None → all_there xs ≡ None
all_there-none [] i h e = absurd (omega (arith, h))
all_there-none (None ∷ xs) i h e = refl
all_there-none (Some x ∷ xs) zero h e = grind arith
all_there-none (Some x ∷ xs) (suc i) h e = rw (all_there-none xs i (omega (arith, h)) e) refl

-- words each of which names something, or not
module _ {W X : Type 0} (text : W → List ℕ) (named : List ℕ → Option X) where
  pub all_named-none : (words : List W) (i : ℕ) (d : W) → i < length words → named (text (get_or words i d)) ≡ None → all_there (map named (map text words)) ≡ None
  all_named-none words i d within none =
      let size : length (map named (map text words)) ≡ length words = length-map (map text words) named ∙ length-map words text in
      let at : get_or (map named (map text words)) i None ≡ None =
      get_or-map named (map text words) i [] None (omega (arith, within, length-map words text)) ∙ (ap named (get_or-map text words i d [] within) ∙ none) in
      all_there-none (map named (map text words)) i (omega (arith, size, within)) at

  pub all_named-somes : (words : List W) (xs : List X) → map Some xs ≡ map (λ w. named (text w)) words → all_there (map named (map text words)) ≡ Some xs
  all_named-somes words xs each = ap all_there (map-map named text words ∙ sym each) ∙ all_there-somes xs

-- one word more that names something
pub somes-push : {W X : Type 0} (named : W → Option X) (words : List W) (xs : List X) (i : ℕ) (x : X) (d : W) → i < length words → named (get_or words i d) ≡ Some x
    → map Some xs ≡ take i (map named words) → map Some (xs ++ x ∷ []) ≡ take (i + 1) (map named words)
somes-push named words xs i x d within e same =
    let size : length (map named words) ≡ length words = length-map words named in
    let at : get_or (map named words) i None ≡ Some x = get_or-map named words i d None within ∙ e in
    map-append Some xs (x ∷ []) ∙ ap (λ l. l ++ Some x ∷ []) same ∙ sym (take_more (map named words) i None (omega (arith, size, within)) ∙ ap (λ y. take i (map named words) ++ y ∷ []) at)

module _ {W : Type 0} (text : W → List ℕ) where
  -- a word that names no case
  pub cases_of-none : (words : List W) (i : ℕ) (d : W) → i < length words → case_of (text (get_or words i d)) ≡ None → cases_of (map text words) ≡ None
  cases_of-none words i d within none = if_none (nat_lt (length (map text words)) 9) (all_named-none text case_of words i d within none)
    where
      if_none : (b : Bool) → all_there (map case_of (map text words)) ≡ None → (if b then all_there (map case_of (map text words)) else None) ≡ None
      if_none true e = e
      if_none false e = refl

  -- each word names one
  pub cases_of-somes : (words : List W) (cases : List Case) → map Some cases ≡ map (λ w. case_of (text w)) words → length cases ≤ 8 → cases_of (map text words) ≡ Some cases
  cases_of-somes words cases named fit =
      let same : map case_of (map text words) ≡ map (λ w. case_of (text w)) words = map-map case_of text words in
      let all : all_there (map case_of (map text words)) ≡ Some cases = all_named-somes text case_of words cases named in
      grind (arith, common_steps)

  word_at : (words : List W) (i : ℕ) (d : W) → i < length words → slice_get (map text words) i ≡ Some (text (get_or words i d))
  word_at words i d within = slice_get-map text words i ∙ ap (option_map text) (slice_get-get_or words i d within)

  pub offered-default : (words : List W) (until : Option ℕ) (d : W) → 0 < length words → bytes_eq (text (get_or words (length words - 1) d)) (codes "default") ≡ true
      → select_offered (map text words) until ≡ select_of (map text (take (length words - 1) words)) true until
  offered-default words until d some is =
      let last = word_at words (length words - 1) d (omega (arith, some)) in
      rw (length-map words text, last, is, take-map text (length words - 1) words) refl

  pub offered-plain : (words : List W) (until : Option ℕ) (d : W) → (0 < length words → bytes_eq (text (get_or words (length words - 1) d)) (codes "default") ≡ false)
      → select_offered (map text words) until ≡ select_of (map text words) false until
  offered-plain [] until d other = refl
  offered-plain (w ∷ words) until d other =
      let all : List W = w ∷ words in
      let last = word_at all (length all - 1) d (omega arith) in
      rw (length-map all text, last, other (omega arith)) refl

  pub selected-until : (words : List W) (moment : ℕ) (d : W) → 2 ≤ length words → bytes_eq (text (get_or words (length words - 2) d)) (codes "until") ≡ true
      → value (text (get_or words (length words - 1) d)) ≡ Some moment → selected (map text words) ≡ select_offered (map text (take (length words - 2) words)) (Some moment)
  selected-until words moment d two is gives =
      let long : nat_lt 1 (length words) ≡ true = grind (arith, two) in
      let before = word_at words (length words - 2) d (omega (arith, two)) in
      let last = word_at words (length words - 1) d (omega (arith, two)) in
      rw (length-map words text, long, before, is, last, gives, take-map text (length words - 2) words) refl

  pub selected-plain : (words : List W) (d : W) → (1 < length words → bytes_eq (text (get_or words (length words - 2) d)) (codes "until") ≡ false)
      → selected (map text words) ≡ select_offered (map text words) None
  selected-plain [] d other = refl
  selected-plain (w ∷ []) d other = refl
  selected-plain (w ∷ v ∷ words) d other =
      let all : List W = w ∷ v ∷ words in
      let long : nat_lt 1 (length all) ≡ true = grind arith in
      let before = word_at all (length all - 2) d (omega arith) in
      rw (length-map all text, long, before, other (omega arith)) refl
