-- Lists in parts, one part after another.
use Rattle.std.proofs.Common.{◌≡◌, ◌<◌, ◌≤◌, ℕ, zero, suc, ◌+◌, min, Option, None, Some, List, [], ◌∷◌, ◌++◌, length, take, drop, sym, ap, subst, ◌∙◌, arith, append_assoc, inl, inr}
use Rattle.std.proofs.lemmas.Bool.{cases_lt}
use Rattle.std.proofs.lemmas.List.{append-nil, length-append, length-drop, nil_from_length, take_all}
use Rattle.std.proofs.Math.Seq.{take-append_seam, drop-append_seam}
use Rattle.std.specs.List.{flat_map}
use Rattle.std.specs.Option.{option_map_or}
use Rattle.gmp_explain.specs.Lines.{parts_up_to, split_of, words_up_to}

-- the first part
part_first : {A : Type 0} (n : ℕ) (x more : List A) → length x ≡ min n (length (x ++ more)) → (take n (x ++ more) ≡ x) × (drop n (x ++ more) ≡ more)
part_first n x more size =
    let sum = length-append x more in
    elim (cases_lt (length x) n) [
      | inl short ↦
          let none : more ≡ [] = nil_from_length more (omega (arith, size, sum, short)) in
          rw (none, append-nil) (take_all n x (omega (arith, short)), nil_from_length (drop n x) (length-drop n x ∙ omega (arith, short)))
      | inr long ↦
          let whole : length x ≡ n = omega (arith, size, long) in
          rw (sym whole) (take-append_seam x more, drop-append_seam x more)
    ]

parts_next : {A : Type 0} (n k : ℕ) (rest x more : List A) → rest ≡ x ++ more → length x ≡ min n (length rest) → 0 < length rest → 0 < n → length rest ≤ k
    → (j : ℕ) × (length more ≤ j) × (parts_up_to n k rest ≡ x ∷ parts_up_to n j more)
parts_next n k [] x more is size some pos room = absurd (omega (arith, some))
parts_next n zero (r ∷ rest) x more is size some pos room = absurd (omega (arith, some, room))
parts_next {A} n (suc k) (r ∷ rest) x more is size some pos room =
    let first = part_first n x more (subst (λ (l : List A). length x ≡ min n (length l)) is size) in
    let front : take n (r ∷ rest) ≡ x = ap (take n) is ∙ first.0 in
    let back : drop n (r ∷ rest) ≡ more = ap (drop n) is ∙ first.1 in
    let sum : length (r ∷ rest) ≡ length x + length more = ap length is ∙ length-append x more in
    (k, omega (arith, sum, size, some, pos, room), ap (λ (l : List A). l ∷ parts_up_to n k (drop n (r ∷ rest))) front ∙ ap (λ (l : List A). x ∷ parts_up_to n k l) back)

-- one part more was added
pub parts_added : {A : Type 0} (f : List A → List ℕ) (n k : ℕ) (rest x more : List A) (old new whole : List ℕ) → rest ≡ x ++ more → length x ≡ min n (length rest) → 0 < length rest → 0 < n → length rest ≤ k
    → new ≡ old ++ f x → old ++ flat_map f (parts_up_to n k rest) ≡ whole → (j : ℕ) × (length more ≤ j) × (new ++ flat_map f (parts_up_to n j more) ≡ whole)
parts_added {A} f n k rest x more old new whole is size some pos room adds so_far =
    let next = parts_next n k rest x more is size some pos room in (
      next.0,
      next.1,
      ap (λ (l : List ℕ). l ++ flat_map f (parts_up_to n next.0 more)) adds ∙ append_assoc old (f x) _
          ∙ ap (λ (l : List (List A)). old ++ flat_map f l) (sym next.2) ∙ so_far,
    )

-- no part is left
pub parts_done : {A : Type 0} (f : List A → List ℕ) (n k : ℕ) (rest : List A) (text whole : List ℕ) → length rest ≡ 0 → text ++ flat_map f (parts_up_to n k rest) ≡ whole → text ≡ whole
parts_done f n zero [] text whole none so_far = sym (append-nil text) ∙ so_far
parts_done f n (suc k) [] text whole none so_far = sym (append-nil text) ∙ so_far
parts_done f n k (r ∷ rest) text whole none so_far = absurd (omega (arith, none))

-- some words more were added
pub words_added : (f : List ℕ → List ℕ) (k : ℕ) (rest words more old new whole : List ℕ) → split_of rest ≡ Some (words, more) → length more < length rest → length rest ≤ k
    → new ≡ old ++ f words → old ++ flat_map f (words_up_to k rest) ≡ whole → (j : ℕ) × (length more ≤ j) × (new ++ flat_map f (words_up_to j more) ≡ whole)
words_added f zero rest words more old new whole is less room adds so_far = absurd (omega (arith, less, room))
words_added f (suc k) rest words more old new whole is less room adds so_far =
    let next : words_up_to (suc k) rest ≡ words ∷ words_up_to k more = ap (λ (o : Option (List ℕ × List ℕ)). option_map_or (λ s. s.0 ∷ words_up_to k s.1) o (rest ∷ [])) is in (
      k,
      omega (arith, less, room),
      ap (λ (l : List ℕ). l ++ flat_map f (words_up_to k more)) adds ∙ append_assoc old (f words) _ ∙ ap (λ (l : List (List ℕ)). old ++ flat_map f l) (sym next) ∙ so_far,
    )

-- the last words
pub words_done : (f : List ℕ → List ℕ) (k : ℕ) (rest old new whole : List ℕ) → split_of rest ≡ None → new ≡ old ++ f rest → old ++ flat_map f (words_up_to k rest) ≡ whole → new ≡ whole
words_done f zero rest old new whole none adds so_far = adds ∙ ap (λ (l : List ℕ). old ++ l) (sym (append-nil (f rest))) ∙ so_far
words_done f (suc k) rest old new whole none adds so_far =
    let last : words_up_to (suc k) rest ≡ rest ∷ [] = ap (λ (o : Option (List ℕ × List ℕ)). option_map_or (λ s. s.0 ∷ words_up_to k s.1) o (rest ∷ [])) none in
    adds ∙ ap (λ (l : List ℕ). old ++ l) (sym (append-nil (f rest))) ∙ ap (λ (l : List (List ℕ)). old ++ flat_map f l) (sym last) ∙ so_far
