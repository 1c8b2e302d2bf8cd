-- Which machines a line names.
use Rattle.std.proofs.Common.{◌≡◌, ◌≢◌, ℕ, suc, ◌+◌, ◌-◌, ◌<◌, ◌≤◌, ◌^◌, ◌==◌, Bool, true, false, if◌then◌else◌, List, [], ◌∷◌, ◌++◌, map, take, drop, length, refl, sym, ap, ap₂, ◌∙◌, append_assoc, arith, decimal}
use Rattle.std.proofs.lemmas.Bool.{eq-eqb, eqb-true, false_from_ne_true}
use Rattle.std.proofs.lemmas.List.{length-map}
use Rattle.std.proofs.lemmas.List.Folds.{list_any-append}
use Rattle.std.specs.List.{range_with_len}
use Rattle.gmp_trace.specs.Pieces.{piece_text}
use Rattle.gmp_trace.specs.Guess.{number_read, words_on}
use Rattle.gmp_trace.proofs.Lexing.{are_plain, is_plain}
use Rattle.gmp_trace.proofs.Numbers.{number_again}
use Rattle.gmp_trace.proofs.WordRows.{decimal_plain}
use Rattle.gmp_trace.specs.StartGuess.{flags_read, named}
use Rattle.gmp_trace.specs.StartText.{member_piece, members, members_text}
use Rattle.gmp_trace.proofs.Lines.{guessed_line}

abbrev texts : ℕ → List Bool → List (List ℕ)
texts k xs = map piece_text (map member_piece (members k xs))

texts_next : (k : ℕ) (x : Bool) (xs : List Bool) → texts k (x ∷ xs) ≡ (if x then decimal k ∷ [] else []) ++ texts (k + 1) xs
texts_next k true xs = refl
texts_next k false xs = refl

named_one : (k m : ℕ) → k < 2 ^ 64 → k ≢ m → named (decimal k ∷ []) m ≡ false
named_one k m small other =
    rw (number_again k small, false_from_ne_true (k == m) (λ e. other (eqb-true k m e))) refl

named_self : (k : ℕ) → k < 2 ^ 64 → named (decimal k ∷ []) k ≡ true
named_self k small = rw (number_again k small, eq-eqb k k refl) refl

-- those from k on don't name a lesser one
none_below : (xs : List Bool) (k m : ℕ) → m < k → k + length xs ≤ 256 → named (texts k xs) m ≡ false
none_below [] k m less few = refl
none_below (x ∷ xs) k m less few = rw (texts_next k x xs) (by x (none_below xs (k + 1) m (omega (arith, less)) (omega (arith, few)))) where
  by : (b : Bool) → named (texts (k + 1) xs) m ≡ false → named ((if b then decimal k ∷ [] else []) ++ texts (k + 1) xs) m ≡ false
  by false rest = rest
  by true rest = list_any-append (λ (w : List ℕ). number_read w == m) (decimal k ∷ []) (texts (k + 1) xs) ∙ rw (named_one k m (omega (arith, few)) (λ e. omega (arith, e, less)), rest) refl

flags_again : (xs : List Bool) (k : ℕ) (before : List (List ℕ)) → ((m : ℕ) → k ≤ m → named before m ≡ false) → k + length xs ≤ 256
    → map (named (before ++ texts k xs)) (range_with_len k (length xs)) ≡ xs
flags_again [] k before none few = refl
flags_again (x ∷ xs) k before none few =
    ap₂ (λ (b : Bool) (bs : List Bool). b ∷ bs) head
    (ap (λ (ws : List (List ℕ)). map (named ws) (range_with_len (k + 1) (length xs))) regrouped
    ∙ flags_again xs (k + 1) (before ++ (if x then decimal k ∷ [] else [])) still (omega (arith, few)))
  where
    regrouped : before ++ texts k (x ∷ xs) ≡ (before ++ (if x then decimal k ∷ [] else [])) ++ texts (k + 1) xs
    regrouped = ap (λ (ws : List (List ℕ)). before ++ ws) (texts_next k x xs) ∙ sym (append_assoc before (if x then decimal k ∷ [] else []) (texts (k + 1) xs))

    here_only : (b : Bool) (m : ℕ) → k + 1 ≤ m → named (if b then decimal k ∷ [] else []) m ≡ false
    here_only false m less = refl
    here_only true m less = named_one k m (omega (arith, few)) (λ e. omega (arith, e, less))

    still : (m : ℕ) → k + 1 ≤ m → named (before ++ (if x then decimal k ∷ [] else [])) m ≡ false
    still m less =
        list_any-append (λ (w : List ℕ). number_read w == m) before (if x then decimal k ∷ [] else []) ∙ rw (none m (omega (arith, less)), here_only x m less) refl

    at_here : (b : Bool) → named ((if b then decimal k ∷ [] else []) ++ texts (k + 1) xs) k ≡ b
    at_here false = none_below xs (k + 1) k (omega arith) (omega (arith, few))
    at_here true = list_any-append (λ (w : List ℕ). number_read w == k) (decimal k ∷ []) (texts (k + 1) xs) ∙ rw (named_self k (omega (arith, few))) refl

    head : named (before ++ texts k (x ∷ xs)) k ≡ x
    head =
        list_any-append (λ (w : List ℕ). number_read w == k) before (texts k (x ∷ xs))
        ∙ rw (none k (omega arith)) (ap (λ (ws : List (List ℕ)). named ws k) (texts_next k x xs) ∙ at_here x)

members_few : (xs : List Bool) (k : ℕ) → length (members k xs) ≤ length xs
members_few [] k = omega arith
members_few (true ∷ xs) k = omega (arith, members_few xs (k + 1))
members_few (false ∷ xs) k = omega (arith, members_few xs (k + 1))

members_plain : (xs : List Bool) (k : ℕ) → k + length xs ≤ 256 → are_plain (map member_piece (members k xs)) ≡ true
members_plain [] k few = refl
members_plain (true ∷ xs) k few = rw (decimal_plain k (omega (arith, few)), members_plain xs (k + 1) (omega (arith, few))) refl
members_plain (false ∷ xs) k few = members_plain xs (k + 1) (omega (arith, few))

pub guessed_members : (name text written : List ℕ) (words : List (List ℕ)) (machines : ℕ) (guess xs : List Bool) (more : List ℕ)
    → is_plain name ≡ true → words ≡ take 4110 (words_on [] text) → guess ≡ flags_read machines (drop 1 words) → written ≡ members_text name guess
    → machines ≤ 256 → length xs ≡ machines → text ≡ members_text name xs ++ more
    → (guess ≡ xs) × (text ≡ written ++ more)
unfolding members_text
guessed_members name text written words machines guess xs more plain split is_guess is_written few size is =
    guessed_line name (λ (ys : List Bool). map member_piece (members 0 ys)) (λ ws. flags_read machines (drop 1 ws)) text written words guess xs more plain split is_guess is_written
    (members_plain xs 0 (omega (arith, few, size))) (omega (arith, length-map (members 0 xs) member_piece, members_few xs 0, few, size))
    (ap (λ (n : ℕ). flags_read n (texts 0 xs)) (sym size) ∙ flags_again xs 0 [] (λ m le. refl) (omega (arith, few, size))) is

-- one machine further
pub flags_next : (ws : List (List ℕ)) (list : List Bool) (m machines : ℕ) → m < machines
    → (list ++ named ws m ∷ []) ++ map (named ws) (range_with_len (m + 1) (machines - (m + 1))) ≡ list ++ map (named ws) (range_with_len m (machines - m))
flags_next ws list m machines less =
    let n : machines - m ≡ suc (machines - (m + 1)) = omega arith in
    rw n (append_assoc list (named ws m ∷ []) (map (named ws) (range_with_len (m + 1) (machines - (m + 1)))))
