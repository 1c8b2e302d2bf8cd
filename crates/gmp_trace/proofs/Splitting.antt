-- One byte further on the way to the words of a line.
use Rattle.std.proofs.Common.{◌≡◌, ℕ, suc, ◌+◌, ◌-◌, ◌<◌, ◌≤◌, ◌==◌, false, List, [], ◌∷◌, ◌++◌, length, get_or, take, drop, refl, sym, ap, ◌∙◌, arith, rules, drop-cons, add-one}
use Rattle.std.proofs.lemmas.List.{length-drop, get_or-drop, drop_all, take_all, take-append-le}
use Rattle.std.proofs.Math.Seq.{take-suc}
use Rattle.gmp_trace.specs.Guess.{words_on}

abbrev pub between : ℕ → ℕ → List ℕ → List ℕ
between s i t = take (i - s) (drop s t)

pub between_more : (s i : ℕ) (t : List ℕ) → s ≤ i → i < length t → between s (i + 1) t ≡ between s i t ++ get_or t i 0 ∷ []
between_more s i t h lt =
    let n : i + 1 - s ≡ suc (i - s) = omega arith in
    let at : s + (i - s) ≡ i = omega arith in
    rw n (take-suc (drop s t) (i - s) 0 (omega (arith, length-drop s t)) ∙ rw (get_or-drop, at) refl)

pub words_at_space : (front t : List ℕ) (i : ℕ) → i < length t → get_or t i 0 ≡ 32 → words_on front (drop i t) ≡ front ∷ words_on [] (drop (i + 1) t)
words_at_space front t i lt e = rw (add-one, drop-cons t i 0 lt, e) refl

pub words_at_other : (front t : List ℕ) (i : ℕ) → i < length t → (get_or t i 0 ≡ 10 → ⊥) → (get_or t i 0 ≡ 32 → ⊥)
    → words_on front (drop i t) ≡ words_on (front ++ get_or t i 0 ∷ []) (drop (i + 1) t)
words_at_other front t i lt not_feed not_space =
    let feed : (get_or t i 0 == 10) ≡ false = search rules in
    let space : (get_or t i 0 == 32) ≡ false = search rules in
    rw (add-one, drop-cons t i 0 lt, feed, space) refl

-- from the end of a word on, the rest begins with no front
pub nothing_between : (i : ℕ) (t : List ℕ) → take (i - i) (drop i t) ≡ []
nothing_between i t = let none : i - i ≡ 0 = omega arith in rw none refl

pub words_at_feed : (front t : List ℕ) (i : ℕ) → i < length t → get_or t i 0 ≡ 10 → words_on front (drop i t) ≡ front ∷ []
words_at_feed front t i lt e = rw (drop-cons t i 0 lt, e) refl

pub words_at_end : (front t : List ℕ) (i : ℕ) → length t ≤ i → words_on front (drop i t) ≡ front ∷ []
words_at_end front t i past = rw (drop_all i t past) refl

-- all words were found
pub found_all : (words all : List (List ℕ)) → words ≡ all → length words ≤ 4110 → words ≡ take 4110 all
found_all words all is few = is ∙ sym (take_all 4110 all (omega (arith, ap length is, few)))

-- as many words were found as may be
pub found_most : (words rest all : List (List ℕ)) → words ++ rest ≡ all → length words ≡ 4110 → words ≡ take 4110 all
found_most words rest all is full =
    sym (ap (λ (ws : List (List ℕ)). take 4110 ws) (sym is) ∙ take-append-le 4110 words rest (omega (arith, full)) ∙ take_all 4110 words (omega (arith, full)))
