-- One case further on the way to the cases of a select.
use Rattle.std.proofs.Common.{◌≡◌, ℕ, zero, suc, ◌+◌, ◌<◌, ◌≤◌, true, false, List, [], ◌∷◌, ◌++◌, length, get_or, drop, refl, append_assoc, drop-cons, add-one}
use Rattle.std.proofs.lemmas.List.{append-nil, drop_all}
use Rattle.gmp_base.specs.declared.cases.Case.{Case}
use Rattle.gmp_trace.specs.Guess.{is_case, case_read, leading_cases}

-- what was found in front of the rest
abbrev pub after : List Case → List Case × List (List ℕ) → List Case × List (List ℕ)
after front p = (front ++ p.0, p.1)

pub after_full : (front : List Case) (words : List (List ℕ)) (n i : ℕ) → n ≡ 0 → after front (leading_cases n (drop i words)) ≡ (front, drop i words)
after_full front words n i none = rw none (rw (append-nil front) refl)

pub after_end : (front : List Case) (words : List (List ℕ)) (n i : ℕ) → length words ≤ i → after front (leading_cases n (drop i words)) ≡ (front, [])
after_end front words zero i past = rw (drop_all i words past) (rw (append-nil front) refl)
after_end front words (suc n) i past = rw (drop_all i words past) (rw (append-nil front) refl)

pub after_other : (front : List Case) (words : List (List ℕ)) (n i : ℕ) → i < length words → is_case (get_or words i []) ≡ false
    → after front (leading_cases n (drop i words)) ≡ (front, drop i words)
after_other front words zero i lt other = rw (append-nil front) refl
after_other front words (suc n) i lt other = rw (drop-cons words i [] lt, other) (rw (append-nil front) refl)

pub after_case : (front : List Case) (words : List (List ℕ)) (m n i : ℕ) → m ≡ suc n → i < length words → is_case (get_or words i []) ≡ true
    → after front (leading_cases m (drop i words)) ≡ after (front ++ case_read (get_or words i []) ∷ []) (leading_cases n (drop (i + 1) words))
after_case front words m n i more lt is = rw (more, drop-cons words i [] lt, is, add-one) (rw append_assoc refl)
