-- The words of a line that was written are the words that were written.
use Rattle.std.proofs.Common.{◌≡◌, ◌≢◌, ℕ, ◌<◌, ◌^◌, ◌==◌, ◌&&◌, Bool, true, false, not, ltb, List, [], ◌∷◌, ◌++◌, map, length, refl, sym, ap, ◌∙◌, append_assoc, arith, rules, decimal, codes}
use Rattle.std.specs.List.{AllByRecursion}
use Rattle.std.specs.Str.{bytes_eq}
use Rattle.std.proofs.lemmas.Bool.{ltb-true, lt-ltb, not-true, and_parts}
use Rattle.std.proofs.lemmas.List.{append-nil}
use Rattle.gmp_trace.specs.Pieces.{Piece, piece_text, fields}
pub use Rattle.gmp_trace.specs.Guess.{is_plain}
use Rattle.gmp_trace.specs.Guess.{words_on, parted_on, parted, sides_on, sides}
use Rattle.gmp_trace.proofs.Numbers.{IsDigit, all-weaker, decimal_digits}

-- ---- words

-- a word that is no arrow
abbrev pub is_word : List ℕ → Bool
is_word w = is_plain w && not (bytes_eq w (codes "->"))

abbrev pub are_words : List (List ℕ) → Bool
are_words [] = true
are_words (w ∷ ws) = is_word w && are_words ws

abbrev pub are_plain : List Piece → Bool
are_plain [] = true
are_plain (p ∷ ps) = is_plain (piece_text p) && are_plain ps

both-0 : (a b : Bool) → (a && b) ≡ true → a ≡ true
both-0 a b h = (and_parts a b h).0

both-1 : (a b : Bool) → (a && b) ≡ true → b ≡ true
both-1 a b h = (and_parts a b h).1

above : (b : ℕ) → ltb 32 b ≡ true → 32 < b
above b h = ltb-true 32 b h

words_then : (front w rest : List ℕ) → is_plain w ≡ true → words_on front (w ++ 32 ∷ rest) ≡ (front ++ w) ∷ words_on [] rest
words_then front [] rest h = ap (λ (f : List ℕ). f ∷ words_on [] rest) (sym (append-nil front))
words_then front (b ∷ w) rest h =
    let high : 32 < b = above b (both-0 _ _ h) in
    let feed : (b == 10) ≡ false = search (rules, high) in
    let space : (b == 32) ≡ false = search (rules, high) in
    rw (feed, space) (words_then (front ++ b ∷ []) w rest (both-1 _ _ h) ∙ ap (λ (f : List ℕ). f ∷ words_on [] rest) (append_assoc front (b ∷ []) w))

words_end : (front w rest : List ℕ) → is_plain w ≡ true → words_on front (w ++ 10 ∷ rest) ≡ (front ++ w) ∷ []
words_end front [] rest h = ap (λ (f : List ℕ). f ∷ []) (sym (append-nil front))
words_end front (b ∷ w) rest h =
    let high : 32 < b = above b (both-0 _ _ h) in
    let feed : (b == 10) ≡ false = search (rules, high) in
    let space : (b == 32) ≡ false = search (rules, high) in
    rw (feed, space) (words_end (front ++ b ∷ []) w rest (both-1 _ _ h) ∙ ap (λ (f : List ℕ). f ∷ []) (append_assoc front (b ∷ []) w))

pub words_of_line : (first : List ℕ) (pieces : List Piece) (more : List ℕ) → is_plain first ≡ true → are_plain pieces ≡ true
    → words_on [] (first ++ (fields pieces ++ 10 ∷ more)) ≡ first ∷ map piece_text pieces
words_of_line first [] more h p = words_end [] first more h
words_of_line first (x ∷ pieces) more h p =
    ap (λ (t : List ℕ). words_on [] (first ++ 32 ∷ t)) (append_assoc (piece_text x) (fields pieces) (10 ∷ more))
    ∙ words_then [] first (piece_text x ++ (fields pieces ++ 10 ∷ more)) h
    ∙ ap (λ (ws : List (List ℕ)). first ∷ ws) (words_of_line (piece_text x) pieces more (both-0 _ _ p) (both-1 _ _ p))

-- a line without its feed has the same words
pub words_no_feed : (front t : List ℕ) → words_on front (t ++ 10 ∷ []) ≡ words_on front t
words_no_feed front [] = refl
words_no_feed front (b ∷ t) = rw (words_no_feed [] t, words_no_feed (front ++ b ∷ []) t) refl

-- ---- parts of a word

abbrev pub HasNo : ℕ → List ℕ → Type 0
HasNo byte text = AllByRecursion (λ b. b ≢ byte) text

parted_on_again : (byte : ℕ) (w front back : List ℕ) → HasNo byte w → parted_on byte front (w ++ byte ∷ back) ≡ (front ++ w, back)
parted_on_again byte [] front back h =
    let is : (byte == byte) ≡ true = search rules in rw (is, append-nil front) refl
parted_on_again byte (b ∷ w) front back h =
    let other : (b == byte) ≡ false = search (rules, h.0) in
    rw other (parted_on_again byte w (front ++ b ∷ []) back h.1 ∙ ap (λ (f : List ℕ). let p : List ℕ × List ℕ = (f, back) in p) (append_assoc front (b ∷ []) w))

pub parted_again : (byte : ℕ) (w back : List ℕ) → HasNo byte w → parted byte (w ++ byte ∷ back) ≡ (w, back)
unfolding parted
parted_again byte w back h = parted_on_again byte w [] back h

pub decimal_has_no : (byte n : ℕ) → n < 2 ^ 64 → 57 < byte → HasNo byte (decimal n)
decimal_has_no byte n h other = all-weaker IsDigit (λ b. b ≢ byte) (λ x d. omega arith) (decimal n) (decimal_digits n h)

pub decimal_has_no_dot : (n : ℕ) → n < 2 ^ 64 → HasNo 46 (decimal n)
decimal_has_no_dot n h = all-weaker IsDigit (λ b. b ≢ 46) (λ x d. omega arith) (decimal n) (decimal_digits n h)

-- a number, a dot and a number
pub pair_parted : (a b : ℕ) → a < 2 ^ 64 → parted 46 (decimal a ++ codes "." ++ decimal b) ≡ (decimal a, decimal b)
pair_parted a b h = ap (λ (t : List ℕ). parted 46 t) (append_assoc (decimal a) (codes ".") (decimal b)) ∙ parted_again 46 (decimal a) (decimal b) (decimal_has_no_dot a h)

-- ---- the sides of an arrow

sides_on_again : (ws front rest : List (List ℕ)) → are_words ws ≡ true → sides_on front (ws ++ codes "->" ∷ rest) ≡ (front ++ ws, rest)
sides_on_again [] front rest h = rw (append-nil front) refl
sides_on_again (w ∷ ws) front rest h =
    let other : bytes_eq w (codes "->") ≡ false = not-true _ (both-1 _ _ (both-0 _ _ h)) in
    rw other (sides_on_again ws (front ++ w ∷ []) rest (both-1 _ _ h)
    ∙ ap (λ (f : List (List ℕ)). let p : List (List ℕ) × List (List ℕ) = (f, rest) in p) (append_assoc front (w ∷ []) ws))

pub sides_again : (ws rest : List (List ℕ)) → are_words ws ≡ true → sides (ws ++ codes "->" ∷ rest) ≡ (ws, rest)
unfolding sides
sides_again ws rest h = sides_on_again ws [] rest h

-- ---- what is a word

pub plain_digits : (ds : List ℕ) → AllByRecursion IsDigit ds → is_plain ds ≡ true
plain_digits [] h = refl
plain_digits (d ∷ ds) h = let high : ltb 32 d ≡ true = lt-ltb 32 d (omega (arith, h.0)) in rw (high, plain_digits ds h.1) refl

pub plain-append : (xs ys : List ℕ) → is_plain xs ≡ true → is_plain ys ≡ true → is_plain (xs ++ ys) ≡ true
plain-append [] ys p q = q
plain-append (x ∷ xs) ys p q = let parts = and_parts (ltb 32 x) (is_plain xs) p in rw (parts.0, plain-append xs ys parts.1 q) refl

pub words-append : (xs ys : List (List ℕ)) → are_words xs ≡ true → are_words ys ≡ true → are_words (xs ++ ys) ≡ true
words-append [] ys p q = q
words-append (x ∷ xs) ys p q = let parts = and_parts (is_word x) (are_words xs) p in rw (parts.0, words-append xs ys parts.1 q) refl

pub words_plain : (ps : List Piece) → are_words (map piece_text ps) ≡ true → are_plain ps ≡ true
words_plain [] h = refl
words_plain (p ∷ ps) h =
    let parts = and_parts (is_word (piece_text p)) (are_words (map piece_text ps)) h in
    let word = and_parts (is_plain (piece_text p)) (not (bytes_eq (piece_text p) (codes "->"))) parts.0 in
    rw (word.0, words_plain ps parts.1) refl

-- digits and what follows are no arrow
pub no_arrow : (ds rest : List ℕ) → AllByRecursion IsDigit ds → 0 < length ds → bytes_eq (ds ++ rest) (codes "->") ≡ false
no_arrow [] rest h some = absurd (omega arith)
no_arrow (d ∷ ds) rest h some = let other : (d == 45) ≡ false = search (rules, h.0) in rw other refl
