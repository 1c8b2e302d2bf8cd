-- Texts of bytes and of lists.
use Rattle.std.proofs.Common.{◌≡◌, ◌≢◌, ◌<◌, ℕ, Option, None, IfSome, Bool, true, false, if◌then◌else◌, Some, List, [], ◌∷◌, ◌++◌, ◌==◌, length, refl, ◌+◌, get_or, take, sym, ap, ◌∙◌, arith, append_assoc}
use Rattle.std.proofs.lemmas.Bool.{cond-true, cond-false}
use Rattle.std.proofs.lemmas.List.{append-nil, length-take-le, take_more}
use Rattle.std.proofs.lemmas.Str.{utf8_valid_len-IsUtf8}
use Rattle.std.specs.Str.{IsUtf8}
use Rattle.std.specs.Str.Lossy.{utf8_valid_len}
use Rattle.gmp_explain.specs.Lines.{last_space, later_space}
use Rattle.gmp_explain.specs.Text.{often_from, often_text, text_of, times_text}

pub text_of_utf8 : (bytes : List ℕ) → IsUtf8 bytes → text_of bytes ≡ bytes
unfolding text_of
text_of_utf8 bytes is = let e = utf8_valid_len-IsUtf8 bytes is in let same : (utf8_valid_len bytes == length bytes) ≡ true = grind arith in cond-true _ _ _ same

pub text_of_other : (bytes : List ℕ) → utf8_valid_len bytes < length bytes → text_of bytes ≡ []
unfolding text_of
text_of_other bytes less = let other : (utf8_valid_len bytes == length bytes) ≡ false = grind arith in cond-false _ _ _ other

-- one call more
often_more : (i n : ℕ) (calls : List (ℕ × ℕ)) (made : ℕ × ℕ) → n ≡ i + length calls → often_from i (calls ++ made ∷ []) ≡ often_from i calls ++ times_text n made
often_more i n [] made is =
    let e : n ≡ i = omega (arith, is) in
    append-nil (times_text i made) ∙ ap (λ (k : ℕ). times_text k made) (sym e)
often_more i n (first ∷ calls) made is =
    ap (λ (t : List ℕ). times_text i first ++ t) (often_more (i + 1) n calls made (omega (arith, is))) ∙ sym (append_assoc (times_text i first) _ _)

pub often_next : (calls : List (ℕ × ℕ)) (i : ℕ) (d : ℕ × ℕ) → i < length calls → often_text (take (i + 1) calls) ≡ often_text (take i calls) ++ times_text i (get_or calls i d)
often_next calls i d within =
    let size : length (take i calls) ≡ i = length-take-le i calls (omega (arith, within)) in
    ap often_text (take_more calls i d within) ∙ often_more 0 i (take i calls) (get_or calls i d) (omega (arith, size))

-- one byte more
last_more : (bytes : List ℕ) (b : ℕ) → last_space (bytes ++ b ∷ []) ≡ (if b == 32 then Some (length bytes) else last_space bytes)
last_more [] b = refl
last_more (first ∷ bytes) b = ap (later_space first) (last_more bytes b) ∙ later (b == 32) where
  later : (is : Bool) → later_space first (if is then Some (length bytes) else last_space bytes) ≡ (if is then Some (length (first ∷ bytes)) else later_space first (last_space bytes))
  later true = ap (λ (n : ℕ). Some n) (omega arith)
  later false = refl

pub last_next : (bytes : List ℕ) (i d : ℕ) → i < length bytes → last_space (take (i + 1) bytes) ≡ (if get_or bytes i d == 32 then Some i else last_space (take i bytes))
last_next bytes i d within =
    let size : length (take i bytes) ≡ i = length-take-le i bytes (omega (arith, within)) in
    ap last_space (take_more bytes i d within) ∙ last_more (take i bytes) (get_or bytes i d) ∙ ap (λ (n : ℕ). if get_or bytes i d == 32 then Some n else last_space (take i bytes)) size

pub last_here : (line : List ℕ) (i : ℕ) → i < length line → get_or line i 0 ≡ 32 → last_space (take (i + 1) line) ≡ Some i
last_here line i within is = let same : (get_or line i 0 == 32) ≡ true = grind arith in last_next line i 0 within ∙ cond-true _ _ _ same

pub last_before : (line : List ℕ) (i : ℕ) → i < length line → get_or line i 0 ≢ 32 → last_space (take (i + 1) line) ≡ last_space (take i line)
last_before line i within is = let other : (get_or line i 0 == 32) ≡ false = grind arith in last_next line i 0 within ∙ cond-false _ _ _ other

pub within_more : (o : Option ℕ) (i : ℕ) → IfSome o (λ n. n < i) → IfSome o (λ n. n < i + 1)
within_more (Some n) i less = omega (arith, less)
within_more None i less = tt
