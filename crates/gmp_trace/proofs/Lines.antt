-- A line that was written is taken for what it was written for.
use Rattle.std.proofs.Common.{◌≡◌, ℕ, ◌≤◌, ◌<◌, Bool, true, false, not, List, [], ◌∷◌, ◌++◌, map, take, length, refl, sym, ap, ap₂, ◌∙◌, append_assoc, decimal, codes, arith, Option, Some, None, IsTrue, length-append}
use Rattle.std.proofs.lemmas.Bool.{and_parts}
use Rattle.std.proofs.lemmas.List.{append_cancel_left, length-map, map-append, take_all}
use Rattle.std.specs.Str.{bytes_eq}
use Rattle.gmp_base.specs.declared.number.MNo.{MNo}
use Rattle.gmp_base.specs.declared.number.Readiness.{Readiness}
use Rattle.gmp_base.specs.Fits.{IsWord}
use Rattle.gmp_seq.specs.declared.call.Call.{Call}
use Rattle.gmp_seq.specs.declared.call.Call.TheVariants as call
use Rattle.gmp_seq.specs.declared.call.Entry.{Entry}
use Rattle.gmp_seq.specs.declared.call.Relay.{Relay}
use Rattle.gmp_seq.specs.declared.call.Reply.{Reply}
use Rattle.gmp_seq.specs.declared.call.Reply.TheVariants as reply
use Rattle.gmp_seq.specs.declared.call.Taken.{Taken}
use Rattle.gmp_seq.specs.declared.call.Taken.TheVariants as taken
use Rattle.gmp_seq.specs.Fits.{Fits, FitsCall}
use Rattle.gmp_trace.specs.declared.trace.End.{End}
use Rattle.gmp_trace.specs.declared.trace.End.TheVariants.{MainEnded, AllAsleep, BookFull, Running}
use Rattle.gmp_trace.specs.HasText.{answers}
use Rattle.gmp_trace.specs.Pieces.{Piece, piece_text, fields, line, call_pieces, reply_pieces, entry_pieces, entry_text, end_text, default_pieces, until_pieces, served_pieces, moved_pieces, woken_pieces, taken_pieces}
use Rattle.gmp_trace.specs.Pieces.Piece.{Word, OfCase}
use Rattle.gmp_trace.specs.Guess.{words_on, entry_of, number_read, end_in, word_at, call_of}
use Rattle.gmp_trace.specs.Reading.{IsEntry}
use Rattle.gmp_trace.proofs.Numbers.{number_again}
use Rattle.gmp_trace.proofs.Lexing.{is_plain, is_word, are_plain, words_of_line, words_no_feed, words_plain, pair_parted, sides_again}
use Rattle.gmp_trace.proofs.WordRows.{decimal_plain, pair_word, call_words, reply_words}
use Rattle.gmp_trace.proofs.Rows.{small_again, call_again, reply_again}

pub regroup : (first fields more : List ℕ) → first ++ fields ++ codes "\n" ++ more ≡ first ++ (fields ++ 10 ∷ more)
regroup first fields more = simp append_assoc

-- ---- any line

-- The guess is what the text begins with, so the line that is written of it is that one.
pub guessed_line : {X : Type 0} (first : List ℕ) (pieces : X → List Piece) (read : List (List ℕ) → X) (text written : List ℕ) (words : List (List ℕ)) (guess x : X) (more : List ℕ)
    → is_plain first ≡ true → words ≡ take 4110 (words_on [] text) → guess ≡ read words → written ≡ line first (pieces guess)
    → are_plain (pieces x) ≡ true → length (pieces x) < 4110 → read (first ∷ map piece_text (pieces x)) ≡ x → text ≡ line first (pieces x) ++ more
    → (guess ≡ x) × (text ≡ written ++ more)
guessed_line {X = X} first pieces read text written words guess x more plain split is_guess is_written all few again is =
    let words_are : words ≡ first ∷ map piece_text (pieces x) =
    split ∙ ap (λ (t : List ℕ). take 4110 (words_on [] t)) (is ∙ regroup first (fields (pieces x)) more)
    ∙ ap (λ (ws : List (List ℕ)). take 4110 ws) (words_of_line first (pieces x) more plain all)
    ∙ take_all 4110 (first ∷ map piece_text (pieces x)) (omega (arith, length-map (pieces x) piece_text, few)) in
    let same : guess ≡ x = is_guess ∙ ap read words_are ∙ again in
    (same, is ∙ ap (λ (t : List ℕ). t ++ more) (sym (is_written ∙ ap (λ (y : X). line first (pieces y)) same)))

-- ---- how many words a line has

pub until_few : (until : Option ℕ) → length (until_pieces until) ≤ 2
until_few None = omega arith
until_few (Some d) = omega arith

default_few : (has_default : Bool) → length (default_pieces has_default) ≤ 1
default_few true = omega arith
default_few false = omega arith

call_few : (c : Call) → FitsCall c → length (call_pieces c) ≤ 12
call_few (call.Select cases has_default until) h =
    omega (arith, h.0, length-append (map OfCase cases ++ default_pieces has_default) (until_pieces until), length-append (map OfCase cases) (default_pieces has_default), length-map cases OfCase, until_few until, default_few has_default)
call_few _ h = omega arith

served_few : (to : Option Readiness) → length (served_pieces to) ≤ 2
served_few None = omega arith
served_few (Some r) = omega arith

moved_few : (from : Option Relay) → length (moved_pieces from) ≤ 4
moved_few None = omega arith
moved_few (Some x) = omega arith

woken_few : (m : Option MNo) → length (woken_pieces m) ≤ 2
woken_few None = omega arith
woken_few (Some m) = omega arith

taken_few : (t : Taken) → length (taken_pieces t) ≤ 7
taken_few (taken.Sent to) = omega (arith, served_few to)
taken_few (taken.Got v sent from) = omega (arith, moved_few from)
taken_few taken.Failed = omega arith

reply_few : (r : Reply) → length (reply_pieces r) ≤ 9
reply_few (reply.Sent to) = omega (arith, served_few to)
reply_few (reply.Got v sent from) = omega (arith, moved_few from)
reply_few (reply.Chose i told) = omega (arith, taken_few told)
reply_few (reply.Entered p m) = omega (arith, woken_few m)
reply_few _ = omega arith

entry_few : (e : Entry) → Fits e → length (map piece_text (entry_pieces e)) ≤ 30
entry_few e h =
    omega (arith, length-map (entry_pieces e) piece_text, length-append (call_pieces e.call) (Word (codes "->") ∷ reply_pieces e.reply), call_few e.call h.2, reply_few e.reply)

-- ---- entries

pub pieces-append : (xs ys : List Piece) → are_plain xs ≡ true → are_plain ys ≡ true → are_plain (xs ++ ys) ≡ true
pieces-append [] ys p q = q
pieces-append (x ∷ xs) ys p q = let parts = and_parts (is_plain (piece_text x)) (are_plain xs) p in rw (parts.0, pieces-append xs ys parts.1 q) refl

word_plain : (w : List ℕ) → is_word w ≡ true → is_plain w ≡ true
word_plain w h = (and_parts (is_plain w) (not (bytes_eq w (codes "->"))) h).0

pieces_plain : (e : Entry) → Fits e → are_plain (entry_pieces e) ≡ true
pieces_plain e h =
    let place : is_plain (decimal e.m.0 ++ codes "." ++ decimal e.k) ≡ true = word_plain (decimal e.m.0 ++ codes "." ++ decimal e.k) (pair_word e.m.0 e.k (omega (arith, h.0)) h.1) in
    let answer = Word (codes "->") ∷ reply_pieces e.reply in
    let replies : are_plain answer ≡ true = rw (words_plain (reply_pieces e.reply) (reply_words e.reply h.3)) refl in
    let calls : are_plain (call_pieces e.call ++ answer) ≡ true = pieces-append (call_pieces e.call) answer (words_plain (call_pieces e.call) (call_words e.call h.2)) replies in
    rw (place, calls) refl

pub words_of_entry : (n : ℕ) (e : Entry) (more : List ℕ) → IsWord n → Fits e
    → take 4110 (words_on [] (entry_text n e ++ more)) ≡ decimal n ∷ map piece_text (entry_pieces e)
unfolding entry_text
words_of_entry n e more small h =
    ap (λ (t : List ℕ). take 4110 (words_on [] t)) (regroup (decimal n) (fields (entry_pieces e)) more)
    ∙ ap (λ (ws : List (List ℕ)). take 4110 ws) (words_of_line (decimal n) (entry_pieces e) more (decimal_plain n small) (pieces_plain e h))
    ∙ take_all 4110 (decimal n ∷ map piece_text (entry_pieces e)) (omega (arith, entry_few e h))

entry_again : (e : Entry) (number : List ℕ) → Fits e → IsTrue (answers e.call e.reply) → entry_of (number ∷ map piece_text (entry_pieces e)) ≡ e
unfolding entry_of
entry_again e number h a =
    rw (
      map-append piece_text (call_pieces e.call) (Word (codes "->") ∷ reply_pieces e.reply),
      pair_parted e.m.0 e.k (omega (arith, h.0)),
      small_again 8 e.m.0 h.0 (omega (arith, h.0)),
      number_again e.k h.1,
      sides_again (map piece_text (call_pieces e.call)) (map piece_text (reply_pieces e.reply)) (call_words e.call h.2),
      call_again e.call h.2,
      reply_again e.call e.reply a h.3,
    ) refl

-- The guess is the entry that the text begins with, so the line that is written of it is that entry's.
pub guessed_entry : (text line number_word : List ℕ) (words : List (List ℕ)) (guess_n : ℕ) (guess : Entry) (n : ℕ) (e : Entry) (more : List ℕ)
    → words ≡ take 4110 (words_on [] text) → number_word ≡ word_at 0 words → guess_n ≡ number_read number_word → guess ≡ entry_of words → line ≡ entry_text guess_n guess
    → IsEntry n e → text ≡ entry_text n e ++ more
    → (guess_n ≡ n) × (guess ≡ e) × (text ≡ line ++ more)
guessed_entry text line number_word words guess_n guess n e more split first number entry written h is =
    let all : words ≡ decimal n ∷ map piece_text (entry_pieces e) =
    split ∙ ap (λ (t : List ℕ). take 4110 (words_on [] t)) is ∙ words_of_entry n e more h.number h.fits in
    let same_n : guess_n ≡ n = number ∙ ap number_read (first ∙ ap (λ (ws : List (List ℕ)). word_at 0 ws) all) ∙ number_again n h.number in
    let same_e : guess ≡ e = entry ∙ ap entry_of all ∙ entry_again e (decimal n) h.fits h.answered in
    (same_n, same_e, is ∙ ap (λ (t : List ℕ). t ++ more) (sym (written ∙ ap₂ entry_text same_n same_e)))

-- ---- ends

end_taken : (end : End) (more : List ℕ) → end_in (take 4110 (words_on [] (end_text end ++ more))) ≡ end
unfolding end_text end_in
end_taken MainEnded more = refl
end_taken AllAsleep more = refl
end_taken BookFull more = refl
end_taken Running more = refl

pub guessed_end : (text line : List ℕ) (words : List (List ℕ)) (guess end : End) (more : List ℕ)
    → words ≡ take 4110 (words_on [] text) → guess ≡ end_in words → line ≡ end_text guess → text ≡ end_text end ++ more
    → (guess ≡ end) × (text ≡ line ++ more)
guessed_end text line words guess end more split is_guess written is =
    let same : guess ≡ end = is_guess ∙ ap end_in (split ∙ ap (λ (t : List ℕ). take 4110 (words_on [] t)) is) ∙ end_taken end more in
    (same, is ∙ ap (λ (t : List ℕ). t ++ more) (sym (written ∙ ap end_text same)))

-- ---- calls alone

-- the words of pieces, where the first has no space before it
words_of_fields : (ps : List Piece) (text : List ℕ) → 0 < length ps → are_plain ps ≡ true → fields ps ≡ 32 ∷ text → words_on [] text ≡ map piece_text ps
words_of_fields [] text some h is = absurd (omega arith)
words_of_fields (p ∷ ps) text some h is =
    let parts = and_parts (is_plain (piece_text p)) (are_plain ps) h in
    let text_is : text ≡ piece_text p ++ fields ps = cc in
    ap (λ (t : List ℕ). words_on [] t) text_is
    ∙ sym (words_no_feed [] (piece_text p ++ fields ps))
    ∙ ap (λ (t : List ℕ). words_on [] t) (append_assoc (piece_text p) (fields ps) (10 ∷ []))
    ∙ words_of_line (piece_text p) ps [] parts.0 parts.1

call_some : (c : Call) → 0 < length (call_pieces c)
call_some (call.Select cases has_default until) = omega arith
call_some _ = omega arith

pub guessed_call : (text guessed given : List ℕ) (words : List (List ℕ)) (guess c : Call)
    → words ≡ take 4110 (words_on [] text) → guess ≡ call_of words → guessed ≡ fields (call_pieces guess) → given ≡ 32 ∷ text → FitsCall c → fields (call_pieces c) ≡ 32 ∷ text
    → (guess ≡ c) × (guessed ≡ given)
guessed_call text guessed given words guess c split is_guess written spaced h is =
    let pieces = call_pieces c in
    let all : words ≡ map piece_text pieces =
    split ∙ ap (λ (ws : List (List ℕ)). take 4110 ws) (words_of_fields pieces text (call_some c) (words_plain pieces (call_words c h)) is)
    ∙ take_all 4110 (map piece_text pieces) (omega (arith, length-map pieces piece_text, call_few c h)) in
    let same : guess ≡ c = is_guess ∙ ap call_of all ∙ call_again c h in
    (same, written ∙ ap (λ (x : Call). fields (call_pieces x)) same ∙ is ∙ sym spaced)

pub same_rest : (text line rest more : List ℕ) → text ≡ line ++ rest → text ≡ line ++ more → rest ≡ more
same_rest text line rest more p q = append_cancel_left line rest more (sym p ∙ q)
