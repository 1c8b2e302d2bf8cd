-- Lines that are lists of words, and the head.
use Rattle.std.proofs.Common.{◌≡◌, ℕ, ◌<◌, ◌^◌, Bool, true, false, List, [], ◌∷◌, ◌++◌, map, take, drop, length, refl, ap₂, ◌&&◌, arith, rules, decimal, codes, Option, Some, None, All, IfSome, ◌==◌}
use Rattle.std.proofs.lemmas.List.{length-map}
use Rattle.std.proofs.lemmas.List.Elements.{All-head, All-tail}
use Rattle.std.specs.List.{AllByRecursion}
use Rattle.std.specs.Str.{bytes_eq}
use Rattle.gmp_base.specs.declared.number.MNo.{MNo}
use Rattle.gmp_base.specs.Fits.{IsWord}
use Rattle.gmp_seq.specs.declared.status.Mode.{Mode}
use Rattle.gmp_seq.specs.declared.status.Mode.TheVariants as mode
use Rattle.gmp_trace.specs.Pieces.{Piece, piece_text, number}
use Rattle.gmp_trace.specs.Pieces.Piece.{Word, Number}
use Rattle.gmp_trace.specs.Guess.{words_on, narrow, number_at, number_read}
use Rattle.gmp_trace.proofs.Lexing.{are_plain, is_plain}
use Rattle.gmp_trace.proofs.Numbers.{IsDigit, decimal_digits, number_again}
use Rattle.gmp_trace.proofs.Rows.{small_again}
use Rattle.gmp_trace.proofs.WordRows.{decimal_plain}
use Rattle.gmp_trace.specs.declared.start.at.Head.{Head}
use Rattle.gmp_trace.specs.StartForms.{BelowAll}
use Rattle.gmp_trace.specs.StartGuess.{holder_read, mode_read}
use Rattle.gmp_trace.specs.StartText.{counts_text, head_text, holder_piece, machines_text, mode_piece, procs_text}
use Rattle.gmp_trace.proofs.Lines.{guessed_line}

-- Counts

pub counts_plain : (cs : List ℕ) → All IsWord cs → are_plain (map number cs) ≡ true
counts_plain [] h = refl
counts_plain (c ∷ cs) h = rw (decimal_plain c (All-head IsWord c cs h), counts_plain cs (All-tail IsWord c cs h)) refl

pub counts_back : (cs : List ℕ) → All IsWord cs → map number_read (map piece_text (map number cs)) ≡ cs
counts_back [] h = refl
counts_back (c ∷ cs) h = rw (number_again c (All-head IsWord c cs h), counts_back cs (All-tail IsWord c cs h)) refl

pub guessed_counts : (text written : List ℕ) (words : List (List ℕ)) (guess cs more : List ℕ)
    → words ≡ take 4110 (words_on [] text) → guess ≡ map number_read (drop 1 words) → written ≡ counts_text guess
    → All IsWord cs → length cs < 4100 → text ≡ counts_text cs ++ more
    → (guess ≡ cs) × (text ≡ written ++ more)
unfolding counts_text
guessed_counts text written words guess cs more split is_guess is_written h few is =
    guessed_line (codes "counts") (map number) (λ ws. map number_read (drop 1 ws)) text written words guess cs more refl split is_guess is_written
    (counts_plain cs h) (omega (arith, length-map cs number, few)) (counts_back cs h) is

-- Who holds each processor

both : (a b : Bool) → a ≡ true → b ≡ true → (a && b) ≡ true
both a b p q = rw (p, q) refl

not_idle : (ds : List ℕ) → AllByRecursion IsDigit ds → bytes_eq ds (codes "idle") ≡ false
not_idle [] h = refl
not_idle (d ∷ ds) h = let other : (d == 105) ≡ false = search (rules, h.0) in rw other refl

holder_back : (x : Option MNo) → IfSome x (λ (m : MNo). m.0 < 256) → holder_read (piece_text (holder_piece x)) ≡ x
unfolding holder_read
holder_back None h = refl
holder_back (Some m) h = rw (not_idle (decimal m.0) (decimal_digits m.0 (omega (arith, h))), small_again 8 m.0 (omega (arith, h)) (omega (arith, h))) refl

holder_plain : (x : Option MNo) → IfSome x (λ (m : MNo). m.0 < 256) → is_plain (piece_text (holder_piece x)) ≡ true
holder_plain None h = refl
holder_plain (Some m) h = decimal_plain m.0 (omega (arith, h))

holders_plain : (xs : List (Option MNo)) → BelowAll 256 xs → are_plain (map holder_piece xs) ≡ true
holders_plain [] h = refl
holders_plain (x ∷ xs) h =
    let small : IfSome x (λ (m : MNo). m.0 < 256) = All-head (λ (o : Option MNo). IfSome o (λ (m : MNo). m.0 < 256)) x xs h in
    let rest : BelowAll 256 xs = All-tail (λ (o : Option MNo). IfSome o (λ (m : MNo). m.0 < 256)) x xs h in
    both (is_plain (piece_text (holder_piece x))) (are_plain (map holder_piece xs)) (holder_plain x small) (holders_plain xs rest)

holders_back : (xs : List (Option MNo)) → BelowAll 256 xs → map holder_read (map piece_text (map holder_piece xs)) ≡ xs
holders_back [] h = refl
holders_back (x ∷ xs) h =
    let small : IfSome x (λ (m : MNo). m.0 < 256) = All-head (λ (o : Option MNo). IfSome o (λ (m : MNo). m.0 < 256)) x xs h in
    let rest : BelowAll 256 xs = All-tail (λ (o : Option MNo). IfSome o (λ (m : MNo). m.0 < 256)) x xs h in
    ap₂ (λ (y : Option MNo) (ys : List (Option MNo)). y ∷ ys) (holder_back x small) (holders_back xs rest)

pub guessed_procs : (text written : List ℕ) (words : List (List ℕ)) (guess xs : List (Option MNo)) (more : List ℕ)
    → words ≡ take 4110 (words_on [] text) → guess ≡ map holder_read (drop 1 words) → written ≡ procs_text guess
    → BelowAll 256 xs → length xs < 4100 → text ≡ procs_text xs ++ more
    → (guess ≡ xs) × (text ≡ written ++ more)
unfolding procs_text
guessed_procs text written words guess xs more split is_guess is_written h few is =
    guessed_line (codes "procs") (map holder_piece) (λ ws. map holder_read (drop 1 ws)) text written words guess xs more refl split is_guess is_written
    (holders_plain xs h) (omega (arith, length-map xs holder_piece, few)) (holders_back xs h) is

-- What each machine does

mode_back : (x : Mode) → mode_read (piece_text (mode_piece x)) ≡ x
unfolding mode_read
mode_back mode.Awake = refl
mode_back mode.Parked = refl
mode_back mode.Calling = refl

mode_plain : (x : Mode) → is_plain (piece_text (mode_piece x)) ≡ true
mode_plain mode.Awake = refl
mode_plain mode.Parked = refl
mode_plain mode.Calling = refl

modes_plain : (xs : List Mode) → are_plain (map mode_piece xs) ≡ true
modes_plain [] = refl
modes_plain (x ∷ xs) = rw (mode_plain x, modes_plain xs) refl

modes_back : (xs : List Mode) → map mode_read (map piece_text (map mode_piece xs)) ≡ xs
modes_back [] = refl
modes_back (x ∷ xs) = rw (mode_back x, modes_back xs) refl

pub guessed_machines : (text written : List ℕ) (words : List (List ℕ)) (guess xs : List Mode) (more : List ℕ)
    → words ≡ take 4110 (words_on [] text) → guess ≡ map mode_read (drop 1 words) → written ≡ machines_text guess
    → length xs < 4100 → text ≡ machines_text xs ++ more
    → (guess ≡ xs) × (text ≡ written ++ more)
unfolding machines_text
guessed_machines text written words guess xs more split is_guess is_written few is =
    guessed_line (codes "machines") (map mode_piece) (λ ws. map mode_read (drop 1 ws)) text written words guess xs more refl split is_guess is_written
    (modes_plain xs) (omega (arith, length-map xs mode_piece, few)) (modes_back xs) is

-- The head

abbrev head_pieces : Head → List Piece
head_pieces h =
    number h.made ∷ Word (codes "now") ∷ number h.clock ∷ Word (codes "arrivals") ∷ number h.arrivals ∷ Word (codes "active") ∷ Number 8 h.active ∷ []

abbrev head_read : List (List ℕ) → Head
head_read ws = record { made = number_at 1 ws; clock = number_at 3 ws; arrivals = number_at 5 ws; active = narrow 8 (number_at 7 ws) }

record FitsHead (h : Head) : Type 0 where
  made : IsWord h.made
  clock : IsWord h.clock
  arrivals : IsWord h.arrivals
  active : h.active < 2 ^ 8

head_plain : (h : Head) → FitsHead h → are_plain (head_pieces h) ≡ true
head_plain h fits = rw (decimal_plain h.made fits.made, decimal_plain h.clock fits.clock, decimal_plain h.arrivals fits.arrivals, decimal_plain h.active (omega (arith, fits.active))) refl

head_back : (h : Head) → FitsHead h → head_read (codes "start" ∷ map piece_text (head_pieces h)) ≡ h
head_back h fits = rw (number_again h.made fits.made, number_again h.clock fits.clock, number_again h.arrivals fits.arrivals, small_again 8 h.active fits.active (omega (arith, fits.active))) refl

pub guessed_head : (text written : List ℕ) (words : List (List ℕ)) (m n a v : ℕ) (h : Head) (more : List ℕ)
    → words ≡ take 4110 (words_on [] text) → m ≡ number_at 1 words → n ≡ number_at 3 words → a ≡ number_at 5 words → v ≡ narrow 8 (number_at 7 words)
    → written ≡ head_text m n a v
    → IsWord h.made → IsWord h.clock → IsWord h.arrivals → h.active < 2 ^ 8 → text ≡ head_text h.made h.clock h.arrivals h.active ++ more
    → ((let guess : Head = record { made = m; clock = n; arrivals = a; active = v } in guess) ≡ h) × (text ≡ written ++ more)
unfolding head_text
guessed_head text written words m n a v h more split is_m is_n is_a is_v is_written b c d e is =
    let fits : FitsHead h = record { made = b; clock = c; arrivals = d; active = e } in
    let guess : Head = record { made = m; clock = n; arrivals = a; active = v } in
    let is_guess : guess ≡ head_read words = cc in
    guessed_line (codes "start") head_pieces head_read text written words guess h more refl split is_guess is_written (head_plain h fits) (omega arith) (head_back h fits) is
