-- The line of a channel is taken for the channel that it was written for.
use Rattle.std.proofs.Common.{◌≡◌, ℕ, ◌<◌, ◌≤◌, ◌^◌, Bool, true, false, List, [], ◌∷◌, ◌++◌, map, take, length, refl, ap, ap₂, arith, codes, All}
use Rattle.std.proofs.lemmas.List.{length-map}
use Rattle.gmp_base.specs.Fits.{IsWord}
use Rattle.gmp_seq.specs.Channels.{Channel}
use Rattle.gmp_trace.specs.Pieces.{Piece, piece_text, number}
use Rattle.gmp_trace.specs.Pieces.Piece.{Number}
use Rattle.gmp_trace.specs.Guess.{words_on, narrow, number_at}
use Rattle.gmp_trace.proofs.Lexing.{are_plain, is_plain}
use Rattle.gmp_trace.proofs.Rows.{small_again}
use Rattle.gmp_trace.proofs.WordRows.{decimal_plain}
use Rattle.gmp_trace.specs.StartGuess.{channel_read, closed_read}
use Rattle.gmp_trace.specs.StartText.{channel_line, closed_piece}
use Rattle.gmp_trace.proofs.Lines.{guessed_line}
use Rattle.gmp_trace.proofs.StartLists.{counts_back, counts_plain}

closed_back : (b : Bool) → closed_read (piece_text (closed_piece b)) ≡ b
unfolding closed_read
closed_back true = refl
closed_back false = refl

closed_plain : (b : Bool) → is_plain (piece_text (closed_piece b)) ≡ true
closed_plain true = refl
closed_plain false = refl

abbrev channel_pieces : ℕ × Channel → List Piece
channel_pieces r = Number 16 r.0 ∷ Number 32 r.1.capacity ∷ closed_piece r.1.closed ∷ map number r.1.items

abbrev numbered_channel : List (List ℕ) → ℕ × Channel
numbered_channel ws = (narrow 16 (number_at 1 ws), channel_read ws)

pub guessed_channel : (text written : List ℕ) (words : List (List ℕ)) (guess_c : ℕ) (guess : Channel) (c : ℕ) (x : Channel) (more : List ℕ)
    → words ≡ take 4110 (words_on [] text) → guess_c ≡ narrow 16 (number_at 1 words) → guess ≡ channel_read words → written ≡ channel_line guess_c guess
    → c < 2 ^ 16 → x.capacity < 2 ^ 32 → All IsWord x.items → length x.items ≤ 4096 → text ≡ channel_line c x ++ more
    → (guess_c ≡ c) × (guess ≡ x) × (text ≡ written ++ more)
unfolding channel_line
guessed_channel text written words guess_c guess c x more split is_c is_guess is_written small room fits few is =
    let both : (guess_c, guess) ≡ numbered_channel words = ap₂ (λ (a : ℕ) (b : Channel). let p : ℕ × Channel = (a, b) in p) is_c is_guess in
    let plain : are_plain (channel_pieces (c, x)) ≡ true =
    rw (decimal_plain c (omega (arith, small)), decimal_plain x.capacity (omega (arith, room)), closed_plain x.closed, counts_plain x.items fits) refl in
    let again : numbered_channel (codes "chan" ∷ map piece_text (channel_pieces (c, x))) ≡ (c, x) =
    rw (small_again 16 c small (omega (arith, small)), small_again 32 x.capacity room (omega (arith, room)), closed_back x.closed, counts_back x.items fits) refl in
    let same = guessed_line (codes "chan") channel_pieces numbered_channel text written words (guess_c, guess) (c, x) more refl split both is_written
    plain (omega (arith, length-map x.items number, few)) again is in
    (ap (λ (p : ℕ × Channel). p.0) same.0, ap (λ (p : ℕ × Channel). p.1) same.0, same.1)
