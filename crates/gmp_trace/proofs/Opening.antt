-- The limits and capacities that a line was written for are those that it is taken for.
use Rattle.std.proofs.Common.{◌≡◌, ℕ, ◌<◌, ◌≤◌, ◌^◌, Bool, true, false, if◌then◌else◌, List, [], ◌∷◌, ◌++◌, map, take, drop, length, refl, sym, ap, ap₂, ◌∙◌, append_assoc, decimal, codes, arith, All}
use Rattle.std.proofs.lemmas.Bool.{eqb-true}
use Rattle.std.proofs.lemmas.List.{length-map, take_all}
use Rattle.std.proofs.lemmas.List.Elements.{All-head, All-tail}
use Rattle.gmp_seq.specs.declared.call.Limits.{Limits}
use Rattle.gmp_seq.specs.Fits.{AreLimits}
use Rattle.gmp_trace.specs.Pieces.{Piece, piece_text, fields, is_whole, limit, limits_text, room_pieces, capacity_piece, capacities_text}
use Rattle.gmp_trace.specs.Pieces.Piece.{Word, Number}
use Rattle.gmp_trace.specs.Guess.{words_on, limits_read, bodies_of, capacity_of, narrow, number_read, room_at}
use Rattle.gmp_trace.specs.Reading.{FitLimits}
use Rattle.gmp_trace.proofs.Lexing.{are_plain, words_of_line}
use Rattle.gmp_trace.proofs.WordRows.{decimal_plain}
use Rattle.gmp_trace.proofs.Numbers.{number_again}
use Rattle.gmp_trace.proofs.Rows.{small_again}
use Rattle.gmp_trace.proofs.Lines.{guessed_line}

-- ---- limits

abbrev ten : Limits → ℕ → List Piece → List Piece
ten l bodies more =
    Word (codes "procs") ∷ Number 8 l.procs ∷ Word (codes "machines") ∷ Number 8 l.machines ∷ Word (codes "bodies") ∷ Number 16 bodies
    ∷ Word (codes "channels") ∷ Number 16 l.channels ∷ Word (codes "entries") ∷ Number 64 l.entries ∷ more

abbrev limits_pieces : Limits → ℕ → List Piece
limits_pieces l bodies = ten l bodies (room_pieces l)

abbrev named : List ℕ → ℕ → ℕ → List Piece → List Piece
named name bits n pieces = Word name ∷ Number bits n ∷ pieces

join : (name digits fields more : List ℕ) → 32 ∷ (((name ++ 32 ∷ []) ++ digits) ++ (fields ++ more)) ≡ 32 ∷ ((name ++ 32 ∷ (digits ++ fields)) ++ more)
join name digits fields more = simp append_assoc

limit_fields : (name : List ℕ) (bits n : ℕ) (pieces : List Piece) (more : List ℕ) → limit name n ++ (fields pieces ++ more) ≡ fields (named name bits n pieces) ++ more
unfolding limit
limit_fields name bits n pieces more = join name (decimal n) (fields pieces) more

regroup_limits : (first a b c d e room more : List ℕ)
    → first ++ a ++ b ++ c ++ d ++ e ++ room ++ codes "\n" ++ more ≡ first ++ (a ++ (b ++ (c ++ (d ++ (e ++ (room ++ 10 ∷ more))))))
regroup_limits first a b c d e room more = simp append_assoc

limits_line : (l : Limits) (bodies : ℕ) (more : List ℕ) → limits_text l bodies ++ more ≡ codes "limits" ++ (fields (limits_pieces l bodies) ++ 10 ∷ more)
unfolding limits_text
limits_line l bodies more =
    let entries = named (codes "entries") 64 l.entries (room_pieces l) in
    let channels = named (codes "channels") 16 l.channels entries in
    let stock = named (codes "bodies") 16 bodies channels in
    let machines = named (codes "machines") 8 l.machines stock in
    let tail = 10 ∷ more in
    let chain =
    ap (λ (t : List ℕ). limit (codes "procs") l.procs ++ t)
    (ap (λ (t : List ℕ). limit (codes "machines") l.machines ++ t)
    (ap (λ (t : List ℕ). limit (codes "bodies") bodies ++ t)
    (ap (λ (t : List ℕ). limit (codes "channels") l.channels ++ t) (limit_fields (codes "entries") 64 l.entries (room_pieces l) tail)
    ∙ limit_fields (codes "channels") 16 l.channels entries tail)
    ∙ limit_fields (codes "bodies") 16 bodies channels tail)
    ∙ limit_fields (codes "machines") 8 l.machines stock tail)
    ∙ limit_fields (codes "procs") 8 l.procs machines tail in
    regroup_limits (codes "limits") (limit (codes "procs") l.procs) (limit (codes "machines") l.machines) (limit (codes "bodies") bodies) (limit (codes "channels") l.channels) (limit (codes "entries") l.entries) (fields (room_pieces l)) more
    ∙ ap (λ (t : List ℕ). codes "limits" ++ t) chain

room_plain : (l : Limits) (bodies : ℕ) → FitLimits l bodies → are_plain (room_pieces l) ≡ true
unfolding room_pieces
room_plain l bodies h = of_test (is_whole l) where
  of_test : (whole : Bool) → are_plain (if whole then [] else Word (codes "room") ∷ Number 32 l.room ∷ []) ≡ true
  of_test true = refl
  of_test false = rw (decimal_plain l.room (omega (arith, h.room))) refl

room_few : (l : Limits) → length (room_pieces l) ≤ 2
unfolding room_pieces
room_few l = of_test (is_whole l) where
  of_test : (whole : Bool) → length (if whole then [] else Word (codes "room") ∷ Number 32 l.room ∷ []) ≤ 2
  of_test true = omega arith
  of_test false = omega arith

limits_plain : (l : Limits) (bodies : ℕ) → FitLimits l bodies → are_plain (limits_pieces l bodies) ≡ true
limits_plain l bodies h =
    rw (
      decimal_plain l.procs (omega (arith, h.procs)),
      decimal_plain l.machines (omega (arith, h.machines)),
      decimal_plain bodies (omega (arith, h.stock)),
      decimal_plain l.channels (omega (arith, h.channels)),
      decimal_plain l.entries h.entries,
      room_plain l bodies h,
    ) refl

limits_words : (l : Limits) (bodies : ℕ) (more : List ℕ) → FitLimits l bodies
    → take 4110 (words_on [] (limits_text l bodies ++ more)) ≡ codes "limits" ∷ map piece_text (limits_pieces l bodies)
limits_words l bodies more h =
    ap (λ (t : List ℕ). take 4110 (words_on [] t)) (limits_line l bodies more)
    ∙ ap (λ (ws : List (List ℕ)). take 4110 ws) (words_of_line (codes "limits") (limits_pieces l bodies) more refl (limits_plain l bodies h))
    ∙ take_all 4110 (codes "limits" ∷ map piece_text (limits_pieces l bodies)) (omega (arith, length-map (room_pieces l) piece_text, room_few l))

-- the room is read behind its word, and where there is none it is the entries
room_again : (l : Limits) (bodies : ℕ) → FitLimits l bodies → narrow 32 (room_at (codes "limits" ∷ map piece_text (limits_pieces l bodies))) ≡ l.room
unfolding room_pieces
room_again l bodies h = of_test (is_whole l) refl where
  of_test : (whole : Bool) → is_whole l ≡ whole
      → narrow 32 (room_at (codes "limits" ∷ map piece_text (ten l bodies (if whole then [] else Word (codes "room") ∷ Number 32 l.room ∷ [])))) ≡ l.room
  of_test true is = let same : l.entries ≡ l.room = eqb-true l.entries l.room is in ap (λ (n : ℕ). narrow 32 (number_read (decimal n))) same ∙ small_again 32 l.room h.room (omega (arith, h.room))
  of_test false is = small_again 32 l.room h.room (omega (arith, h.room))

limits_again : (l : Limits) (bodies : ℕ) → FitLimits l bodies → limits_read (codes "limits" ∷ map piece_text (limits_pieces l bodies)) ≡ l
unfolding limits_read
limits_again l bodies h =
    rw (
      room_again l bodies h,
      small_again 8 l.procs h.procs (omega (arith, h.procs)),
      small_again 8 l.machines h.machines (omega (arith, h.machines)),
      small_again 16 l.channels h.channels (omega (arith, h.channels)),
      number_again l.entries h.entries,
    ) refl

bodies_again : (l : Limits) (bodies : ℕ) → FitLimits l bodies → bodies_of (codes "limits" ∷ map piece_text (limits_pieces l bodies)) ≡ bodies
unfolding bodies_of
bodies_again l bodies h = small_again 16 bodies h.stock (omega (arith, h.stock))

pub guessed_limits : (text line : List ℕ) (words : List (List ℕ)) (guess l : Limits) (guess_bodies bodies : ℕ) (more : List ℕ)
    → words ≡ take 4110 (words_on [] text) → guess ≡ limits_read words → guess_bodies ≡ bodies_of words → line ≡ limits_text guess guess_bodies
    → FitLimits l bodies → text ≡ limits_text l bodies ++ more
    → (guess ≡ l) × (guess_bodies ≡ bodies) × (text ≡ line ++ more)
guessed_limits text line words guess l guess_bodies bodies more split is_guess is_bodies written h is =
    let all : words ≡ codes "limits" ∷ map piece_text (limits_pieces l bodies) = split ∙ ap (λ (t : List ℕ). take 4110 (words_on [] t)) is ∙ limits_words l bodies more h in
    let same : guess ≡ l = is_guess ∙ ap limits_read all ∙ limits_again l bodies h in
    let stock : guess_bodies ≡ bodies = is_bodies ∙ ap bodies_of all ∙ bodies_again l bodies h in
    (same, stock, is ∙ ap (λ (t : List ℕ). t ++ more) (sym (written ∙ ap₂ limits_text same stock)))

pub are_of_types : (l : Limits) (bodies : ℕ) (capacities : List ℕ) → AreLimits l bodies capacities → FitLimits l bodies
are_of_types l bodies capacities h = record {
  procs = omega (arith, h.procs, h.machines);
  machines = omega (arith, h.machines);
  stock = omega (arith, h.stock);
  channels = omega (arith, h.channels);
  entries = omega (arith, h.entries);
  room = omega (arith, h.room);
}

-- ---- capacities

abbrev IsSmall : ℕ → Type 0
IsSmall c = c < 2 ^ 32

capacities_plain : (cs : List ℕ) → All IsSmall cs → are_plain (map capacity_piece cs) ≡ true
capacities_plain [] h = refl
capacities_plain (c ∷ cs) h =
    let small : IsSmall c = All-head IsSmall c cs h in
    rw (decimal_plain c (omega (arith, small)), capacities_plain cs (All-tail IsSmall c cs h)) refl

capacities_back : (cs : List ℕ) → All IsSmall cs → map capacity_of (map piece_text (map capacity_piece cs)) ≡ cs
capacities_back [] h = refl
capacities_back (c ∷ cs) h =
    let small : IsSmall c = All-head IsSmall c cs h in
    rw (small_again 32 c small (omega (arith, small)), capacities_back cs (All-tail IsSmall c cs h)) refl

pub guessed_capacities : (text line : List ℕ) (words : List (List ℕ)) (guess cs more : List ℕ)
    → words ≡ take 4110 (words_on [] text) → guess ≡ map capacity_of (drop 1 words) → line ≡ capacities_text guess
    → All (λ c. c < 2 ^ 32) cs → length cs < 1030 → text ≡ capacities_text cs ++ more
    → (guess ≡ cs) × (text ≡ line ++ more)
unfolding capacities_text
guessed_capacities text line words guess cs more split is_guess written h few is =
    guessed_line (codes "caps") (map capacity_piece) (λ ws. map capacity_of (drop 1 ws)) text line words guess cs more refl split is_guess written
    (capacities_plain cs h) (omega (arith, length-map cs capacity_piece, few)) (capacities_back cs h) is
