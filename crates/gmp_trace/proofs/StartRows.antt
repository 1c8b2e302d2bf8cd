-- The line of a goroutine is taken for the goroutine that it was written for.
use Rattle.std.proofs.Common.{◌≡◌, ℕ, ◌<◌, ◌≤◌, ◌^◌, ◌==◌, true, false, List, [], ◌∷◌, ◌++◌, map, take, length, refl, sym, ap, ap₂, ◌∙◌, append_assoc, arith, rules, decimal, codes, Option, Some, None, All, IfSome, length-append}
use Rattle.std.proofs.lemmas.Fmt.{decimal_nonempty}
use Rattle.std.proofs.lemmas.List.{length-map, take_all}
use Rattle.std.proofs.lemmas.List.Elements.{All-head, All-tail}
use Rattle.std.specs.List.{AllByRecursion}
use Rattle.std.specs.Str.{bytes_eq}
use Rattle.gmp_base.specs.declared.ask.Woke.{Woke}
use Rattle.gmp_base.specs.declared.ask.Woke.TheVariants as woke
use Rattle.gmp_base.specs.Fits.{IsWord}
use Rattle.gmp_seq.specs.declared.status.Deal.{Deal}
use Rattle.gmp_seq.specs.declared.status.Deal.TheVariants as deal
use Rattle.gmp_seq.specs.declared.status.Goroutine.{Goroutine}
use Rattle.gmp_seq.specs.declared.status.Kind.{Kind}
use Rattle.gmp_seq.specs.declared.status.Kind.TheVariants as kind
use Rattle.gmp_seq.specs.declared.status.Offer.{Offer}
use Rattle.gmp_seq.specs.declared.status.TicketPlace.TheVariants.{Shelf, Out}
use Rattle.gmp_seq.specs.declared.status.Status.{Status}
use Rattle.gmp_seq.specs.declared.status.Status.TheVariants as status
use Rattle.gmp_seq.specs.declared.status.Wait.{Wait}
use Rattle.gmp_start.specs.Forms.{FitsDeal, FitsOffer, FitsWoke, IsFormedWait}
use Rattle.gmp_trace.specs.Pieces.{Piece, piece_text, number, until_pieces}
use Rattle.gmp_trace.specs.Pieces.Piece.{Number}
use Rattle.gmp_trace.specs.Guess.{words_on, narrow, number_at, parted, until_of}
use Rattle.gmp_trace.proofs.Lexing.{are_plain, is_plain, plain-append, parted_again, decimal_has_no}
use Rattle.gmp_trace.proofs.Numbers.{IsDigit, decimal_digits, number_again}
use Rattle.gmp_trace.proofs.Rows.{small_again}
use Rattle.gmp_trace.proofs.WordRows.{decimal_plain}
use Rattle.gmp_trace.specs.StartForms.{FitsStatus}
use Rattle.gmp_trace.specs.StartGuess.{behind_until, kind_read, offer_read, offers_read, row_read, status_read, wait_read, woke_read}
use Rattle.gmp_trace.specs.StartText.{deal_text, goroutine_line, kind_piece, offer_piece, offer_text, status_pieces, woke_pieces}
use Rattle.gmp_trace.proofs.Lines.{guessed_line, pieces-append, until_few}

-- What one that is ready is to be told

is_some_word : (ds : List ℕ) → 0 < length ds → bytes_eq ds [] ≡ false
is_some_word [] h = absurd (omega arith)
is_some_word (d ∷ ds) h = refl

woke_back : (w : Woke) → FitsWoke w → woke_read (map piece_text (woke_pieces w)) ≡ w
unfolding woke_read
woke_back woke.First h = refl
woke_back woke.Done h = refl
woke_back (woke.Got v true) h = rw (number_again v h) refl
woke_back (woke.Got v false) h = rw (number_again v h) refl
woke_back (woke.Chose i None) h = rw (small_again 8 i h (omega (arith, h))) refl
woke_back (woke.Chose i (Some (v, true))) h =
    rw (is_some_word (decimal v) (decimal_nonempty v h.1), small_again 8 i h.0 (omega (arith, h.0)), number_again v h.1) refl
woke_back (woke.Chose i (Some (v, false))) h =
    rw (is_some_word (decimal v) (decimal_nonempty v h.1), small_again 8 i h.0 (omega (arith, h.0)), number_again v h.1) refl
woke_back woke.Late h = refl
woke_back (woke.Number n) h = rw (number_again n h) refl
woke_back (woke.Fault f) h = ap woke.Fault (sym h)
woke_back _ h = absurd h

woke_plain : (w : Woke) → FitsWoke w → are_plain (woke_pieces w) ≡ true
woke_plain woke.First h = refl
woke_plain woke.Done h = refl
woke_plain (woke.Got v true) h = rw (decimal_plain v h) refl
woke_plain (woke.Got v false) h = rw (decimal_plain v h) refl
woke_plain (woke.Chose i None) h = rw (decimal_plain i (omega (arith, h))) refl
woke_plain (woke.Chose i (Some (v, true))) h = rw (decimal_plain i (omega (arith, h.0)), decimal_plain v h.1) refl
woke_plain (woke.Chose i (Some (v, false))) h = rw (decimal_plain i (omega (arith, h.0)), decimal_plain v h.1) refl
woke_plain woke.Late h = refl
woke_plain (woke.Number n) h = rw (decimal_plain n h) refl
woke_plain (woke.Fault f) h = rw (h, decimal_plain 4 (omega arith)) refl
woke_plain _ h = absurd h

woke_few : (w : Woke) → length (woke_pieces w) ≤ 4
woke_few (woke.Chose i None) = omega arith
woke_few (woke.Chose i (Some (v, sent))) = omega arith
woke_few _ = omega arith

-- What one that waits waits for

kind_back : (k : Kind) → kind_read (piece_text (kind_piece k)) ≡ k
unfolding kind_read
kind_back kind.Plain = refl
kind_back kind.Select = refl
kind_back kind.Sleep = refl
kind_back kind.Parked = refl

kind_plain : (k : Kind) → is_plain (piece_text (kind_piece k)) ≡ true
kind_plain kind.Plain = refl
kind_plain kind.Select = refl
kind_plain kind.Sleep = refl
kind_plain kind.Parked = refl

case_apart : (k : ℕ) (rest : List ℕ) → k < 8 → parted 58 (decimal k ++ 58 ∷ rest) ≡ (decimal k, rest)
case_apart k rest h = parted_again 58 (decimal k) rest (decimal_has_no 58 k (omega arith) (omega arith))

value_apart : (c v : ℕ) → c < 2 ^ 16 → parted 58 (decimal c ++ codes ":" ++ decimal v) ≡ (decimal c, decimal v)
value_apart c v h = ap (λ (t : List ℕ). parted 58 t) (append_assoc (decimal c) (codes ":") (decimal v)) ∙ parted_again 58 (decimal c) (decimal v) (decimal_has_no 58 c (omega arith) (omega arith))

send_apart : (rest : List ℕ) → parted 58 (115 ∷ 101 ∷ 110 ∷ 100 ∷ 58 ∷ rest) ≡ (codes "send", rest)
unfolding parted
send_apart rest = refl

recv_apart : (rest : List ℕ) → parted 58 (114 ∷ 101 ∷ 99 ∷ 118 ∷ 58 ∷ rest) ≡ (codes "recv", rest)
unfolding parted
recv_apart rest = refl

send_back : (k c v : ℕ) → k < 8 → c < 2 ^ 16 → IsWord v
    → offer_read (decimal k ++ deal_text c (deal.Send v)) ≡ record { case = k; channel = record { 0 = c }; deal = deal.Send v }
unfolding offer_read
send_back k c v hk hc hv =
    rw (
      case_apart k (115 ∷ 101 ∷ 110 ∷ 100 ∷ 58 ∷ (decimal c ++ codes ":" ++ decimal v)) hk,
      send_apart (decimal c ++ codes ":" ++ decimal v),
      value_apart c v hc,
      small_again 8 k (omega (arith, hk)) (omega (arith, hk)),
      small_again 16 c hc (omega (arith, hc)),
      number_again v hv,
    ) refl

recv_back : (k c : ℕ) → k < 8 → c < 2 ^ 16 → offer_read (decimal k ++ deal_text c deal.Receive) ≡ record { case = k; channel = record { 0 = c }; deal = deal.Receive }
unfolding offer_read
recv_back k c hk hc =
    rw (
      case_apart k (114 ∷ 101 ∷ 99 ∷ 118 ∷ 58 ∷ decimal c) hk,
      recv_apart (decimal c),
      small_again 8 k (omega (arith, hk)) (omega (arith, hk)),
      small_again 16 c hc (omega (arith, hc)),
    ) refl

offer_back : (channels : ℕ) (o : Offer) → channels ≤ 1024 → FitsOffer channels o → offer_read (offer_text o) ≡ o
offer_back channels o few h = by_deal o.deal h.deal where
  small : o.channel.0 < 2 ^ 16
  small = omega (arith, h.listed, few)

  by_deal : (d : Deal) → FitsDeal d → offer_read (decimal o.case ++ deal_text o.channel.0 d) ≡ record { case = o.case; channel = o.channel; deal = d }
  by_deal (deal.Send v) fits = send_back o.case o.channel.0 v h.case small fits
  by_deal deal.Receive fits = recv_back o.case o.channel.0 h.case small

deal_plain : (c : ℕ) (d : Deal) → c < 2 ^ 16 → FitsDeal d → is_plain (deal_text c d) ≡ true
deal_plain c (deal.Send v) small h =
    plain-append (codes ":send:" ++ decimal c ++ codes ":") (decimal v)
    (plain-append (codes ":send:" ++ decimal c) (codes ":") (plain-append (codes ":send:") (decimal c) refl (decimal_plain c (omega (arith, small)))) refl)
    (decimal_plain v h)
deal_plain c deal.Receive small h = plain-append (codes ":recv:") (decimal c) refl (decimal_plain c (omega (arith, small)))

offer_plain : (channels : ℕ) (o : Offer) → channels ≤ 1024 → FitsOffer channels o → is_plain (offer_text o) ≡ true
offer_plain channels o few h = plain-append (decimal o.case) (deal_text o.channel.0 o.deal) (decimal_plain o.case (omega (arith, h.case))) (deal_plain o.channel.0 o.deal (omega (arith, h.listed, few)) h.deal)

offers_back : (channels : ℕ) (os : List Offer) → channels ≤ 1024 → All (FitsOffer channels) os → map offer_read (map piece_text (map offer_piece os)) ≡ os
offers_back channels [] few h = refl
offers_back channels (o ∷ os) few h =
    rw (offer_back channels o few (All-head (FitsOffer channels) o os h), offers_back channels os few (All-tail (FitsOffer channels) o os h)) refl

offers_plain : (channels : ℕ) (os : List Offer) → channels ≤ 1024 → All (FitsOffer channels) os → are_plain (map offer_piece os) ≡ true
offers_plain channels [] few h = refl
offers_plain channels (o ∷ os) few h =
    rw (offer_plain channels o few (All-head (FitsOffer channels) o os h), offers_plain channels os few (All-tail (FitsOffer channels) o os h)) refl

offers_all : (channels : ℕ) (os : List Offer) → channels ≤ 1024 → length os ≤ 8 → All (FitsOffer channels) os → offers_read (map piece_text (map offer_piece os)) ≡ os
offers_all channels os few eight h =
    ap (λ (ws : List (List ℕ)). map offer_read ws) (take_all 8 (map piece_text (map offer_piece os)) (omega (arith, eight, length-map (map offer_piece os) piece_text, length-map os offer_piece)))
    ∙ offers_back channels os few h

not_until : (ds rest : List ℕ) → AllByRecursion IsDigit ds → 0 < length ds → bytes_eq (ds ++ rest) (codes "until") ≡ false
not_until [] rest h some = absurd (omega arith)
not_until (d ∷ ds) rest h some = let other : (d == 117) ≡ false = search (rules, h.0) in rw other refl

offer_not_until : (channels : ℕ) (o : Offer) → FitsOffer channels o → bytes_eq (offer_text o) (codes "until") ≡ false
offer_not_until channels o h =
    not_until (decimal o.case) (deal_text o.channel.0 o.deal) (decimal_digits o.case (omega (arith, h.case))) (decimal_nonempty o.case (omega (arith, h.case)))

until_back : (channels : ℕ) (until : Option ℕ) (os : List Offer) → IfSome until IsWord → All (FitsOffer channels) os
    → until_of (map piece_text (until_pieces until ++ map offer_piece os)) ≡ until
until_back channels (Some d) os h all = rw (number_again d h) refl
until_back channels None [] h all = refl
until_back channels None (o ∷ os) h all = rw (offer_not_until channels o (All-head (FitsOffer channels) o os all)) refl

behind_back : (channels : ℕ) (until : Option ℕ) (os : List Offer) → All (FitsOffer channels) os
    → behind_until (map piece_text (until_pieces until ++ map offer_piece os)) ≡ map piece_text (map offer_piece os)
behind_back channels (Some d) os all = refl
behind_back channels None [] all = refl
behind_back channels None (o ∷ os) all = rw (offer_not_until channels o (All-head (FitsOffer channels) o os all)) refl

wait_back : (channels : ℕ) (w : Wait) → channels ≤ 1024 → IsWord w.arrival → IsFormedWait channels w
    → wait_read (decimal w.arrival ∷ piece_text (kind_piece w.kind) ∷ map piece_text (until_pieces w.until ++ map offer_piece w.offers)) ≡ status.Waiting w
unfolding wait_read
wait_back channels w few arrival h =
    rw (
      number_again w.arrival arrival,
      kind_back w.kind,
      behind_back channels w.until w.offers h.offers,
      offers_all channels w.offers few h.few h.offers,
      until_back channels w.until w.offers h.until h.offers,
    ) refl

until_plain : (until : Option ℕ) → IfSome until IsWord → are_plain (until_pieces until) ≡ true
until_plain None h = refl
until_plain (Some d) h = rw (decimal_plain d h) refl

-- Statuses

status_back : (machines channels : ℕ) (s : Status) → machines ≤ 64 → channels ≤ 1024 → FitsStatus machines channels s → status_read (map piece_text (status_pieces s)) ≡ s
unfolding status_read
status_back machines channels status.Dormant few some h = refl
status_back machines channels status.Dead few some h = refl
status_back machines channels (status.Running m) few some h = rw (small_again 8 m.0 (omega (arith, h, few)) (omega (arith, h, few))) refl
status_back machines channels (status.Calling m) few some h = rw (small_again 8 m.0 (omega (arith, h, few)) (omega (arith, h, few))) refl
status_back machines channels (status.Ready Shelf answer) few some h = ap (status.Ready Shelf) (woke_back answer h)
status_back machines channels (status.Ready Out answer) few some h = ap (status.Ready Out) (woke_back answer h)
status_back machines channels (status.Waiting w) few some h = wait_back channels w some h.0 h.1

status_plain : (machines channels : ℕ) (s : Status) → machines ≤ 64 → channels ≤ 1024 → FitsStatus machines channels s → are_plain (status_pieces s) ≡ true
status_plain machines channels status.Dormant few some h = refl
status_plain machines channels status.Dead few some h = refl
status_plain machines channels (status.Running m) few some h = rw (decimal_plain m.0 (omega (arith, h, few))) refl
status_plain machines channels (status.Calling m) few some h = rw (decimal_plain m.0 (omega (arith, h, few))) refl
status_plain machines channels (status.Ready Shelf answer) few some h = rw (woke_plain answer h) refl
status_plain machines channels (status.Ready Out answer) few some h = rw (woke_plain answer h) refl
status_plain machines channels (status.Waiting w) few some h =
    rw (
      decimal_plain w.arrival h.0,
      kind_plain w.kind,
      pieces-append (until_pieces w.until) (map offer_piece w.offers) (until_plain w.until h.1.until) (offers_plain channels w.offers some h.1.offers),
    ) refl

status_few : (machines channels : ℕ) (s : Status) → FitsStatus machines channels s → length (status_pieces s) ≤ 20
status_few machines channels (status.Ready Shelf answer) h = omega (arith, woke_few answer)
status_few machines channels (status.Ready Out answer) h = omega (arith, woke_few answer)
status_few machines channels (status.Waiting w) h =
    omega (arith, h.1.few, until_few w.until, length-append (until_pieces w.until) (map offer_piece w.offers), length-map w.offers offer_piece)
status_few machines channels _ h = omega arith

-- Lines

abbrev row_pieces : ℕ × Goroutine → List Piece
row_pieces r = Number 16 r.0 ∷ number r.1.epoch ∷ status_pieces r.1.status

abbrev numbered_row : List (List ℕ) → ℕ × Goroutine
numbered_row ws = (narrow 16 (number_at 1 ws), row_read ws)

row_back : (machines channels g : ℕ) (x : Goroutine) → machines ≤ 64 → channels ≤ 1024 → g < 2 ^ 16 → IsWord x.epoch → FitsStatus machines channels x.status
    → numbered_row (codes "g" ∷ map piece_text (row_pieces (g, x))) ≡ (g, x)
unfolding row_read
row_back machines channels g x few some small epoch h =
    rw (small_again 16 g small (omega (arith, small)), number_again x.epoch epoch, status_back machines channels x.status few some h) refl

row_plain : (machines channels g : ℕ) (x : Goroutine) → machines ≤ 64 → channels ≤ 1024 → g < 2 ^ 16 → IsWord x.epoch → FitsStatus machines channels x.status
    → are_plain (row_pieces (g, x)) ≡ true
row_plain machines channels g x few some small epoch h =
    rw (decimal_plain g (omega (arith, small)), decimal_plain x.epoch epoch, status_plain machines channels x.status few some h) refl

pub guessed_row : (text written : List ℕ) (words : List (List ℕ)) (guess_g : ℕ) (guess : Goroutine) (machines channels g : ℕ) (x : Goroutine) (more : List ℕ)
    → words ≡ take 4110 (words_on [] text) → guess_g ≡ narrow 16 (number_at 1 words) → guess ≡ row_read words → written ≡ goroutine_line guess_g guess
    → g < 2 ^ 16 → machines ≤ 64 → channels ≤ 1024 → IsWord x.epoch → FitsStatus machines channels x.status → text ≡ goroutine_line g x ++ more
    → (guess_g ≡ g) × (guess ≡ x) × (text ≡ written ++ more)
unfolding goroutine_line
guessed_row text written words guess_g guess machines channels g x more split is_g is_guess is_written small few some epoch h is =
    let both : (guess_g, guess) ≡ numbered_row words = ap₂ (λ (a : ℕ) (b : Goroutine). let p : ℕ × Goroutine = (a, b) in p) is_g is_guess in
    let same = guessed_line (codes "g") row_pieces numbered_row text written words (guess_g, guess) (g, x) more refl split both is_written
    (row_plain machines channels g x few some small epoch h) (omega (arith, status_few machines channels x.status h)) (row_back machines channels g x few some small epoch h) is in
    (ap (λ (p : ℕ × Goroutine). p.0) same.0, ap (λ (p : ℕ × Goroutine). p.1) same.0, same.1)
