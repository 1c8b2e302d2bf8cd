-- Rows, offers and answers of the forms.
use Rattle.std.proofs.Common.{◌≡◌, ◌≤◌, inl, inr, lit<, ℕ, zero, suc, ◌+◌, Bool, true, false, cond, nat_le, ◌==◌, Option, None, Some, List, [], ◌∷◌, length, map, set, replicate, refl, subst, arith}
use Rattle.std.proofs.lemmas.Bool.{and_parts, ltb-true}
use Rattle.std.proofs.lemmas.List.Elements.{All-head, All-tail, All-cons, All-nil}
use Rattle.std.specs.List.{slice_get, All}
use Rattle.std.specs.Option.{option_map}
use Rattle.std.specs.Prelude.{IfSome}
use Rattle.gmp_base.specs.declared.ask.Woke.{Woke}
use Rattle.gmp_base.specs.declared.ask.Woke.TheVariants as woke
use Rattle.gmp_base.specs.declared.cases.Case.{Case}
use Rattle.gmp_base.specs.declared.cases.Case.TheVariants as case
use Rattle.gmp_base.specs.declared.number.CNo.{CNo}
use Rattle.gmp_base.specs.Fits.{FitsCase, IsWord}
use Rattle.gmp_seq.proofs.Changes.{RisesFrom}
use Rattle.gmp_seq.proofs.Epochs.{at_set}
use Rattle.gmp_seq.proofs.Lands.{IsWordyDeal}
use Rattle.gmp_seq.proofs.Manned.{status_of}
use Rattle.gmp_seq.proofs.Waiting.{In, first_waits}
use Rattle.gmp_seq.proofs.Words.{RowsFit, WaitsFit}
use Rattle.gmp_seq.specs.declared.status.Deal.{Deal}
use Rattle.gmp_seq.specs.declared.status.Deal.TheVariants as deal
use Rattle.gmp_seq.specs.declared.status.Direction.{Direction}
use Rattle.gmp_seq.specs.declared.status.Goroutine.{Goroutine}
use Rattle.gmp_seq.specs.declared.status.Kind.{Kind}
use Rattle.gmp_seq.specs.declared.status.Kind.TheVariants as kind
use Rattle.gmp_seq.specs.declared.status.Offer.{Offer}
use Rattle.gmp_seq.specs.declared.status.TicketPlace.TheVariants.{Shelf}
use Rattle.gmp_seq.specs.declared.status.Status.{Status}
use Rattle.gmp_seq.specs.declared.status.Status.TheVariants as status
use Rattle.gmp_seq.specs.declared.status.Waiter.{Waiter}
use Rattle.gmp_seq.specs.Channels.{Channel, new_channel}
use Rattle.gmp_seq.specs.State.{dormant, first_goroutine}
use Rattle.gmp_seq.specs.Step.{none_missing}
use Rattle.gmp_seq.specs.Table.{Table, woken_with, late_answer, due_answer}
use Rattle.gmp_seq.specs.Waits.{closed_answer, close_answer, first_offer_on, first_on, offers_from, offers_of, receiver_answer, sender_answer, waiters}
use Rattle.gmp_start.specs.Forms.{FitsDeal, FitsOffer, FitsWoke, IsFormed, IsFormedChannel, IsFormedWait, SuitsKind}

-- Rows

abbrev pub AreFormed : ℕ → List Goroutine → Type 0
AreFormed n gs = (i : ℕ) (s : Status) → status_of (slice_get gs i) ≡ Some s → IsFormed n s

pub set_formed : (n : ℕ) (gs : List Goroutine) (k : ℕ) (y : Goroutine) → AreFormed n gs → IsFormed n y.status → AreFormed n (set gs k y)
set_formed n gs k y formed h i s =
    at_set (λ (o : Option Goroutine). status_of o ≡ Some s → IsFormed n s) gs k i y
    (λ same e. let is : y.status ≡ s = cc in subst (IsFormed n) is h)
    (formed i s)

pub woken_formed : (n : ℕ) (answer : Status → Option Woke) → ((before : Status) (a : Woke) → IsFormed n before → answer before ≡ Some a → FitsWoke a)
    → (gs : List Goroutine) → AreFormed n gs → AreFormed n (map (λ (x : Goroutine). woken_with (answer x.status) x) gs)
woken_formed n answer fits [] formed i s e = absurd cc
woken_formed n answer fits (y ∷ gs) formed zero s e = by_answer (answer y.status) refl e where
  by_answer : (o : Option Woke) → answer y.status ≡ o → Some (woken_with o y).status ≡ Some s → IsFormed n s
  by_answer None is e = formed 0 s e
  by_answer (Some a) is e = let same : status.Ready Shelf a ≡ s = cc in subst (IsFormed n) same (fits y.status a (formed 0 y.status refl) is)
woken_formed n answer fits (y ∷ gs) formed (suc i) s e = woken_formed n answer fits gs (λ j. formed (suc j)) i s e

-- beside more channels
offers_more : (n k : ℕ) → n ≤ k → (os : List Offer) → All (FitsOffer n) os → All (FitsOffer k) os
offers_more n k le [] h = All-nil (FitsOffer k)
offers_more n k le (o ∷ os) h =
    let first = All-head (FitsOffer n) o os h in
    All-cons (FitsOffer k) o os (record { case = first.case; listed = omega (arith, first.listed, le); deal = first.deal })
    (offers_more n k le os (All-tail (FitsOffer n) o os h))

pub formed_more : (n k : ℕ) → n ≤ k → (s : Status) → IsFormed n s → IsFormed k s
formed_more n k le (status.Ready place answer) h = h
formed_more n k le (status.Waiting w) h = record { few = h.few; until = h.until; offers = offers_more n k le w.offers h.offers; kind = h.kind }
formed_more n k le _ h = tt

-- Offers

pub all_in : {A : Type 0} (P : A → Type 0) (xs : List A) (x : A) → All P xs → In x xs → P x
all_in P [] x all h = absurd h
all_in P (y ∷ ys) x all (inl same) = subst P same (All-head P y ys all)
all_in P (y ∷ ys) x all (inr h) = all_in P ys x (All-tail P y ys all) h

found_fits : (n : ℕ) (c : CNo) (os : List Offer) (o : Offer) → All (FitsOffer n) os → first_offer_on c os ≡ Some o → FitsOffer n o
found_fits n c [] o all e = absurd cc
found_fits n c (x ∷ os) o all e = by_test (x.channel.0 == c.0) e (found_fits n c os o (All-tail (FitsOffer n) x os all)) where
  by_test : (b : Bool) → cond b (Some x) (first_offer_on c os) ≡ Some o → (first_offer_on c os ≡ Some o → FitsOffer n o) → FitsOffer n o
  by_test true e rest = let same : x ≡ o = cc in subst (FitsOffer n) same (All-head (FitsOffer n) x os all)
  by_test false e rest = rest e

-- the first that waits on a channel
pub first_fits : (n : ℕ) (t : Table) (c : CNo) (d : Direction) (w : Waiter) → AreFormed n t.goroutines → first_on (waiters t) c d ≡ Some w → FitsOffer n w.offer
first_fits n t c d w formed first =
    let is = (first_waits t c d w first).0 in
    let wait : IsFormedWait n is.wait = formed w.g.0 (status.Waiting is.wait) is.status in
    all_in (FitsOffer n) is.wait.offers w.offer wait.offers is.offer

-- of a select's cases, all on channels that were made
pub offers_fit : (channels : List Channel) (i : ℕ) (cases : List Case) → All FitsCase cases → none_missing channels cases ≡ true → i + length cases ≤ 8
    → All (FitsOffer (length channels)) (offers_from i cases)
offers_fit channels i [] fit made few = All-nil (FitsOffer (length channels))
offers_fit channels i (case.Send None v ∷ cases) fit made few = offers_fit channels (i + 1) cases (All-tail FitsCase _ cases fit) made (omega (arith, few))
offers_fit channels i (case.Send (Some c) v ∷ cases) fit made few =
    All-cons (FitsOffer (length channels)) _ (offers_from (i + 1) cases)
    (record { case = omega (arith, few); listed = ltb-true c.0 (length channels) (and_parts _ _ made).0; deal = (All-head FitsCase (case.Send (Some c) v) cases fit).1 })
    (offers_fit channels (i + 1) cases (All-tail FitsCase _ cases fit) (and_parts _ _ made).1 (omega (arith, few)))
offers_fit channels i (case.Recv None ∷ cases) fit made few = offers_fit channels (i + 1) cases (All-tail FitsCase _ cases fit) made (omega (arith, few))
offers_fit channels i (case.Recv (Some c) ∷ cases) fit made few =
    All-cons (FitsOffer (length channels)) _ (offers_from (i + 1) cases)
    (record { case = omega (arith, few); listed = ltb-true c.0 (length channels) (and_parts _ _ made).0; deal = tt })
    (offers_fit channels (i + 1) cases (All-tail FitsCase _ cases fit) (and_parts _ _ made).1 (omega (arith, few)))

pub offers_few : (i : ℕ) (cases : List Case) → length (offers_from i cases) ≤ length cases
offers_few i [] = omega arith
offers_few i (case.Send None v ∷ cases) = omega (arith, offers_few (i + 1) cases)
offers_few i (case.Send (Some c) v ∷ cases) = omega (arith, offers_few (i + 1) cases)
offers_few i (case.Recv None ∷ cases) = omega (arith, offers_few (i + 1) cases)
offers_few i (case.Recv (Some c) ∷ cases) = omega (arith, offers_few (i + 1) cases)

-- Answers

pub receiver_fits : (n : ℕ) (why : Kind) (o : Offer) (v : ℕ) (sent : Bool) → FitsOffer n o → IsWord v → FitsWoke (receiver_answer why o v sent)
receiver_fits n kind.Select o v sent fits word = (omega (arith, fits.case), word)
receiver_fits n kind.Plain o v sent fits word = word
receiver_fits n kind.Sleep o v sent fits word = word
receiver_fits n kind.Parked o v sent fits word = word

pub sender_fits : (n : ℕ) (w : Waiter) → FitsOffer n w.offer → FitsWoke (sender_answer w)
sender_fits n w fits = by_kind w.kind refl where
  by_kind : (k : Kind) → w.kind ≡ k → FitsWoke (sender_answer w)
  by_kind kind.Select e = rw e (omega (arith, fits.case))
  by_kind kind.Plain e = rw e tt
  by_kind kind.Sleep e = rw e tt
  by_kind kind.Parked e = rw e tt

closed_fits : (n : ℕ) (why : Kind) (o : Offer) → FitsOffer n o → FitsWoke (closed_answer why o)
closed_fits n why o fits = by_deal o.deal refl where
  by_deal : (d : Deal) → o.deal ≡ d → FitsWoke (closed_answer why o)
  by_deal (deal.Send v) e = rw e refl
  by_deal deal.Receive e = rw e (receiver_fits n why o 0 false fits (lit< tt))

pub close_fits : (n : ℕ) (c : CNo) (before : Status) (a : Woke) → IsFormed n before → close_answer c before ≡ Some a → FitsWoke a
close_fits n c (status.Waiting w) a formed e = by_offer (first_offer_on c w.offers) refl e where
  by_offer : (o : Option Offer) → first_offer_on c w.offers ≡ o → option_map (closed_answer w.kind) o ≡ Some a → FitsWoke a
  by_offer None is e = absurd cc
  by_offer (Some o) is e =
      let same : closed_answer w.kind o ≡ a = cc in subst FitsWoke same (closed_fits n w.kind o (found_fits n c w.offers o formed.offers is))
close_fits n c _ a formed e = absurd cc

late_fits : (why : Kind) → FitsWoke (late_answer why)
late_fits kind.Plain = tt
late_fits kind.Select = tt
late_fits kind.Sleep = tt
late_fits kind.Parked = tt

pub due_fits : (n now : ℕ) (before : Status) (a : Woke) → IsFormed n before → due_answer now before ≡ Some a → FitsWoke a
due_fits n now (status.Waiting w) a formed e = by_until w.until refl where
  by_test : (b : Bool) → cond b (Some (late_answer w.kind)) None ≡ Some a → FitsWoke a
  by_test true e = let same : late_answer w.kind ≡ a = cc in subst FitsWoke same (late_fits w.kind)
  by_test false e = absurd cc

  by_until : (u : Option ℕ) → w.until ≡ u → FitsWoke a
  by_until None is = let none : None ≡ Some a = rw is at e in absurd cc
  by_until (Some u) is = by_test (nat_le u now) (rw is at e)
due_fits n now _ a formed e = absurd cc

-- Cases rise

rises_later : (n k : ℕ) (offers : List Offer) → n ≤ k → RisesFrom k offers → RisesFrom n offers
rises_later n k [] le h = tt
rises_later n k (o ∷ offers) le (first, rest) = (omega arith, rest)

pub offers_rise : (i : ℕ) (cases : List Case) → RisesFrom i (offers_from i cases)
offers_rise i [] = tt
offers_rise i (case.Send None v ∷ cases) = rises_later i (i + 1) _ (omega arith) (offers_rise (i + 1) cases)
offers_rise i (case.Send (Some c) v ∷ cases) = (omega arith, offers_rise (i + 1) cases)
offers_rise i (case.Recv None ∷ cases) = rises_later i (i + 1) _ (omega arith) (offers_rise (i + 1) cases)
offers_rise i (case.Recv (Some c) ∷ cases) = (omega arith, offers_rise (i + 1) cases)

pub plain_suits : (x : Case) → SuitsKind kind.Plain (offers_of (x ∷ [])) None
plain_suits (case.Send None v) = (inl refl, refl)
plain_suits (case.Send (Some c) v) = (inr (_, refl, refl), refl)
plain_suits (case.Recv None) = (inl refl, refl)
plain_suits (case.Recv (Some c)) = (inr (_, refl, refl), refl)

-- Words, as another proof wants them

all_from_in : (P : ℕ → Type 0) (xs : List ℕ) → ((v : ℕ) → In v xs → P v) → All P xs
all_from_in P [] h = All-nil P
all_from_in P (x ∷ xs) h = All-cons P x xs (h x (inl refl)) (all_from_in P xs (λ v k. h v (inr k)))

pub rows_fit : (xs : List Channel) → All IsFormedChannel xs → RowsFit xs
rows_fit [] all i = record { items = λ v h. absurd h; capacity = omega arith }
rows_fit (x ∷ xs) all zero =
    let first = All-head IsFormedChannel x xs all in
    record { items = λ v h. all_in IsWord x.items v first.items h; capacity = first.capacity }
rows_fit (x ∷ xs) all (suc i) = rows_fit xs (All-tail IsFormedChannel x xs all) i

pub channels_fit : (xs : List Channel) → RowsFit xs → All IsFormedChannel xs
channels_fit [] rows = All-nil IsFormedChannel
channels_fit (x ∷ xs) rows =
    All-cons IsFormedChannel x xs (record { capacity = (rows 0).capacity; items = all_from_in IsWord x.items (rows 0).items }) (channels_fit xs (λ i. rows (suc i)))

wordy_deal : (d : Deal) → FitsDeal d → IsWordyDeal d
wordy_deal (deal.Send v) h = h
wordy_deal deal.Receive h = tt

until_word : (until : Option ℕ) (moment : ℕ) → IfSome until IsWord → until ≡ Some moment → IsWord moment
until_word None moment fits e = absurd cc
until_word (Some x) moment fits e = let same : x ≡ moment = cc in subst IsWord same fits

pub waits_fit : (n : ℕ) (gs : List Goroutine) → AreFormed n gs → WaitsFit gs
waits_fit n gs formed i x e =
    let wait : IsFormedWait n x = formed i (status.Waiting x) e in
    record {
      offers = λ o h. let fits : FitsOffer n o = all_in (FitsOffer n) x.offers o wait.offers h in wordy_deal o.deal fits.deal;
      until = λ moment. until_word x.until moment wait.until;
    }

-- At the opening

none_formed : (k i : ℕ) (s : Status) → status_of (slice_get (replicate k dormant) i) ≡ Some s → IsFormed 0 s
none_formed zero i s e = absurd cc
none_formed (suc k) zero s e = let is : status.Dormant ≡ s = cc in subst (IsFormed 0) is tt
none_formed (suc k) (suc i) s e = none_formed k i s e

pub opening_formed : (bodies i : ℕ) (s : Status) → status_of (slice_get (first_goroutine ∷ replicate bodies dormant) i) ≡ Some s → IsFormed 0 s
opening_formed bodies zero s e = let is : status.Ready Shelf woke.First ≡ s = cc in subst (IsFormed 0) is tt
opening_formed bodies (suc i) s e = none_formed bodies i s e

pub new_formed : (capacities : List ℕ) → All (λ (capacity : ℕ). capacity ≤ 4096) capacities → All IsFormedChannel (map new_channel capacities)
new_formed [] fit = All-nil IsFormedChannel
new_formed (x ∷ xs) fit =
    All-cons IsFormedChannel (new_channel x) (map new_channel xs) (record { capacity = All-head (λ (capacity : ℕ). capacity ≤ 4096) x xs fit; items = All-nil IsWord })
    (new_formed xs (All-tail (λ (capacity : ℕ). capacity ≤ 4096) x xs fit))
