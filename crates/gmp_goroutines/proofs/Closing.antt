-- Who waits first on a channel is the first that its close wakes.
use Rattle.gmp_goroutines.proofs.Common.{◌≡◌, ℕ, zero, suc, ◌+◌, ◌<◌, ◌==◌, Bool, true, false, cond, inl, inr, Option, Some, None, List, [], ◌∷◌, length, slice_get, is_some, nat_lt, refl, sym, ap, subst, ◌∙◌, arith, false≢true, eqb-true, eq-eqb, cases_eq, nat_tests, CNo, GNo, Goroutine, Kind, Offer, Status, Waiting, Wait, Waiter, Table, as_waiters, arrived, arrived_among, first_waiters, waiters}
use Rattle.std.proofs.lemmas.List.Folds.{find-append}
use Rattle.std.specs.List.{find}
use Rattle.std.specs.Option.{option_map, option_or}
use Rattle.gmp_chan.specs.Order.{is_at}
use Rattle.gmp_seq.specs.Waits.{close_answer, closed_answer}
use Rattle.gmp_table.specs.declared.wake.Candidate.{Candidate}
use Rattle.gmp_table.specs.declared.wake.Wake.TheVariants.{Closed}
use Rattle.gmp_table.specs.Waking.{IsFirst, is_before, rank_of}
use Rattle.gmp_goroutines.specs.Tied.{IsEarly}

-- who waits by this record, as one to be woken by a close
abbrev pub woken_by_close : Waiter → Candidate
woken_by_close w = record { g = w.g; rank = record { moment = 0; arrival = w.arrival }; woke = closed_answer w.kind w.offer }

module _ (c : CNo) where
  -- the first of a goroutine's records on the channel is that of its first offer on it
  offers_find : (g : GNo) (a : ℕ) (why : Kind) (offers : List Offer)
      → find (is_at c) (as_waiters g a why offers) ≡ option_map (λ (o : Offer). let w : Waiter = record { g = g; arrival = a; kind = why; offer = o } in w) (find (λ (o : Offer). o.channel.0 == c.0) offers)
  offers_find g a why [] = refl
  offers_find g a why (o ∷ offers) = by_test (o.channel.0 == c.0) (offers_find g a why offers)
    where
      made : Offer → Waiter
      made o = record { g = g; arrival = a; kind = why; offer = o }

      by_test : (b : Bool) → find (is_at c) (as_waiters g a why offers) ≡ option_map made (find (λ (o : Offer). o.channel.0 == c.0) offers)
          → cond b (Some (made o)) (find (is_at c) (as_waiters g a why offers)) ≡ option_map made (cond b (Some o) (find (λ (o : Offer). o.channel.0 == c.0) offers))
      by_test true rest = refl
      by_test false rest = rest

  -- the record is of this status, which the close wakes
  record IsTold (s : Status) (w : Waiter) : Type 0 where
    pub told : close_answer c s ≡ Some (closed_answer w.kind w.offer)
    pub rank : rank_of (Closed c) s ≡ record { moment = 0; arrival = w.arrival }

  -- What the first record found among those of a row, of rows, and of arrivals says of whom the close wakes

  abbrev RowSays : ℕ → GNo → Status → Option Waiter → Type 0
  RowSays a g s None = (x : Wait) → s ≡ Waiting x → x.arrival ≡ a → close_answer c s ≡ None
  RowSays a g s (Some w) = IsTold s w × (w.g ≡ g) × (w.arrival ≡ a)

  row_says : (a : ℕ) (g : GNo) (s : Status) → RowSays a g s (find (is_at c) (arrived a g s))
  row_says a g (Waiting x) = by_test (x.arrival == a) refl
    where
      by_offer : (o : Option Offer) → find (λ (o : Offer). o.channel.0 == c.0) x.offers ≡ o → x.arrival ≡ a
          → RowSays a g (Waiting x) (option_map (λ (o : Offer). let w : Waiter = record { g = g; arrival = a; kind = x.kind; offer = o } in w) o)
      by_offer None is now = λ y e then. ap (option_map (closed_answer x.kind)) is
      by_offer (Some o) is now = (record { told = ap (option_map (closed_answer x.kind)) is; rank = rw now refl }, refl, refl)

      by_test : (b : Bool) → (x.arrival == a) ≡ b → RowSays a g (Waiting x) (find (is_at c) (cond b (as_waiters g a x.kind x.offers) []))
      by_test true is = subst (RowSays a g (Waiting x)) (sym (offers_find g a x.kind x.offers)) (by_offer (find (λ (o : Offer). o.channel.0 == c.0) x.offers) refl (eqb-true x.arrival a is))
      by_test false is = λ y e now. let same : x ≡ y = cc in absurd (false≢true (sym is ∙ eq-eqb x.arrival a (ap (λ (z : Wait). z.arrival) same ∙ now)))
  row_says a g _ = λ x e now. refl

  -- nobody whose wait began so is told
  abbrev NoneOf : List Goroutine → (ℕ → Type 0) → Type 0
  NoneOf rows P = (k : ℕ) (x : Goroutine) (w : Wait) → slice_get rows k ≡ Some x → x.status ≡ Waiting w → P w.arrival → close_answer c x.status ≡ None

  -- the record is of one of these rows, the first of which is of goroutine n
  record IsRow (n : ℕ) (rows : List Goroutine) (w : Waiter) : Type 0 where
    pub place : ℕ
    pub row : Goroutine
    pub number : w.g.0 ≡ n + place
    pub at : slice_get rows place ≡ Some row
    pub is : IsTold row.status w

  abbrev AmongSays : ℕ → ℕ → List Goroutine → Option Waiter → Type 0
  AmongSays a n rows None = NoneOf rows (λ b. b ≡ a)
  AmongSays a n rows (Some w) = IsRow n rows w × (w.arrival ≡ a)

  among_says : (a n : ℕ) (rows : List Goroutine) → AmongSays a n rows (find (is_at c) (arrived_among a n rows))
  among_says a n [] = λ k x w at is now. absurd cc
  among_says a n (y ∷ rows) =
      let g : GNo = record { 0 = n } in
      subst (AmongSays a n (y ∷ rows)) (sym (find-append (is_at c) (arrived a g y.status) (arrived_among a (n + 1) rows)))
      (join (find (is_at c) (arrived a g y.status)) (find (is_at c) (arrived_among a (n + 1) rows)) (row_says a g y.status) (among_says a (n + 1) rows))
    where
      none_here : RowSays a (record { 0 = n }) y.status None → NoneOf rows (λ b. b ≡ a) → NoneOf (y ∷ rows) (λ b. b ≡ a)
      none_here here rest zero x w at is now = let same : y ≡ x = cc in ap (λ (z : Goroutine). close_answer c z.status) (sym same) ∙ here w (ap (λ (z : Goroutine). z.status) same ∙ is) now
      none_here here rest (suc k) x w at is now = rest k x w at is now

      join : (o p : Option Waiter) → RowSays a (record { 0 = n }) y.status o → AmongSays a (n + 1) rows p → AmongSays a n (y ∷ rows) (option_or o p)
      join (Some w) p here rest =
          let number : w.g.0 ≡ n = ap (λ (g : GNo). g.0) here.1 in
          (record { place = 0; row = y; number = omega (arith, number); at = refl; is = here.0 }, here.2)
      join None (Some w) here rest =
          let number : w.g.0 ≡ n + 1 + rest.0.place = rest.0.number in
          (record { place = suc rest.0.place; row = rest.0.row; number = omega (arith, number); at = rest.0.at; is = rest.0.is }, rest.1)
      join None None here rest = none_here here rest

  abbrev FirstsSays : ℕ → List Goroutine → Option Waiter → Type 0
  FirstsSays m rows None = NoneOf rows (λ b. b < m)
  FirstsSays m rows (Some w) = IsRow 0 rows w × NoneOf rows (λ b. b < w.arrival)

  firsts_say : (m : ℕ) (rows : List Goroutine) → FirstsSays m rows (find (is_at c) (first_waiters m rows))
  firsts_say zero rows = λ k x w at is early. absurd (omega arith)
  firsts_say (suc m) rows =
      subst (FirstsSays (suc m) rows) (sym (find-append (is_at c) (first_waiters m rows) (arrived_among m 0 rows)))
      (join (find (is_at c) (first_waiters m rows)) (find (is_at c) (arrived_among m 0 rows)) (firsts_say m rows) (among_says m 0 rows))
    where
      join : (o p : Option Waiter) → FirstsSays m rows o → AmongSays m 0 rows p → FirstsSays (suc m) rows (option_or o p)
      join (Some w) p before last = before
      join None (Some w) before last = (last.0, λ k x v at is early. before k x v at is (let now : w.arrival ≡ m = last.1 in omega arith))
      join None None before last = λ k x w at is early. elim (cases_eq w.arrival m) [ inl same ↦ last k x w at is same | inr other ↦ before k x w at is (omega arith) ]

  by_waiting : (s : Status) → ((w : Wait) → s ≡ Waiting w → close_answer c s ≡ None) → close_answer c s ≡ None
  by_waiting (Waiting w) h = h w refl
  by_waiting _ h = refl

  not_before : (s : Status) (w : Waiter) → ((x : Wait) → s ≡ Waiting x → x.arrival < w.arrival → close_answer c s ≡ None) → is_some (close_answer c s) ≡ true
      → is_before (rank_of (Closed c) s) (record { moment = 0; arrival = w.arrival }) ≡ false
  not_before (Waiting x) w h some = by_test (nat_lt x.arrival w.arrival) refl
    where
      by_test : (b : Bool) → nat_lt x.arrival w.arrival ≡ b → b ≡ false
      by_test false is = refl
      by_test true is = let earlier : x.arrival < w.arrival = grind (arith, nat_tests) in absurd (false≢true (sym (ap is_some (h x refl earlier)) ∙ some))
  not_before _ w h some = absurd (false≢true some)

  pub closes_first : (t : Table) (o : Option Waiter) → IsEarly t → find (is_at c) (waiters t) ≡ o → IsFirst (Closed c) t.goroutines (length t.goroutines) (option_map woken_by_close o)
  closes_first t o early e = by_first o (subst (FirstsSays t.arrivals t.goroutines) e (firsts_say t.arrivals t.goroutines))
    where
      by_first : (o : Option Waiter) → FirstsSays t.arrivals t.goroutines o → IsFirst (Closed c) t.goroutines (length t.goroutines) (option_map woken_by_close o)
      by_first None none = λ k x less at. by_waiting x.status (λ w is. none k x w at is (early (record { 0 = k }) w (rw at (ap Some is))))
      by_first (Some w) (found, none) =
          let same : found.place ≡ w.g.0 = let number : w.g.0 ≡ 0 + found.place = found.number in omega arith in (
            found.row,
            subst (λ (i : ℕ). slice_get t.goroutines i ≡ Some found.row) same found.at,
            found.is.told,
            sym found.is.rank,
            λ k y less at some. not_before y.status w (λ x is earlier. none k y x at is earlier) some,
          )
