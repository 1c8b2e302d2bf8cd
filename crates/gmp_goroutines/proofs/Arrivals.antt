-- How the list of all who wait changes with the table.
use Rattle.gmp_goroutines.proofs.Common.{◌≡◌, ℕ, zero, suc, ◌+◌, ◌<◌, ◌==◌, Bool, true, false, not, cond, inl, inr, Option, Some, List, [], ◌∷◌, ◌++◌, length, set, slice_get, nat_lt, refl, sym, ap, subst, ◌∙◌, arith, false≢true, eqb-true, eq-eqb, nat_tests, GNo, Goroutine, Kind, Offer, Status, Waiting, Wait, Waiter, Table, status_at, as_waiters, arrived, arrived_among, first_waiters, waiters, row_at}
use Rattle.std.proofs.Common.{count_by, add-zero, add-one, zero-add, append-nil}
use Rattle.std.proofs.lemmas.List.Elements.{filter-append}
use Rattle.std.proofs.lemmas.List.Sums.{sum_by-cons}
use Rattle.std.proofs.lemmas.Option.{slice_get_within}
use Rattle.std.specs.List.{list_all}
use Rattle.gmp_chan.specs.Contents.{is_of, without}
use Rattle.gmp_chan.specs.Order.{is_later}
use Rattle.gmp_seq.proofs.Waiting.{In, waiter_waits}
use Rattle.gmp_seq.specs.Table.{epoch_at, is_waiting, made_wait}
use Rattle.gmp_goroutines.specs.Tied.{IsEarly}

-- The offers of goroutine g are taken out

module _ (g : GNo) (a : ℕ) where
  offers_without : (h : GNo) (why : Kind) (offers : List Offer) (b : Bool) → (h.0 == g.0) ≡ b → without g (as_waiters h a why offers) ≡ cond b [] (as_waiters h a why offers)
  offers_without h why [] true e = refl
  offers_without h why [] false e = refl
  offers_without h why (o ∷ offers) true e = rw e (offers_without h why offers true e)
  offers_without h why (o ∷ offers) false e =
      let x : Waiter = record { g = h; arrival = a; kind = why; offer = o } in rw e (ap (λ (l : List Waiter). x ∷ l) (offers_without h why offers false e))

  row_without : (h : GNo) (s : Status) (b : Bool) → (h.0 == g.0) ≡ b → without g (arrived a h s) ≡ cond b [] (arrived a h s)
  row_without h (Waiting w) b e = by_test (w.arrival == a) b e
    where
      by_test : (now b : Bool) → (h.0 == g.0) ≡ b → without g (cond now (as_waiters h a w.kind w.offers) []) ≡ cond b [] (cond now (as_waiters h a w.kind w.offers) [])
      by_test true b e = offers_without h w.kind w.offers b e
      by_test false true e = refl
      by_test false false e = refl
  row_without h _ true e = refl
  row_without h _ false e = refl

  other : (n : ℕ) (s : Status) → (n ≡ g.0 → ⊥) → without g (arrived a (record { 0 = n }) s) ≡ arrived a (record { 0 = n }) s
  other n s apart = let e : (n == g.0) ≡ false = grind (arith, nat_tests) in row_without (record { 0 = n }) s false e

  among_later : (n : ℕ) (rows : List Goroutine) → g.0 < n → without g (arrived_among a n rows) ≡ arrived_among a n rows
  among_later n [] less = refl
  among_later n (x ∷ rows) less =
      rw (filter-append (λ (w : Waiter). not (is_of g w)) (arrived a (record { 0 = n }) x.status) (arrived_among a (n + 1) rows), other n x.status (λ e. omega arith), among_later (n + 1) rows (omega arith)) refl

  -- a row is written by which nobody arrives then
  among_set : (n i : ℕ) (y : Goroutine) (rows : List Goroutine) → g.0 ≡ n + i → ((h : GNo) → arrived a h y.status ≡ [])
      → arrived_among a n (set rows i y) ≡ without g (arrived_among a n rows)
  among_set n i y [] at quiet = refl
  among_set n zero y (x ∷ rows) at quiet =
      let gone = row_without (record { 0 = n }) x.status true (eq-eqb n g.0 (omega arith)) in
      rw (quiet (record { 0 = n }), filter-append (λ (w : Waiter). not (is_of g w)) (arrived a (record { 0 = n }) x.status) (arrived_among a (n + 1) rows), gone, among_later (n + 1) rows (omega arith)) refl
  among_set n (suc i) y (x ∷ rows) at quiet =
      rw (among_set (n + 1) i y rows (omega arith) quiet, filter-append (λ (w : Waiter). not (is_of g w)) (arrived a (record { 0 = n }) x.status) (arrived_among a (n + 1) rows), other n x.status (λ e. omega arith)) refl

first_set : (g : GNo) (m : ℕ) (y : Goroutine) (rows : List Goroutine) → ((a : ℕ) → a < m → (h : GNo) → arrived a h y.status ≡ [])
    → first_waiters m (set rows g.0 y) ≡ without g (first_waiters m rows)
first_set g zero y rows quiet = refl
first_set g (suc m) y rows quiet =
    rw (first_set g m y rows (λ a less. quiet a (omega arith)), among_set g m 0 g.0 y rows (omega arith) (quiet m (omega arith)))
    (sym (filter-append (λ (w : Waiter). not (is_of g w)) (first_waiters m rows) (arrived_among m 0 rows)))

-- nobody arrives then by this status
unarrived : (a : ℕ) (h : GNo) (s : Status) → ((w : Wait) → s ≡ Waiting w → w.arrival ≡ a → ⊥) → arrived a h s ≡ []
unarrived a h (Waiting w) apart =
    let no = apart w refl in
    let differs : (w.arrival == a) ≡ false = grind (arith, nat_tests) in
    rw differs refl
unarrived a h _ apart = refl

-- one row is written, and in it nobody waits
pub written_waiters : (t : Table) (g : GNo) (y : Goroutine) → is_waiting y.status ≡ false → first_waiters t.arrivals (set t.goroutines g.0 y) ≡ without g (waiters t)
written_waiters t g y quiet = first_set g t.arrivals y t.goroutines (λ a less h. unarrived a h y.status (λ w is e. false≢true (sym quiet ∙ ap is_waiting is)))

-- Who offers nothing has no record

-- goroutine g offers nothing
abbrev pub OffersNone : Table → GNo → Type 0
OffersNone t g = (v : Wait) (o : Offer) → status_at t g ≡ Some (Waiting v) → In o v.offers → ⊥

pub unwaiting_none : (t : Table) (g : GNo) (s : Status) → status_at t g ≡ Some s → is_waiting s ≡ false → OffersNone t g
unwaiting_none t g s was unwaiting v o at within = let it : s ≡ Waiting v = cc in false≢true (sym unwaiting ∙ ap is_waiting it)

-- so none counts and none is taken out
pub none_listed : (t : Table) (g : GNo) → OffersNone t g → (count_by (is_of g) (waiters t) ≡ 0) × (without g (waiters t) ≡ waiters t)
none_listed t g none = along (waiters t) (λ w h. unlisted w h (is_of g w) refl) where
  unlisted : (w : Waiter) → In w (waiters t) → (b : Bool) → is_of g w ≡ b → is_of g w ≡ false
  unlisted w h false e = e
  unlisted w h true e =
      let is = waiter_waits t w h in
      let same : w.g ≡ g = ap (λ (n : ℕ). let x : GNo = record { 0 = n } in x) (eqb-true _ _ e) in
      absurd (none is.wait w.offer (subst (λ (k : GNo). status_at t k ≡ Some (Waiting is.wait)) same is.status) is.offer)

  along : (xs : List Waiter) → ((w : Waiter) → In w xs → is_of g w ≡ false) → (count_by (is_of g) xs ≡ 0) × (without g xs ≡ xs)
  along [] h = (refl, refl)
  along (x ∷ xs) h =
      let e = h x (inl refl) in
      let rest = along xs (λ w k. h w (inr k)) in
      (sum_by-cons (λ (z : Waiter). cond (is_of g z) 1 0) x xs ∙ rw (e, zero-add) rest.0, rw e (ap (λ (l : List Waiter). x ∷ l) rest.1))

-- Goroutine g begins to wait

-- nobody in these rows arrives then
abbrev NoneArrives : ℕ → List Goroutine → Type 0
NoneArrives a rows = (j : ℕ) (x : Goroutine) → slice_get rows j ≡ Some x → (h : GNo) → arrived a h x.status ≡ []

among_none : (a n : ℕ) (rows : List Goroutine) → NoneArrives a rows → arrived_among a n rows ≡ []
among_none a n [] none = refl
among_none a n (x ∷ rows) none = rw (none 0 x refl (record { 0 = n })) (among_none a (n + 1) rows (λ j. none (suc j)))

among_one : (g : GNo) (a n i : ℕ) (y : Goroutine) (rows : List Goroutine) → g.0 ≡ n + i → i < length rows → NoneArrives a rows → arrived_among a n (set rows i y) ≡ arrived a g y.status
among_one g a n i y [] at within none = absurd (omega arith)
among_one g a n zero y (x ∷ rows) at within none =
    let is : record { 0 = n } ≡ g = ap (λ (k : ℕ). let h : GNo = record { 0 = k } in h) (sym (at ∙ add-zero n)) in
    rw (among_none a (n + 1) rows (λ j. none (suc j)), is) (append-nil (arrived a g y.status))
among_one g a n (suc i) y (x ∷ rows) at within none =
    rw (none 0 x refl (record { 0 = n })) (among_one g a (n + 1) i y rows (omega arith) (omega arith) (λ j. none (suc j)))

pub wait_waiters : (t : Table) (g : GNo) (s : Status) (why : Kind) (offers : List Offer) (until : Option ℕ) → IsEarly t → status_at t g ≡ Some s → is_waiting s ≡ false
    → waiters (made_wait t g why offers until) ≡ waiters t ++ as_waiters g t.arrivals why offers
wait_waiters t g s why offers until early was unwaiting =
    let found = row_at t g s was in
    let w : Wait = record { arrival = t.arrivals; kind = why; offers = offers; until = until } in
    let y : Goroutine = record { status = Waiting w; epoch = epoch_at t g } in
    let before : first_waiters t.arrivals (set t.goroutines g.0 y) ≡ waiters t =
    first_set g t.arrivals y t.goroutines (λ a less h. let apart : (t.arrivals == a) ≡ false = grind (arith, nat_tests) in rw apart refl)
    ∙ (none_listed t g (unwaiting_none t g s was unwaiting)).1 in
    let last : arrived_among t.arrivals 0 (set t.goroutines g.0 y) ≡ as_waiters g t.arrivals why offers =
    among_one g t.arrivals 0 g.0 y t.goroutines (omega arith) (slice_get_within t.goroutines g.0 found.0 found.1)
    (λ j x at h. unarrived t.arrivals h x.status (λ v is e. let less = early (record { 0 = j }) v (rw at (ap Some is)) in omega arith))
    ∙ rw (eq-eqb t.arrivals t.arrivals refl) refl in
    rw (add-one, before, last) refl

-- Who begins to wait now is later than all who wait

all_in : (p : Waiter → Bool) (xs : List Waiter) → ((w : Waiter) → In w xs → p w ≡ true) → list_all p xs ≡ true
all_in p [] h = refl
all_in p (x ∷ xs) h = rw (h x (inl refl)) (all_in p xs (λ w k. h w (inr k)))

pub later_now : (t : Table) → IsEarly t → is_later t.arrivals (waiters t) ≡ true
later_now t early = all_in (λ (w : Waiter). nat_lt w.arrival t.arrivals) (waiters t) (λ w h.
    let is = waiter_waits t w h in
    let less : is.wait.arrival < t.arrivals = early w.g is.wait is.status in
    let same : is.wait.arrival ≡ w.arrival = is.arrival in
    let e : nat_lt w.arrival t.arrivals ≡ true = grind (arith, nat_tests) in
    e)
