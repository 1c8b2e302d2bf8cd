-- The deadlines of the rows, where one row changes, and what the least of them says.
use Rattle.std.proofs.Common.{◌≡◌, ◌≢◌, ◌⊎◌, inl, inr, ◌↔◌, ℕ, zero, suc, ◌+◌, ◌<◌, ◌≤◌, ◌==◌, ◌&&◌, ◌||◌, nat_le, nat_lt, min, Bool, true, false, Option, Some, None, is_some, option_map, List, [], ◌∷◌, length, length-set, set, replicate, slice_get, slice_set, Contains, All, IfSome, refl, sym, ap, subst, ◌∙◌, arith}
use Rattle.std.proofs.lemmas.Bool.{false≢true, cases_eq}
use Rattle.std.proofs.lemmas.Bool.Decides.{nat_tests}
use Rattle.std.proofs.lemmas.Option.{slice_get_within}
use Rattle.std.specs.Option.{option_map_or}
use Rattle.gmp_base.specs.declared.number.GNo.{GNo}
use Rattle.gmp_base.specs.declared.ask.Woke.{Woke}
use Rattle.gmp_seq.specs.declared.status.Goroutine.{Goroutine}
use Rattle.gmp_seq.specs.declared.status.Status.{Status}
use Rattle.gmp_seq.specs.declared.status.Status.TheVariants.{Ready, Waiting}
use Rattle.gmp_seq.specs.declared.status.TicketPlace.{TicketPlace}
use Rattle.gmp_seq.specs.declared.status.Wait.{Wait}
use Rattle.gmp_seq.specs.State.{dormant}
use Rattle.gmp_seq.specs.Table.{answer_of_ready, is_calling, is_ready_or_running, deadline_of, due_answer, earlier, late_answer, least_of}
use Rattle.gmp_table.proofs.Listing.{count_by-set, slice_get-set_same, slice_get-set_other}
use Rattle.gmp_table.proofs.Startable.{below_set}
use Rattle.gmp_table.specs.Contents.{answer_in, has_deadline, turned}
use Rattle.gmp_table.specs.Due.{AreDue, DueContents, IsTimed, deadline_at, deadline_in, is_sooner}
use Rattle.gmp_table.specs.Kept.{count_status, tally}
use Rattle.gmp_table.specs.declared.deadlines.Deadline.{Deadline}
use Rattle.gmp_table.specs.declared.wake.Candidate.{Candidate}
use Rattle.gmp_table.specs.declared.wake.Rank.{Rank}
use Rattle.gmp_table.specs.declared.wake.Wake.TheVariants.{Due}
use Rattle.gmp_table.specs.Waking.{IsFirst, candidate_of, is_before, rank_of}

-- What a status says of its deadline

has_one : (g : GNo) (s : Status) → is_some (deadline_in g s) ≡ has_deadline s
has_one g (Waiting w) = by w.until
  where
    by : (o : Option ℕ) → is_some (option_map (λ (until : ℕ). let d : Deadline = record { rank = record { moment = until; arrival = w.arrival }; g = g } in d) o) ≡ is_some o
    by None = refl
    by (Some until) = refl
has_one g _ = refl

moment_in : (g : GNo) (s : Status) → deadline_of s ≡ option_map (λ (d : Deadline). d.rank.moment) (deadline_in g s)
moment_in g (Waiting w) = by w.until
  where
    by : (o : Option ℕ)
        → o ≡ option_map (λ (d : Deadline). d.rank.moment) (option_map (λ (until : ℕ). let d : Deadline = record { rank = record { moment = until; arrival = w.arrival }; g = g } in d) o)
    by None = refl
    by (Some until) = refl
moment_in g _ = refl

abbrev made : GNo → ℕ → ℕ → Deadline
made g until arrival = record { rank = record { moment = until; arrival = arrival }; g = g }

-- one that has a deadline waits until it
record IsUntil (g : GNo) (s : Status) (d : Deadline) : Type 0 where
  pub wait : Wait
  pub waits : s ≡ Waiting wait
  pub until : wait.until ≡ Some d.rank.moment
  pub is : d ≡ made g d.rank.moment wait.arrival

until_of : (g : GNo) (s : Status) (d : Deadline) → deadline_in g s ≡ Some d → IsUntil g s d
until_of g (Waiting w) d is = by w.until refl
  where
    by : (o : Option ℕ) → w.until ≡ o → IsUntil g (Waiting w) d
    by None e = absurd (let none : None ≡ Some d = rw e at is in cc)
    by (Some until) e =
        let some : Some (made g until w.arrival) ≡ Some d = rw e at is in
        let it : made g until w.arrival ≡ d = cc in
        let moment : until ≡ d.rank.moment = ap (λ (x : Deadline). x.rank.moment) it in
        record {
          wait = w;
          waits = refl;
          until = e ∙ ap (λ (n : ℕ). Some n) moment;
          is = sym it ∙ ap (λ (n : ℕ). made g n w.arrival) moment;
        }
until_of g _ d is = absurd cc

pub its_goroutine : (g : GNo) (s : Status) (d : Deadline) → deadline_in g s ≡ Some d → d.g ≡ g
its_goroutine g s d is = ap (λ (x : Deadline). x.g) (until_of g s d is).is

its_rank : (now : ℕ) (g : GNo) (s : Status) (d : Deadline) → deadline_in g s ≡ Some d → d.rank ≡ rank_of (Due now) s
its_rank now g s d is =
    let u = until_of g s d is in
    rw (u.waits, u.until) (ap (λ (x : Deadline). x.rank) u.is)

-- one that is told nothing by a tick, though it has a deadline
not_yet : (now : ℕ) (g : GNo) (s : Status) (d : Deadline) → deadline_in g s ≡ Some d → due_answer now s ≡ None → now < d.rank.moment
not_yet now g s d is none = by (nat_le d.rank.moment now) refl
  where
    u : IsUntil g s d
    u = until_of g s d is

    by : (b : Bool) → nat_le d.rank.moment now ≡ b → now < d.rank.moment
    by false e = grind (arith, nat_tests)
    by true e = absurd (let told : Some (late_answer u.wait.kind) ≡ None = rw (u.waits, u.until, e) at none in cc)

-- one that is told something by a tick
record IsLate (now : ℕ) (g : GNo) (s : Status) : Type 0 where
  pub deadline : Deadline
  pub is : deadline_in g s ≡ Some deadline
  pub late : deadline.rank.moment ≤ now

late_of : (now : ℕ) (g : GNo) (s : Status) (woke : Woke) → due_answer now s ≡ Some woke → IsLate now g s
late_of now g (Waiting w) woke told = by w.until refl
  where
    by_test : (until : ℕ) → w.until ≡ Some until → (b : Bool) → nat_le until now ≡ b → IsLate now g (Waiting w)
    by_test until e true t = record { deadline = made g until w.arrival; is = rw e refl; late = grind (arith, nat_tests) }
    by_test until e false t = absurd (let none : None ≡ Some woke = rw (e, t) at told in cc)

    by : (o : Option ℕ) → w.until ≡ o → IsLate now g (Waiting w)
    by None e = absurd (let none : None ≡ Some woke = rw e at told in cc)
    by (Some until) e = by_test until e (nat_le until now) refl
late_of now g _ woke told = absurd cc

-- A row changes

module _ (rows : List Goroutine) (g : GNo) (x y : Goroutine) (at : slice_get rows g.0 ≡ Some x) (old mid : List Deadline) (due : AreDue rows old)
    (left : (d : Deadline) → Contains mid d ↔ (Contains old d × (deadline_in g x.status ≢ Some d))) where
  -- g's own is gone from the middle list
  gone : (d : Deadline) → d.g ≡ g → Contains mid d → ⊥
  gone d same there =
      let was = (left d).0 there in
      let here : deadline_at rows g ≡ deadline_in g x.status = ap (λ (o : Option Goroutine). option_map_or (λ (z : Goroutine). deadline_in g z.status) o None) at in
      was.1 (sym here ∙ (ap (deadline_at rows) (sym same) ∙ (due d).0 was.0))

  pub new_differs : IfSome (deadline_in g y.status) (λ (d : Deadline). Contains mid d → ⊥)
  new_differs = by (deadline_in g y.status) refl
    where
      by : (o : Option Deadline) → deadline_in g y.status ≡ o → IfSome o (λ (d : Deadline). Contains mid d → ⊥)
      by None is = tt
      by (Some d) is = gone d (its_goroutine g y.status d is)

  pub due_set : (now : List Deadline) → ((d : Deadline) → Contains now d ↔ ((deadline_in g y.status ≡ Some d) ⊎ Contains mid d)) → AreDue (set rows g.0 y) now
  due_set now put d = by (cases_eq d.g.0 g.0)
    where
      by : (d.g.0 ≡ g.0) ⊎ (d.g.0 ≢ g.0) → Contains now d ↔ (deadline_at (set rows g.0 y) d.g ≡ Some d)
      by (inl same) =
          let is_g : d.g ≡ g = ap (λ (n : ℕ). let h : GNo = record { 0 = n } in h) same in
          let there : slice_get (set rows g.0 y) g.0 ≡ Some y = slice_get-set_same rows g.0 y (slice_get_within rows g.0 x at) in
          let here : deadline_at (set rows g.0 y) d.g ≡ deadline_in g y.status =
          ap (deadline_at (set rows g.0 y)) is_g ∙ ap (λ (o : Option Goroutine). option_map_or (λ (z : Goroutine). deadline_in g z.status) o None) there in
          (λ in_now. here ∙ elim ((put d).0 in_now) [ inl is ↦ is | inr in_mid ↦ absurd (gone d is_g in_mid) ], λ is. (put d).1 (inl (sym here ∙ is)))
      by (inr apart) =
          let here : deadline_at (set rows g.0 y) d.g ≡ deadline_at rows d.g =
          ap (λ (o : Option Goroutine). option_map_or (λ (z : Goroutine). deadline_in d.g z.status) o None) (slice_get-set_other rows g.0 d.g.0 y apart) in
          let other : (s : Status) → deadline_in g s ≢ Some d = (λ s is. apart (ap (λ (h : GNo). h.0) (its_goroutine g s d is))) in (
            λ in_now. here ∙ elim ((put d).0 in_now) [ inl is ↦ absurd (other y.status is) | inr in_mid ↦ (due d).0 ((left d).0 in_mid).0 ],
            λ is. (put d).1 (inr ((left d).1 ((due d).1 (sym here ∙ is), other x.status))),
          )

  pub timed_set : length mid + tally (is_some (deadline_in g x.status)) ≡ length old → length old ≡ count_status has_deadline rows
      → length mid + tally (is_some (deadline_in g y.status)) ≡ count_status has_deadline (set rows g.0 y)
  timed_set size counted =
      let n = count_by-set (λ (z : Goroutine). has_deadline z.status) rows g.0 x y at in
      let was = ap tally (has_one g x.status) in
      let now = ap tally (has_one g y.status) in
      omega (arith, n, size, counted, was, now)

-- No row has one where all are dormant

pub dormant_due : (n : ℕ) → AreDue (replicate n dormant) []
dormant_due n d = (λ there. absurd (omega (arith, there.1)), λ is. absurd (none n d.g.0 is))
  where
    none : (n i : ℕ) → option_map_or (λ (z : Goroutine). deadline_in d.g z.status) (slice_get (replicate n dormant) i) None ≡ Some d → ⊥
    none zero i is = cc
    none (suc n) zero is = cc
    none (suc n) (suc i) is = none n i is

-- The least

-- the row of a deadline that stands in the list
pub record HasDeadline (rows : List Goroutine) (d : Deadline) : Type 0 where
  pub row : Goroutine
  pub at : slice_get rows d.g.0 ≡ Some row
  pub is : deadline_in d.g row.status ≡ Some d

pub row_of_due : (rows : List Goroutine) (d : Deadline) → deadline_at rows d.g ≡ Some d → HasDeadline rows d
row_of_due rows d is = by (slice_get rows d.g.0) refl is
  where
    by : (o : Option Goroutine) → slice_get rows d.g.0 ≡ o → option_map_or (λ (z : Goroutine). deadline_in d.g z.status) o None ≡ Some d → HasDeadline rows d
    by None at e = absurd cc
    by (Some x) at e = record { row = x; at = at; is = e }

-- a row's deadline is found by its own number
stands_at : (rows : List Goroutine) (k : ℕ) (y : Goroutine) (e : Deadline) → slice_get rows k ≡ Some y → deadline_in (record { 0 = k }) y.status ≡ Some e
    → deadline_at rows e.g ≡ Some e
stands_at rows k y e at is =
    ap (deadline_at rows) (its_goroutine (record { 0 = k }) y.status e is)
    ∙ (ap (λ (o : Option Goroutine). option_map_or (λ (z : Goroutine). deadline_in (record { 0 = k }) z.status) o None) at ∙ is)

no_sooner : (a b : Rank) → is_before a b ≡ false → b.moment ≤ a.moment
no_sooner a b h = on a.moment b.moment a.arrival b.arrival h
  where
    on : (m n p q : ℕ) → (nat_lt m n || ((m == n) && nat_lt p q)) ≡ false → n ≤ m
    on m n p q h = grind (arith, nat_tests)

not_before : (a b : Deadline) → is_sooner a b ≡ false → is_before a.rank b.rank ≡ false
not_before a b h = by (is_before a.rank b.rank) refl
  where
    by : (t : Bool) → is_before a.rank b.rank ≡ t → t ≡ false
    by false e = refl
    by true e = absurd (let sooner : true ≡ false = rw e at h in false≢true (sym sooner))

-- one that waits until a moment has a deadline
record HasUntil (g : GNo) (s : Status) (until : ℕ) : Type 0 where
  pub deadline : Deadline
  pub is : deadline_in g s ≡ Some deadline
  pub moment_is : deadline.rank.moment ≡ until

deadline_until : (g : GNo) (s : Status) (until : ℕ) → deadline_of s ≡ Some until → HasUntil g s until
deadline_until g s until h = by (deadline_in g s) refl
  where
    by : (o : Option Deadline) → deadline_in g s ≡ o → HasUntil g s until
    by None e = absurd (let none : None ≡ Some until = sym (moment_in g s ∙ ap (λ (o : Option Deadline). option_map (λ (z : Deadline). z.rank.moment) o) e) ∙ h in cc)
    by (Some d) e =
        let some : Some d.rank.moment ≡ Some until = sym (moment_in g s ∙ ap (λ (o : Option Deadline). option_map (λ (z : Deadline). z.rank.moment) o) e) ∙ h in
        record { deadline = d; is = e; moment_is = cc }

-- the least of all is no later than any
record IsUpTo (least_one : Option ℕ) (until : ℕ) : Type 0 where
  pub least : ℕ
  pub is : least_one ≡ Some least
  pub most : least ≤ until

up_to : (rows : List Goroutine) (i : ℕ) (x : Goroutine) (until : ℕ) → slice_get rows i ≡ Some x → deadline_of x.status ≡ Some until → IsUpTo (least_of rows) until
up_to [] i x until at h = absurd cc
up_to (y ∷ ys) zero x until at h =
    let same : y ≡ x = cc in
    rw (same, h) (by (least_of ys))
  where
    by : (o : Option ℕ) → IsUpTo (earlier (Some until) o) until
    by None = record { least = until; is = refl; most = omega arith }
    by (Some other) = record { least = min until other; is = refl; most = omega arith }
up_to (y ∷ ys) (suc i) x until at h = let rest = up_to ys i x until at h in rw rest.is (by (deadline_of y.status) rest.least rest.most)
  where
    by : (o : Option ℕ) (least : ℕ) → least ≤ until → IsUpTo (earlier o (Some least)) until
    by None least most = record { least = least; is = refl; most = most }
    by (Some other) least most = record { least = min other least; is = refl; most = omega (arith, most) }

-- and it is somebody's
record IsSomebodys (rows : List Goroutine) (least : ℕ) : Type 0 where
  pub number : ℕ
  pub row : Goroutine
  pub at : slice_get rows number ≡ Some row
  pub until : deadline_of row.status ≡ Some least

somebody : (rows : List Goroutine) (least : ℕ) → least_of rows ≡ Some least → IsSomebodys rows least
somebody [] least is = absurd cc
somebody (x ∷ xs) least is = by (deadline_of x.status) refl (least_of xs) (somebody xs) is
  where
    here : deadline_of x.status ≡ Some least → IsSomebodys (x ∷ xs) least
    here until = record { number = 0; row = x; at = refl; until = until }

    later : IsSomebodys xs least → IsSomebodys (x ∷ xs) least
    later rest = record { number = suc rest.number; row = rest.row; at = rest.at; until = rest.until }

    by : (o : Option ℕ) → deadline_of x.status ≡ o → (l : Option ℕ) → ((m : ℕ) → l ≡ Some m → IsSomebodys xs m) → earlier o l ≡ Some least → IsSomebodys (x ∷ xs) least
    by None e l rest is = later (rest least is)
    by (Some until) e None rest is = here (e ∙ is)
    by (Some until) e (Some other) rest is = elim (cases_eq (min until other) until) [
      | inl same ↦ here (e ∙ (ap (λ (n : ℕ). Some n) (sym same) ∙ is))
      | inr apart ↦ let same : other ≡ min until other = omega (arith, apart) in later (rest least (ap (λ (n : ℕ). Some n) same ∙ is))
    ]

module _ (rows : List Goroutine) (list : List Deadline) (due : AreDue rows list) (d : Deadline) (there : Contains list d)
    (least : All (λ (y : Deadline). is_sooner y d ≡ false) list) where
  row : HasDeadline rows d
  row = row_of_due rows d ((due d).0 there)

  -- another row's
  behind : (k : ℕ) (y : Goroutine) (e : Deadline) → slice_get rows k ≡ Some y → deadline_in (record { 0 = k }) y.status ≡ Some e → is_before e.rank d.rank ≡ false
  behind k y e at is =
      let in_list = (due e).1 (stands_at rows k y e at is) in
      not_before e d (ap (λ (z : Deadline). is_sooner z d) (sym in_list.2) ∙ least in_list.0 e in_list.1)

  pub due_first : (now : ℕ) (x : Goroutine) → slice_get rows d.g.0 ≡ Some x → IsFirst (Due now) rows (length rows) (candidate_of (Due now) d.g x.status)
  due_first now x at = by (due_answer now x.status) refl
    where
      same : row.row ≡ x
      same = let e : Some row.row ≡ Some x = sym row.at ∙ at in cc

      is : deadline_in d.g x.status ≡ Some d
      is = ap (λ (z : Goroutine). deadline_in d.g z.status) (sym same) ∙ row.is

      by : (o : Option Woke) → due_answer now x.status ≡ o
          → IsFirst (Due now) rows (length rows) (option_map (λ (woke : Woke). let z : Candidate = record { g = d.g; rank = rank_of (Due now) x.status; woke = woke } in z) o)
      by None none = λ k y below here. tested k y here (due_answer now y.status) refl
        where
          tested : (k : ℕ) (y : Goroutine) → slice_get rows k ≡ Some y → (o : Option Woke) → due_answer now y.status ≡ o → o ≡ None
          tested k y here None told = refl
          tested k y here (Some woke) told =
              let late = late_of now (record { 0 = k }) y.status woke told in
              let more = no_sooner late.deadline.rank d.rank (behind k y late.deadline here late.is) in
              absurd (omega (arith, more, late.late, not_yet now d.g x.status d is none))
      by (Some woke) told = (x, at, told, refl, λ k y below here some. after k y here (due_answer now y.status) refl some)
        where
          after : (k : ℕ) (y : Goroutine) → slice_get rows k ≡ Some y → (o : Option Woke) → due_answer now y.status ≡ o → is_some o ≡ true
              → is_before (rank_of (Due now) y.status) (rank_of (Due now) x.status) ≡ false
          after k y here None e some = absurd (false≢true some)
          after k y here (Some other) e some =
              let late = late_of now (record { 0 = k }) y.status other e in
              rw (← its_rank now (record { 0 = k }) y.status late.deadline late.is, ← its_rank now d.g x.status d is) (behind k y late.deadline here late.is)

  pub least_is : Some d.rank.moment ≡ least_of rows
  least_is =
      let own = moment_in d.g row.row.status ∙ ap (λ (o : Option Deadline). option_map (λ (z : Deadline). z.rank.moment) o) row.is in
      let up = up_to rows d.g.0 row.row d.rank.moment row.at own in
      let first = somebody rows up.least up.is in
      let e = deadline_until (record { 0 = first.number }) first.row.status up.least first.until in
      let no_less = no_sooner e.deadline.rank d.rank (behind first.number first.row e.deadline first.at e.is) in
      let same : d.rank.moment ≡ up.least = omega (arith, up.most, no_less, e.moment_is) in
      ap (λ (n : ℕ). Some n) same ∙ sym up.is

-- Nobody has one

module _ (rows : List Goroutine) (due : AreDue rows []) where
  nobody_has : (k : ℕ) (y : Goroutine) (e : Deadline) → slice_get rows k ≡ Some y → deadline_in (record { 0 = k }) y.status ≡ Some e → ⊥
  nobody_has k y e at is = let there = (due e).1 (stands_at rows k y e at is) in omega (arith, there.1)

  pub due_none : (now : ℕ) → IsFirst (Due now) rows (length rows) None
  due_none now = λ k y below at. by k y at (due_answer now y.status) refl
    where
      by : (k : ℕ) (y : Goroutine) → slice_get rows k ≡ Some y → (o : Option Woke) → due_answer now y.status ≡ o → o ≡ None
      by k y at None told = refl
      by k y at (Some woke) told = let late = late_of now (record { 0 = k }) y.status woke told in absurd (nobody_has k y late.deadline at late.is)

  pub least_none : least_of rows ≡ None
  least_none = by (least_of rows) refl
    where
      by : (o : Option ℕ) → least_of rows ≡ o → o ≡ None
      by None e = refl
      by (Some least) e =
          let first = somebody rows least e in
          let own = deadline_until (record { 0 = first.number }) first.row.status least first.until in
          absurd (nobody_has first.number first.row own.deadline first.at own.is)

-- The ticket of one that is ready moves

-- a goroutine's row says that it is ready
pub record HasTicket (rows : List Goroutine) (g : GNo) : Type 0 where
  pub place : TicketPlace
  pub answer : Woke
  pub epoch : ℕ
  pub at : slice_get rows g.0 ≡ Some (record { status = Ready place answer; epoch = epoch })

pub ticket_of : (rows : List Goroutine) (g : GNo) → is_some (answer_in rows g) ≡ true → HasTicket rows g
ticket_of rows g is = by (slice_get rows g.0) refl is
  where
    by_status : (s : Status) (e : ℕ) → slice_get rows g.0 ≡ Some (record { status = s; epoch = e }) → is_some (answer_of_ready s) ≡ true → HasTicket rows g
    by_status (Ready place answer) e at told = record { place = place; answer = answer; epoch = e; at = at }
    by_status _ e at told = absurd cc

    by : (o : Option Goroutine) → slice_get rows g.0 ≡ o → is_some (option_map_or (λ (x : Goroutine). answer_of_ready x.status) o None) ≡ true → HasTicket rows g
    by None at told = absurd cc
    by (Some x) at told = by_status x.status x.epoch at told

-- the row that is read there
pub same_row : (rows : List Goroutine) (g : GNo) (t : HasTicket rows g) (x : Goroutine) → slice_get rows g.0 ≡ Some x → x ≡ record { status = Ready t.place t.answer; epoch = t.epoch }
same_row rows g t x at = let e : Some x ≡ Some (record { status = Ready t.place t.answer; epoch = t.epoch }) = sym at ∙ t.at in cc

-- what its move comes to
pub moved_is : (rows : List Goroutine) (g : GNo) (to : TicketPlace) (t : HasTicket rows g) (status : Status) (epoch : ℕ) → status ≡ Ready to t.answer → epoch ≡ t.epoch
    → (seen : List Goroutine) → rows ≡ seen → IfSome (answer_in seen g) (λ woke. slice_set rows g.0 (record { status = status; epoch = epoch }) ≡ turned seen g (Ready to woke))
moved_is rows g to t status epoch is same seen view =
    subst (λ (l : List Goroutine). IfSome (answer_in l g) (λ woke. slice_set rows g.0 (record { status = status; epoch = epoch }) ≡ turned l g (Ready to woke))) view
    (rw (is, same, t.at) refl)

-- what is kept beside the rows stays as it is
pub ticket_moved : (rows : List Goroutine) (g : GNo) (to : TicketPlace) (t : HasTicket rows g) (bodies going calling : ℕ) (due : DueContents) (low : ℕ)
    → IsTimed rows bodies going calling due low → IsTimed (set rows g.0 (record { status = Ready to t.answer; epoch = t.epoch })) bodies going calling due low
ticket_moved rows g to t bodies going calling due low kept =
    let x : Goroutine = record { status = Ready t.place t.answer; epoch = t.epoch } in
    let y : Goroutine = record { status = Ready to t.answer; epoch = t.epoch } in
    let within = slice_get_within rows g.0 x t.at in
    let going_now : count_status is_ready_or_running (set rows g.0 y) + 1 ≡ count_status is_ready_or_running rows + 1 =
    count_by-set (λ (z : Goroutine). is_ready_or_running z.status) rows g.0 x y t.at in
    let calling_now : count_status is_calling (set rows g.0 y) + 0 ≡ count_status is_calling rows + 0 =
    count_by-set (λ (z : Goroutine). is_calling z.status) rows g.0 x y t.at in
    let timed_now : count_status has_deadline (set rows g.0 y) + 0 ≡ count_status has_deadline rows + 0 =
    count_by-set (λ (z : Goroutine). has_deadline z.status) rows g.0 x y t.at in
    record {
      counted = record {
        size = rw length-set kept.counted.size;
        going_is = omega (arith, going_now, kept.counted.going_is);
        calling_is = omega (arith, calling_now, kept.counted.calling_is);
        timed_is = omega (arith, timed_now, kept.counted.timed_is);
      };
      each = due_set rows g x y t.at due.list due.list kept.each (λ d. (λ there. (there, λ (e : None ≡ Some d). cc), λ both. both.0)) due.list
          (λ d. (λ there. inr there, λ either. elim either [ inl e ↦ absurd (let none : None ≡ Some d = e in cc) | inr there ↦ there ]));
      room = kept.room;
      few = kept.few;
      startable = below_set rows g.0 y low low within kept.startable (omega arith) (λ e. absurd (false≢true e));
    }
