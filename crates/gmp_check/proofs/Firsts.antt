-- The first of those that wait.
use Rattle.std.proofs.Common.{◌≡◌, ℕ, ◌+◌, ◌<◌, ◌≤◌, ◌⊎◌, inl, inr, Bool, true, false, Option, None, Some, List, length, take, get_or, refl, sym, ap, subst, ◌∙◌, arith}
use Rattle.std.proofs.lemmas.Bool.{cases_eq, eqb-true, eqb-false, ltb-true, ltb-false}
use Rattle.std.proofs.lemmas.List.{get_or-take, get_or_default, length-take-le, take_all}
use Rattle.std.proofs.lemmas.Option.{slice_get_within}
use Rattle.std.specs.Bool.{then_some}
use Rattle.std.specs.List.{slice_get}
use Rattle.std.specs.Option.{option_map}
use Rattle.std.specs.Prelude.{◌==◌, ◌&&◌, ◌||◌, nat_lt, if◌then◌else◌, Contains}
use Rattle.gmp_base.specs.declared.number.CNo.{CNo}
use Rattle.gmp_base.specs.declared.number.GNo.{GNo}
use Rattle.gmp_seq.specs.declared.status.Direction.{Direction}
use Rattle.gmp_seq.specs.declared.status.Goroutine.{Goroutine}
use Rattle.gmp_seq.specs.declared.status.Offer.{Offer}
use Rattle.gmp_seq.specs.declared.status.Status.{Status}
use Rattle.gmp_seq.specs.declared.status.Status.TheVariants.{Waiting}
use Rattle.gmp_seq.specs.declared.status.Wait.{Wait}
use Rattle.gmp_seq.specs.declared.status.Waiter.{Waiter}
use Rattle.gmp_seq.specs.Laws.{ComesBefore}
use Rattle.gmp_seq.specs.Table.{Table, status_at}
use Rattle.gmp_seq.specs.Waits.{is_on}
use Rattle.gmp_check.specs.First.{IsFirstOf, IsOfferAt, IsOfferOf, IsOfferOn, comes_before, sooner}

-- Order

chain : (x y z : Waiter) → ComesBefore x y → ComesBefore y z → ComesBefore x z
chain x y z (inl a) (inl b) = inl (omega arith)
chain x y z (inl a) (inr b) = inl (omega (arith, a, b.0))
chain x y z (inr a) (inl b) = inl (omega (arith, a.0, b))
chain x y z (inr a) (inr b) = inr (a.0 ∙ b.0, omega (arith, a.1, b.1))

never_before : (w : Waiter) → ComesBefore w w → ⊥
never_before w (inl a) = omega arith
never_before w (inr a) = omega (arith, a.1)

-- by arrival, and then by case
split : (a b c d : ℕ) (first same second : Bool) → nat_lt a b ≡ first → (a == b) ≡ same → nat_lt c d ≡ second → first || (same && second) ≡ true → (a < b) ⊎ ((a ≡ b) × (c < d))
split a b c d true same second l e k h = inl (ltb-true a b l)
split a b c d false true true l e k h = inr (eqb-true a b e, ltb-true c d k)
split a b c d false true false l e k h = absurd cc
split a b c d false false second l e k h = absurd cc

unsplit : (a b c d : ℕ) (first same second : Bool) → nat_lt a b ≡ first → (a == b) ≡ same → nat_lt c d ≡ second → first || (same && second) ≡ false
    → (b < a) ⊎ ((b ≡ a) × (d ≤ c))
unsplit a b c d true same second l e k h = absurd cc
unsplit a b c d false true true l e k h = absurd cc
unsplit a b c d false true false l e k h = inr (sym (eqb-true a b e), ltb-false c d k)
unsplit a b c d false false second l e k h = inl (let le : b ≤ a = ltb-false a b l in let ne = eqb-false a b e in omega (arith, le, ne))

is_before : (x y : Waiter) → comes_before x y ≡ true → ComesBefore x y
is_before x y h = split x.arrival y.arrival x.offer.case y.offer.case (nat_lt x.arrival y.arrival) (x.arrival == y.arrival) (nat_lt x.offer.case y.offer.case) refl refl refl h

-- what comes before x comes before y, where y doesn't come before x
onward : (w x y : Waiter) → ComesBefore w x → comes_before y x ≡ false → ComesBefore w y
onward w x y before h = joined before (unsplit y.arrival x.arrival y.offer.case x.offer.case (nat_lt y.arrival x.arrival) (y.arrival == x.arrival) (nat_lt y.offer.case x.offer.case) refl refl refl h) where
  joined : ComesBefore w x → (x.arrival < y.arrival) ⊎ ((x.arrival ≡ y.arrival) × (x.offer.case ≤ y.offer.case)) → ComesBefore w y
  joined (inl a) (inl b) = inl (omega (arith, a, b))
  joined (inl a) (inr b) = inl (omega (arith, a, b.0))
  joined (inr a) (inl b) = inl (omega (arith, a.0, b))
  joined (inr a) (inr b) = inr (a.0 ∙ b.0, omega (arith, a.1, b.1))

-- The first of some

-- of the same ones
pub first_same : (P R : Waiter → Type 0) (o : Option Waiter) → ((w : Waiter) → R w → P w) → ((w : Waiter) → P w → R w) → IsFirstOf P o → IsFirstOf R o
first_same P R None back on first = λ w r. first w (back w r)
first_same P R (Some f) back on first = (on f first.0, λ w r. first.1 w (back w r))

-- of those of two kinds
pub first_of_both : (P Q R : Waiter → Type 0) (a b : Option Waiter) → ((w : Waiter) → R w → P w ⊎ Q w) → ((w : Waiter) → P w → R w) → ((w : Waiter) → Q w → R w)
    → IsFirstOf P a → IsFirstOf Q b → IsFirstOf R (sooner a b)
first_of_both P Q R None b parts p q fa fb = first_same Q R b (λ w r. elim (parts w r) [ inl x ↦ absurd (fa w x) | inr y ↦ y ]) q fb
first_of_both P Q R (Some x) None parts p q fa fb = first_same P R (Some x) (λ w r. elim (parts w r) [ inl x ↦ x | inr y ↦ absurd (fb w y) ]) p fa
first_of_both P Q R (Some x) (Some y) parts p q fa fb = pick (comes_before y x) refl where
  pick : (b : Bool) → comes_before y x ≡ b → IsFirstOf R (if b then Some y else Some x)
  pick true e = (q y fb.0, λ w r before. elim (parts w r) [ inl l ↦ fa.1 w l (chain w y x before (is_before y x e)) | inr k ↦ fb.1 w k before ])
  pick false e = (p x fa.0, λ w r before. elim (parts w r) [ inl l ↦ fa.1 w l before | inr k ↦ fb.1 w k (onward w x y before e) ])

-- of one, where it passes
pub first_of_one : (pass : Bool) (x : Waiter) (Q : Waiter → Type 0) → ((w : Waiter) → Q w → (w ≡ x) × (pass ≡ true)) → (pass ≡ true → Q x) → IsFirstOf Q (then_some pass x)
first_of_one true x Q is has = (has refl, λ w q before. never_before x (subst (λ v. ComesBefore v x) (is w q).0 before))
first_of_one false x Q is has = λ w q. let e = (is w q).1 in absurd cc

-- The offers of one that waits, one after another

-- an offer among one more is among the earlier ones, or the last
more_contained : (offers : List Offer) (i : ℕ) (d x : Offer) → i < length offers → Contains (take (i + 1) offers) x → Contains (take i offers) x ⊎ (get_or offers i d ≡ x)
more_contained offers i d x within (k, small, is) =
    let most : length (take (i + 1) offers) ≡ i + 1 = length-take-le (i + 1) offers (omega arith) in
    let fewer : length (take i offers) ≡ i = length-take-le i offers (omega arith) in
    let at : get_or offers k x ≡ x = sym (get_or-take (i + 1) offers k x (omega (arith, most, small))) ∙ is in
    elim (cases_eq k i) [
      | inl same ↦ inr (get_or_default offers i d x within ∙ subst (λ n. get_or offers n x ≡ x) same at)
      | inr other ↦ inl (k, omega (arith, most, fewer, small, other), get_or-take i offers k x (omega (arith, most, small, other)) ∙ at)
    ]

earlier_contained : (offers : List Offer) (i : ℕ) (x : Offer) → i < length offers → Contains (take i offers) x → Contains (take (i + 1) offers) x
earlier_contained offers i x within (k, small, is) =
    let most : length (take (i + 1) offers) ≡ i + 1 = length-take-le (i + 1) offers (omega arith) in
    let fewer : length (take i offers) ≡ i = length-take-le i offers (omega arith) in
    (k, omega (arith, most, fewer, small), get_or-take (i + 1) offers k x (omega (arith, fewer, small)) ∙ sym (get_or-take i offers k x (omega (arith, fewer, small))) ∙ is)

last_contained : (offers : List Offer) (i : ℕ) (d x : Offer) → i < length offers → get_or offers i d ≡ x → Contains (take (i + 1) offers) x
last_contained offers i d x within is =
    let most : length (take (i + 1) offers) ≡ i + 1 = length-take-le (i + 1) offers (omega arith) in
    (i, omega (arith, most), get_or-take (i + 1) offers i x (omega arith) ∙ get_or_default offers i x d within ∙ is)

-- the offer of a wait as a waiter
abbrev pub waiter_of : GNo → Wait → Offer → Waiter
waiter_of g x offer = record { g = g; arrival = x.arrival; kind = x.kind; offer = offer }

-- the first of one more offer
pub one_more : (g : GNo) (x : Wait) (c : CNo) (direction : Direction) (offers : List Offer) (i : ℕ) (d : Offer) (first : Option Waiter) → i < length offers
    → IsFirstOf (IsOfferOf g (record x { offers = take i offers }) c direction) first
    → IsFirstOf (IsOfferOf g (record x { offers = take (i + 1) offers }) c direction)
    (sooner first (then_some (is_on c direction (waiter_of g x (get_or offers i d))) (waiter_of g x (get_or offers i d))))
one_more g x c direction offers i d first within so_far =
    let last : Waiter = waiter_of g x (get_or offers i d) in
    let P : Waiter → Type 0 = IsOfferOf g (record x { offers = take i offers }) c direction in
    let Q : Waiter → Type 0 = λ w. (w ≡ last) × (is_on c direction last ≡ true) in
    let R : Waiter → Type 0 = IsOfferOf g (record x { offers = take (i + 1) offers }) c direction in
    first_of_both P Q R first (then_some (is_on c direction last) last)
    (λ w (of_g, arrival, kind, among, on). elim (more_contained offers i d w.offer within among) [
      | inl before ↦ inl (of_g, arrival, kind, before, on)
      | inr same ↦
          let is : w ≡ last = rw (of_g, arrival, kind, same) refl in
          inr (is, ap (is_on c direction) (sym is) ∙ on)
    ])
    (λ w (of_g, arrival, kind, among, on). (of_g, arrival, kind, earlier_contained offers i w.offer within among, on))
    (λ w (is, on). subst R (sym is) (refl, refl, refl, last_contained offers i d (get_or offers i d) within refl, on))
    so_far (first_of_one (is_on c direction last) last Q (λ w q. q) (λ on. (refl, on)))

-- and of all
pub all_of : (g : GNo) (x : Wait) (c : CNo) (direction : Direction) (offers : List Offer) (i : ℕ) (first : Option Waiter) → offers ≡ x.offers → length offers ≤ i
    → IsFirstOf (IsOfferOf g (record x { offers = take i offers }) c direction) first → IsFirstOf (IsOfferOf g x c direction) first
all_of g x c direction offers i first are end is =
    subst (λ l. IsFirstOf (IsOfferOf g (record x { offers = l }) c direction) first) (take_all i offers end ∙ are) is

-- The goroutines, one after another

-- an offer of one of the goroutines before this number
abbrev pub IsEarlierOn : Table → CNo → Direction → ℕ → Waiter → Type 0
IsEarlierOn t c direction i w = IsOfferOn t c direction w × (w.g.0 < i)

row_of : (t : Table) (w : Waiter) (i : ℕ) (row : Goroutine) (x : Wait) → w.g.0 ≡ i → slice_get t.goroutines i ≡ Some row → status_at t w.g ≡ Some (Waiting x) → row.status ≡ Waiting x
row_of t w i row x same at is =
    let there : option_map (λ (y : Goroutine). y.status) (slice_get t.goroutines i) ≡ Some (Waiting x) =
    subst (λ n. option_map (λ (y : Goroutine). y.status) (slice_get t.goroutines n) ≡ Some (Waiting x)) same is in
    let e : Some row.status ≡ Some (Waiting x) = ap (option_map (λ (y : Goroutine). y.status)) (sym at) ∙ there in
    cc

-- of one goroutine more
pub one_more_row : (t : Table) (c : CNo) (direction : Direction) (i : ℕ) (row : Goroutine) (first one : Option Waiter) → slice_get t.goroutines i ≡ Some row
    → IsFirstOf (IsEarlierOn t c direction i) first → IsFirstOf (IsOfferAt (record { 0 = i }) row.status c direction) one
    → IsFirstOf (IsEarlierOn t c direction (i + 1)) (sooner first one)
one_more_row t c direction i row first one at so_far of_g =
    first_of_both (IsEarlierOn t c direction i) (IsOfferAt (record { 0 = i }) row.status c direction) (IsEarlierOn t c direction (i + 1)) first one
    (λ w (((y, is, arrival, kind, among), on), small). elim (cases_eq w.g.0 i) [
      | inl same ↦ inr (y, row_of t w i row y same at is, (ap (λ n. let h : GNo = record { 0 = n } in h) same, arrival, kind, among, on))
      | inr other ↦ inl (((y, is, arrival, kind, among), on), omega (arith, small, other))
    ])
    (λ w (is, small). (is, omega (arith, small)))
    (λ w (x, waits, (is_g, arrival, kind, among, on)).
    let n : w.g.0 ≡ i = ap (λ (h : GNo). h.0) is_g in (
      (
        (
          x,
          (subst (λ k. option_map (λ (y : Goroutine). y.status) (slice_get t.goroutines k) ≡ Some (Waiting x)) (sym n)
              (ap (option_map (λ (y : Goroutine). y.status)) at ∙ ap Some waits)),
          arrival,
          kind,
          among,
        ),
        on,
      ),
      omega (arith, n),
    ))
    so_far of_g

-- all goroutines are before the end
pub all_earlier : (t : Table) (c : CNo) (direction : Direction) (i : ℕ) (first : Option Waiter) → length t.goroutines ≤ i → IsFirstOf (IsEarlierOn t c direction i) first
    → IsFirstOf (IsOfferOn t c direction) first
all_earlier t c direction i first end so_far =
    first_same (IsEarlierOn t c direction i) (IsOfferOn t c direction) first
    (λ w ((y, is, arrival, kind, among), on). (((y, is, arrival, kind, among), on), let small = slice_get_within t.goroutines w.g.0 (row_at (slice_get t.goroutines w.g.0) is).0 (row_at (slice_get t.goroutines w.g.0) is).1 in omega (arith, small, end)))
    (λ w (is, small). is) so_far where
      row_at : {x : Wait} (o : Option Goroutine) → option_map (λ (y : Goroutine). y.status) o ≡ Some (Waiting x) → (r : Goroutine) × (o ≡ Some r)
      row_at None h = absurd cc
      row_at (Some r) h = (r, refl)

-- the offers of one that waits
pub at_waiting : (g : GNo) (s : Status) (x : Wait) (c : CNo) (direction : Direction) (one : Option Waiter) → s ≡ Waiting x → IsFirstOf (IsOfferOf g x c direction) one
    → IsFirstOf (IsOfferAt g s c direction) one
at_waiting g s x c direction one is first =
    first_same (IsOfferOf g x c direction) (IsOfferAt g s c direction) one
    (λ w (y, is_too, of_y). let e : Waiting y ≡ Waiting x = sym is_too ∙ is in let same : y ≡ x = cc in subst (λ z. IsOfferOf g z c direction w) same of_y)
    (λ w of_x. (x, is, of_x)) first
