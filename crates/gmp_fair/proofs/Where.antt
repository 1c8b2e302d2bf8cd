-- Where a waiting ticket stands: on the shelf, in one queue, or in one hand.
use Rattle.std.proofs.Common.{◌≡◌, ◌≢◌, ◌⊎◌, inl, inr, ℕ, zero, suc, ◌+◌, ◌<◌, ◌≤◌, ◌==◌, ◌&&◌, cond, Bool, true, false, if◌then◌else◌, List, [], ◌∷◌, length, get_or, refl, sym, ap, subst, ◌∙◌, arith, Option, None, Some, count_by, sum_by}
use Rattle.std.proofs.lemmas.Bool.{cases_lt, eqb-true, false≢true}
use Rattle.std.proofs.lemmas.List.Sums.{sum_by-cons}
use Rattle.std.specs.List.{slice_get}
use Rattle.std.specs.Option.{option_map_or}
use Rattle.gmp_base.specs.declared.number.GNo.{GNo}
use Rattle.gmp_base.specs.declared.number.MNo.{MNo}
use Rattle.gmp_base.specs.declared.number.PNo.{PNo}
use Rattle.gmp_base.specs.declared.number.Readiness.{Readiness}
use Rattle.gmp_seq.specs.declared.status.Goroutine.{Goroutine}
use Rattle.gmp_seq.specs.Table.{Table, is_shelved}
use Rattle.gmp_acts.specs.Hands.{PlainMachine}
use Rattle.gmp_acts.specs.Sound.{IsSound}
use Rattle.gmp_acts.specs.System.{System, in_hand, in_queue, is_same, machine_at, no_machine, on_shelf, queue_at}
use Rattle.gmp_acts.proofs.Whole.{headline_of}
use Rattle.gmp_table.specs.Kept.{passes_at, times}
use Rattle.gmp_fair.specs.Fair.{IsBehind, Lists, Stands}
use Rattle.gmp_fair.specs.Waits.{IsWaiting}

-- Rows of a list, and their sum

pub one_row : {A : Type 0} (f : A → ℕ) (d : A) → f d ≡ 0 → (xs : List A) (i : ℕ) → f (get_or xs i d) ≤ sum_by f xs
one_row f d none [] i = omega (arith, none)
one_row f d none (x ∷ xs) zero = (let all = sum_by-cons f x xs in omega (arith, all))
one_row f d none (x ∷ xs) (suc i) = (let all = sum_by-cons f x xs in let rest = one_row f d none xs i in omega (arith, all, rest))

pub two_rows : {A : Type 0} (f : A → ℕ) (d : A) → f d ≡ 0 → (xs : List A) (i j : ℕ) → i ≢ j → f (get_or xs i d) + f (get_or xs j d) ≤ sum_by f xs
two_rows f d none [] i j ne = omega (arith, none)
two_rows f d none (x ∷ xs) zero zero ne = absurd (ne refl)
two_rows f d none (x ∷ xs) zero (suc j) ne = (let all = sum_by-cons f x xs in let rest = one_row f d none xs j in omega (arith, all, rest))
two_rows f d none (x ∷ xs) (suc i) zero ne = (let all = sum_by-cons f x xs in let rest = one_row f d none xs i in omega (arith, all, rest))
two_rows f d none (x ∷ xs) (suc i) (suc j) ne =
    let all = sum_by-cons f x xs in
    let rest = two_rows f d none xs i j (λ e. ne (ap (λ (n : ℕ). suc n) e)) in
    omega (arith, all, rest)

pub some_row : {A : Type 0} (f : A → ℕ) (xs : List A) (d : A) → 1 ≤ sum_by f xs → (i : ℕ) × (i < length xs) × (1 ≤ f (get_or xs i d))
some_row f [] d h = absurd (omega arith)
some_row f (x ∷ xs) d h = elim (cases_lt (f x) 1) [
  | inl none ↦
      let rest = some_row f xs d (let all = sum_by-cons f x xs in omega (arith, all, none, h)) in
      (suc rest.0, (let l = rest.1 in omega (arith, l)), rest.2)
  | inr some ↦ (0, omega arith, some)
]

-- Lines

counted : {A : Type 0} (p : A → Bool) (y : A) (l : List A) → count_by p (y ∷ l) ≡ cond (p y) 1 0 + count_by p l
counted p y l = sum_by-cons (λ (u : _). cond (p u) 1 0) y l

-- who is counted stands in the line
pub counted_stands : {A : Type 0} (p : A → Bool) (l : List A) → 1 ≤ count_by p l → (j : ℕ) × (x : A) × IsBehind j x l × (p x ≡ true)
counted_stands p [] h = absurd (omega arith)
counted_stands p (y ∷ l) h = by (p y) refl (counted_stands p l) where
  by : (b : Bool) → p y ≡ b → (1 ≤ count_by p l → (j : ℕ) × (x : _) × IsBehind j x l × (p x ≡ true)) → (j : ℕ) × (x : _) × IsBehind j x (y ∷ l) × (p x ≡ true)
  by true e later = (0, y, refl, e)
  by false e later =
      let none : ◌≡◌ {A = ℕ} (cond (p y) 1 0) 0 = ap (λ (b : Bool). cond b 1 0) e in
      let rest = later (let all = counted p y l in omega (arith, all, none, h)) in
      (suc rest.0, rest.1, rest.2, rest.3)

pub split_and : (a b : Bool) → (a && b) ≡ true → (a ≡ true) × (b ≡ true)
split_and true b e = (refl, e)
split_and false b e = absurd (false≢true e)

-- the same ticket by its numbers
pub same_ticket : (r t : Readiness) → is_same r t ≡ true → t ≡ r
same_ticket r t e =
    let parts = split_and (r.g.0 == t.g.0) (r.epoch == t.epoch) e in
    let g : t.g.0 ≡ r.g.0 = sym (eqb-true r.g.0 t.g.0 parts.0) in
    let epoch : t.epoch ≡ r.epoch = sym (eqb-true r.epoch t.epoch parts.1) in
    ap (λ (i : ℕ). let y : Readiness = record { g = record { 0 = i }; epoch = t.epoch } in y) g ∙ ap (λ (i : ℕ). let y : Readiness = record { g = r.g; epoch = i } in y) epoch

pub stands_in : (r : Readiness) (l : List Readiness) → 1 ≤ in_queue r l → Stands r l
stands_in r l h = (let w = counted_stands (is_same r) l h in (w.0, subst (λ (t : Readiness). IsBehind w.0 t l) (same_ticket r w.1 w.3) w.2))

same_goroutine : (g x : GNo) → (x.0 == g.0) ≡ true → x ≡ g
same_goroutine g x e = ap (λ (i : ℕ). let y : GNo = record { 0 = i } in y) (eqb-true x.0 g.0 e)

-- Tables

module _ (r : Readiness) (t : Table) where
  abbrev row_is : (Goroutine → Bool) → Bool
  row_is p = option_map_or p (slice_get t.goroutines r.g.0) false

  shelved_row : on_shelf r t ≡ 1 → passes_at is_shelved t.goroutines r.g.0 ≡ true
  shelved_row h = by (slice_get t.goroutines r.g.0) refl where
    by : (o : Option Goroutine) → slice_get t.goroutines r.g.0 ≡ o → passes_at is_shelved t.goroutines r.g.0 ≡ true
    by None at = absurd (let none : on_shelf r t ≡ 0 = ap (λ (o : Option Goroutine). if option_map_or (λ (x : Goroutine). is_shelved x.status && (x.epoch == r.epoch)) o false then 1 else 0) at in omega (arith, none, h))
    by (Some x) at = ap (λ (o : Option Goroutine). option_map_or (λ (y : Goroutine). is_shelved y.status) o false) at ∙ by_test (is_shelved x.status) refl where
      by_test : (b : Bool) → is_shelved x.status ≡ b → is_shelved x.status ≡ true
      by_test true e = e
      by_test false e = absurd (
          let none : on_shelf r t ≡ 0 = ap (λ (o : Option Goroutine). if option_map_or (λ (y : Goroutine). is_shelved y.status && (y.epoch == r.epoch)) o false then 1 else 0) at ∙ ap (λ (b : Bool). if b && (x.epoch == r.epoch) then 1 else 0) e in
          omega (arith, none, h))

-- a ticket on the shelf stands in its line
pub stands_on : (r : Readiness) (line : List GNo) (k : System) → Lists line k → on_shelf r k.book.state.table ≡ 1 → Stands r.g line
stands_on r line k lists on =
    let one : times r.g.0 line ≡ 1 = lists.each r.g.0 ∙ ap (λ (b : Bool). if b then 1 else 0) (shelved_row r k.book.state.table on) in
    let w = counted_stands (λ (x : GNo). x.0 == r.g.0) line (omega (arith, one)) in
    (w.0, subst (λ (x : GNo). IsBehind w.0 x line) (same_goroutine r.g w.1 w.3) w.2)

-- Places

abbrev pub hands : Readiness → System → ℕ
hands r k = sum_by (λ (x : PlainMachine). in_hand r x.hand) k.machines

abbrev pub queued : Readiness → System → ℕ
queued r k = sum_by (in_queue r) k.queues

-- it is in one place
pub one_place : (r : Readiness) (line : List GNo) (k : System) → IsSound k → IsWaiting r line k → on_shelf r k.book.state.table + queued r k + hands r k ≡ 1
one_place r line k sound w = (let one = (headline_of k sound).one_place r w.lasts in let e = w.ready in omega (arith, one, e))

abbrev pub Where : Readiness → System → Type 0
Where r k = (on_shelf r k.book.state.table ≡ 1) ⊎ (((p : PNo) × Stands r (queue_at k p)) ⊎ ((a : MNo) × (a.0 < length k.machines) × (1 ≤ in_hand r (machine_at k a).hand)))

pub where_is : (r : Readiness) (line : List GNo) (k : System) → IsSound k → IsWaiting r line k → Where r k
where_is r line k sound w =
    let one = one_place r line k sound w in
    elim (cases_lt (on_shelf r k.book.state.table) 1) [
      | inl off ↦ elim (cases_lt (queued r k) 1) [
        | inl none ↦
            let at = some_row (λ (x : PlainMachine). in_hand r x.hand) k.machines no_machine (omega (arith, one, off, none)) in
            inr (inr (record { 0 = at.0 }, at.1, at.2))
        | inr some ↦
            let at = some_row (in_queue r) k.queues [] some in
            inr (inl (record { 0 = at.0 }, stands_in r (get_or k.queues at.0 []) at.2))
      ]
      | inr on ↦ inl (omega (arith, one, on))
    ]

-- what is in one place adds up to all
pub in_one_queue : (r : Readiness) (k : System) (p : PNo) → in_queue r (queue_at k p) ≤ queued r k
in_one_queue r k p = one_row (in_queue r) [] refl k.queues p.0

pub in_two_queues : (r : Readiness) (k : System) (p q : PNo) → p.0 ≢ q.0 → in_queue r (queue_at k p) + in_queue r (queue_at k q) ≤ queued r k
in_two_queues r k p q ne = two_rows (in_queue r) [] refl k.queues p.0 q.0 ne

pub in_one_hand : (r : Readiness) (k : System) (a : MNo) → in_hand r (machine_at k a).hand ≤ hands r k
in_one_hand r k a = one_row (λ (x : PlainMachine). in_hand r x.hand) no_machine refl k.machines a.0

pub in_two_hands : (r : Readiness) (k : System) (a b : MNo) → a.0 ≢ b.0 → in_hand r (machine_at k a).hand + in_hand r (machine_at k b).hand ≤ hands r k
in_two_hands r k a b ne = two_rows (λ (x : PlainMachine). in_hand r x.hand) no_machine refl k.machines a.0 b.0 ne
