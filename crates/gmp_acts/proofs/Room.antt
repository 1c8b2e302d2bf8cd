-- A queue has room: no goroutine has two tickets, so there are no more tickets than goroutines.
use Rattle.std.proofs.Common.{◌≡◌, inl, inr, ℕ, zero, suc, ◌+◌, ◌<◌, ◌≤◌, Bool, true, false, ◌&&◌, ◌==◌, cond, nat_lt, List, [], ◌∷◌, ◌++◌, length, refl, sym, ap, ◌∙◌, arith, Some, sum_by, count_by}
use Rattle.std.proofs.lemmas.Bool.{cases_lt, eq-eqb, eqb-true}
use Rattle.std.proofs.lemmas.Bool.Decides.{nat_tests}
use Rattle.std.proofs.lemmas.List.{length-append}
use Rattle.std.proofs.lemmas.List.Sums.{get_or-le-sum_by, sum_by-cons, sum_by_push}
use Rattle.std.proofs.lemmas.Option.{slice_get_within}
use Rattle.std.specs.List.{slice_get}
use Rattle.gmp_base.specs.declared.number.MNo.{MNo}
use Rattle.gmp_base.specs.declared.number.PNo.{PNo}
use Rattle.gmp_base.specs.declared.number.Readiness.{Readiness}
use Rattle.gmp_seq.proofs.Epochs.{epoch_of}
use Rattle.gmp_seq.proofs.Sizes.{legal_sizes}
use Rattle.gmp_seq.proofs.Waiting.{In}
use Rattle.gmp_seq.specs.Needs.{IsOutstanding}
use Rattle.gmp_seq.specs.Table.{Table}
use Rattle.gmp_acts.specs.Hands.{PlainMachine}
use Rattle.gmp_acts.specs.Sound.{IsSound}
use Rattle.gmp_acts.specs.System.{System, machine_at, no_machine, queue_at, is_same, is_ticket, in_hand, in_queue, out}
use Rattle.gmp_acts.proofs.Granted.{is_out_by}

-- 1 where the test passes
abbrev one_if : Bool → ℕ
one_if b = cond b 1 0

abbrev is_of : ℕ → Readiness → Bool
is_of n t = t.g.0 == n

abbrev is_below : ℕ → Readiness → Bool
is_below n t = nat_lt t.g.0 n

counted : (p : Readiness → Bool) (t : Readiness) (l : List Readiness) → count_by p (t ∷ l) ≡ one_if (p t) + count_by p l
counted p t l = sum_by-cons (λ (u : Readiness). one_if (p u)) t l

same_self : (t : Readiness) → is_same t t ≡ true
same_self t = ap (λ (b : Bool). b && (t.epoch == t.epoch)) (eq-eqb t.g.0 t.g.0 refl) ∙ eq-eqb t.epoch t.epoch refl

-- what is in the list counts
in_counts : (u : Readiness) (l : List Readiness) → In u l → 1 ≤ count_by (is_same u) l
in_counts u [] h = absurd h
in_counts u (t ∷ l) (inl same) =
    let it : one_if (is_same u t) ≡ 1 = ap (λ (v : Readiness). one_if (is_same u v)) same ∙ ap one_if (same_self u) in
    let all = counted (is_same u) t l in omega (arith, it, all)
in_counts u (t ∷ l) (inr h) = (let rest = in_counts u l h in let all = counted (is_same u) t l in omega (arith, rest, all))

-- what counts is in the list
some_in : (p : Readiness → Bool) (l : List Readiness) → 1 ≤ count_by p l → (u : Readiness) × In u l × (p u ≡ true)
some_in p [] h = absurd (omega arith)
some_in p (t ∷ l) h = by_test (p t) refl (some_in p l) where
  by_test : (b : Bool) → p t ≡ b → (1 ≤ count_by p l → (u : Readiness) × In u l × (p u ≡ true)) → (u : Readiness) × In u (t ∷ l) × (p u ≡ true)
  by_test true e rest = (t, inl refl, e)
  by_test false e rest =
      let w = rest (let all = counted p t l in let none : one_if (p t) ≡ 0 = ap one_if e in omega (arith, all, none, h)) in
      (w.0, inr w.1, w.2)

one_le : (a b : Bool) → (a ≡ true → b ≡ true) → one_if a ≤ one_if b
one_le true b h = (let e : one_if b ≡ 1 = ap one_if (h refl) in omega (arith, e))
one_le false b h = omega arith

-- what passes one test passes the other
count_le : (p q : Readiness → Bool) (l : List Readiness) → ((u : Readiness) → In u l → p u ≡ true → q u ≡ true) → count_by p l ≤ count_by q l
count_le p q [] h = omega arith
count_le p q (t ∷ l) h =
    let first = one_le (p t) (q t) (h t (inl refl)) in
    let rest = count_le p q l (λ u there. h u (inr there)) in
    let a = counted p t l in let b = counted q t l in omega (arith, first, rest, a, b)

split_one : (i n : ℕ) → one_if (nat_lt i (suc n)) ≤ one_if (nat_lt i n) + one_if (i == n)
split_one i n = grind (arith, nat_tests)

split : (n : ℕ) (l : List Readiness) → count_by (is_below (suc n)) l ≤ count_by (is_below n) l + count_by (is_of n) l
split n [] = omega arith
split n (t ∷ l) =
    let first = split_one t.g.0 n in
    let rest = split n l in
    let a = counted (is_below (suc n)) t l in let b = counted (is_below n) t l in let c = counted (is_of n) t l in
    omega (arith, first, rest, a, b, c)

not_below : (i : ℕ) → one_if (nat_lt i 0) ≡ 0
not_below i = grind (arith, nat_tests)

none_below : (l : List Readiness) → count_by (is_below 0) l ≡ 0
none_below [] = refl
none_below (t ∷ l) = (let all = counted (is_below 0) t l in let rest = none_below l in let this = not_below t.g.0 in omega (arith, all, rest, this))

below : (n : ℕ) (l : List Readiness) → ((i : ℕ) → count_by (is_of i) l ≤ 1) → count_by (is_below n) l ≤ n
below zero l most = (let none = none_below l in omega (arith, none))
below (suc n) l most = (let rest = below n l most in let this = most n in let parts : count_by (is_below (suc n)) l ≤ count_by (is_below n) l + count_by (is_of n) l = split n l in omega (arith, rest, this, parts))

all_below : (n : ℕ) (l : List Readiness) → ((u : Readiness) → In u l → u.g.0 < n) → count_by (is_below n) l ≡ length l
all_below n [] h = refl
all_below n (t ∷ l) h =
    let first : one_if (is_below n t) ≡ 1 = (let less = h t (inl refl) in grind (arith, nat_tests, less)) in
    let rest = all_below n l (λ u there. h u (inr there)) in
    let a = counted (is_below n) t l in omega (arith, first, rest, a)

-- Tickets that are each out at most as often as they stand in a list

module _ (t : Table) (l : List Readiness) (most : (r : Readiness) → count_by (is_same r) l ≤ out r t) where
  is_out : (u : Readiness) → In u l → IsOutstanding t u
  is_out u h = is_out_by t u (let a = in_counts u l h in let b = most u in omega (arith, a, b))

  one_epoch : (u v : Readiness) → In u l → In v l → u.g.0 ≡ v.g.0 → u.epoch ≡ v.epoch
  one_epoch u v a b same =
      sym (ap epoch_of (is_out u a).1) ∙ ap (λ (i : ℕ). epoch_of (slice_get t.goroutines i)) same ∙ ap epoch_of (is_out v b).1

  out_most : (r : Readiness) → out r t ≤ 1
  out_most r = by_test _ where
    by_test : (b : Bool) → one_if b ≤ 1
    by_test true = omega arith
    by_test false = omega arith

  one_of : (i : ℕ) → count_by (is_of i) l ≤ 1
  one_of i = elim (cases_lt (count_by (is_of i) l) 1) [
    | inl none ↦ omega (arith, none)
    | inr some ↦
        let u = some_in (is_of i) l some in
        let u_is : u.0.g.0 ≡ i = eqb-true u.0.g.0 i u.2 in
        let le : count_by (is_of i) l ≤ count_by (is_same u.0) l = count_le (is_of i) (is_same u.0) l (λ v there of.
        let v_is : v.g.0 ≡ i = eqb-true v.g.0 i of in
        let same : u.0.g.0 ≡ v.g.0 = u_is ∙ sym v_is in
        ap (λ (b : Bool). b && (u.0.epoch == v.epoch)) (eq-eqb u.0.g.0 v.g.0 same) ∙ eq-eqb u.0.epoch v.epoch (one_epoch u.0 v u.1 there same)) in
        let a = most u.0 in let b = out_most u.0 in omega (arith, le, a, b)
  ]

  pub few_tickets : length l ≤ length t.goroutines
  few_tickets =
      let all = all_below (length t.goroutines) l (λ u there. slice_get_within t.goroutines u.g.0 _ (is_out u there).1) in
      let few = below (length t.goroutines) l one_of in
      omega (arith, all, few)

-- a ticket that is pushed finds room in a queue that has room for a ticket of each goroutine
pub push_has_room : (k : System) (m : MNo) (p : PNo) (t : Readiness) → IsSound k → m.0 < length k.machines → p.0 < length k.queues → (machine_at k m).hand.to_store ≡ Some t
    → length (queue_at k p) < k.book.bodies
push_has_room k m p t s inside within has =
    let most : (r : Readiness) → count_by (is_same r) (queue_at k p ++ t ∷ []) ≤ out r k.book.state.table = (λ (r : Readiness).
    let last : count_by (is_same r) (queue_at k p ++ t ∷ []) ≡ in_queue r (queue_at k p) + one_if (is_same r t) = sum_by_push (λ (u : Readiness). one_if (is_same r u)) (queue_at k p) t in
    let queue : in_queue r (queue_at k p) ≤ sum_by (in_queue r) k.queues = get_or-le-sum_by (in_queue r) k.queues p.0 [] within in
    let hand : in_hand r (machine_at k m).hand ≤ sum_by (λ (x : PlainMachine). in_hand r x.hand) k.machines = get_or-le-sum_by (λ (x : PlainMachine). in_hand r x.hand) k.machines m.0 no_machine inside in
    let store : is_ticket r (machine_at k m).hand.to_store ≡ is_ticket r (Some t) = ap (is_ticket r) has in
    let all = s.tickets r in
    omega (arith, last, queue, hand, store, all)) in
    let few = few_tickets k.book.state.table (queue_at k p ++ t ∷ []) most in
    let long = length-append (queue_at k p) (t ∷ []) in
    let rows = (legal_sizes k.book.limits k.book.bodies k.book.capacities k.book.history k.book.state s.within s.legal).goroutines in
    omega (arith, few, long, rows)
