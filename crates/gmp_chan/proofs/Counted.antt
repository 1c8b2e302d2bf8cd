-- How many pass, and how many there are where each goroutine has at most 8.
use Rattle.std.proofs.Common.{◌≡◌, ◌≢◌, ◌⊎◌, inl, inr, ℕ, zero, suc, [], ◌∷◌, ◌++◌, ◌+◌, ◌*◌, ◌<◌, ◌≤◌, ◌==◌, ltb, cond, Bool, true, false, List, length, filter, count_by, refl, ap, arith}
use Rattle.std.proofs.lemmas.Bool.Decides.{eqb_tells, nat_tests}
use Rattle.std.proofs.lemmas.List.Sums.{sum_by-cons, sum_by-append}
use Rattle.gmp_base.specs.declared.number.GNo.{GNo}
use Rattle.gmp_seq.specs.declared.status.Waiter.{Waiter}
use Rattle.gmp_chan.specs.Contents.{is_of}
use Rattle.gmp_chan.proofs.Ordered.{Every, every_more}

abbrev pub one : Bool → ℕ
one b = cond b 1 0

pub count-cons : (p : Waiter → Bool) (x : Waiter) (l : List Waiter) → count_by p (x ∷ l) ≡ one (p x) + count_by p l
count-cons p x l = sum_by-cons (λ (z : Waiter). one (p z)) x l

pub count-filter : (p q : Waiter → Bool) (l : List Waiter) → count_by p (filter q l) ≤ count_by p l
count-filter p q [] = omega arith
count-filter p q (x ∷ l) = by (q x) (count-filter p q l)
  where
    by : (b : Bool) → count_by p (filter q l) ≤ count_by p l → count_by p (cond b (x ∷ filter q l) (filter q l)) ≤ count_by p (x ∷ l)
    by true deeper = omega (arith, deeper, count-cons p x l, count-cons p x (filter q l))
    by false deeper = omega (arith, deeper, count-cons p x l)

pub count-last : (p : Waiter → Bool) (l : List Waiter) (w : Waiter) → count_by p (l ++ w ∷ []) ≡ count_by p l + one (p w)
count-last p l w = (let parts = sum_by-append (λ (z : Waiter). one (p z)) l (w ∷ []) in omega (arith, parts, count-cons p w []))

pub none_passes : (p : Waiter → Bool) (l : List Waiter) → Every (λ x. p x ≡ false) l → count_by p l ≡ 0
none_passes p [] h = refl
none_passes p (x ∷ l) (here, rest) = omega (arith, none_passes p l rest, ap one here, count-cons p x l)

pub none_counted : (p : Waiter → Bool) (l : List Waiter) → count_by p l ≡ 0 → Every (λ x. p x ≡ false) l
none_counted p [] h = tt
none_counted p (x ∷ l) h = (by (p x) (omega (arith, h, count-cons p x l)), none_counted p l (omega (arith, h, count-cons p x l)))
  where
    by : (b : Bool) → one b ≡ 0 → b ≡ false
    by true h = absurd (omega arith)
    by false h = refl

all_pass : (p : Waiter → Bool) (l : List Waiter) → Every (λ x. p x ≡ true) l → count_by p l ≡ length l
all_pass p [] h = refl
all_pass p (x ∷ l) (here, rest) = omega (arith, all_pass p l rest, ap one here, count-cons p x l)

-- one more of g, which has less than 8
pub few_more : (l : List Waiter) (w : Waiter) → ((g : GNo) → count_by (is_of g) l ≤ 8) → count_by (is_of w.g) l < 8 → (g : GNo) → count_by (is_of g) (l ++ w ∷ []) ≤ 8
few_more l w all few g = by (eqb_tells w.g.0 g.0)
  where
    by : (((w.g.0 == g.0) ≡ true) × (w.g.0 ≡ g.0)) ⊎ (((w.g.0 == g.0) ≡ false) × (w.g.0 ≢ g.0)) → count_by (is_of g) (l ++ w ∷ []) ≤ 8
    by (inl e) =
        let same : count_by (is_of w.g) l ≡ count_by (is_of g) l = ap (λ (k : ℕ). count_by (λ (x : Waiter). x.g.0 == k) l) e.1 in
        omega (arith, count-last (is_of g) l w, ap one e.0, few, same)
    by (inr e) = omega (arith, count-last (is_of g) l w, ap one e.0, all g)

one_below : (k n : ℕ) → one (ltb k (suc n)) ≡ one (ltb k n) + one (k == n)
one_below k n = grind (arith, nat_tests)

below_more : (n : ℕ) (l : List Waiter) → count_by (λ (w : Waiter). ltb w.g.0 (suc n)) l ≡ count_by (λ (w : Waiter). ltb w.g.0 n) l + count_by (is_of (record { 0 = n })) l
below_more n [] = refl
below_more n (x ∷ l) =
    omega (arith, below_more n l, one_below x.g.0 n, count-cons (λ (w : Waiter). ltb w.g.0 (suc n)) x l, count-cons (λ (w : Waiter). ltb w.g.0 n) x l, count-cons (is_of (record { 0 = n })) x l)

none_below : (l : List Waiter) → count_by (λ (w : Waiter). ltb w.g.0 0) l ≡ 0
none_below [] = refl
none_below (x ∷ l) = (let no : ltb x.g.0 0 ≡ false = grind (arith, nat_tests) in omega (arith, none_below l, ap one no, count-cons (λ (w : Waiter). ltb w.g.0 0) x l))

few_below : (n : ℕ) (l : List Waiter) → ((g : GNo) → count_by (is_of g) l ≤ 8) → count_by (λ (w : Waiter). ltb w.g.0 n) l ≤ 8 * n
few_below zero l few = omega (arith, none_below l)
few_below (suc n) l few = (let more = below_more n l in omega (arith, few_below n l few, more, few (record { 0 = n })))

-- there is room for one more of a goroutine that has less than 8
pub room_for : (bodies : ℕ) (l : List Waiter) (w : Waiter) → Every (λ x. x.g.0 < bodies) l → w.g.0 < bodies → ((g : GNo) → count_by (is_of g) l ≤ 8) → count_by (is_of w.g) l < 8
    → length l + 1 ≤ 8 * bodies
room_for bodies l w known here all few =
    let below : Waiter → Bool = λ x. ltb x.g.0 bodies in
    let pass = all_pass (λ (x : Waiter). ltb x.g.0 bodies) l (every_more _ _ l (λ x h. grind (arith, nat_tests)) known) in
    let passes : ltb w.g.0 bodies ≡ true = grind (arith, nat_tests) in
    omega (arith, pass, ap one passes, count-last (λ (x : Waiter). ltb x.g.0 bodies) l w, few_below bodies (l ++ w ∷ []) (few_more l w all few))
