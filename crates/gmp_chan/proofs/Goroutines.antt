-- A goroutine begins to wait, and waits no more.
use Rattle.std.proofs.Common.{◌≡◌, ◌≢◌, ◌⊎◌, inl, inr, ℕ, zero, suc, ◌+◌, ◌*◌, ◌<◌, ◌≤◌, not, ◌&&◌, ltb, cond, Bool, true, false, IfSome, IfNone, Option, Some, None, List, [], ◌∷◌, ◌++◌, length, get_or, set, take, count_by, is_some, get_or-set_same, get_or-set_other, length-set, append_assoc, refl, sym, ap, ◌∙◌, arith}
use Rattle.std.specs.List.{list_all, range_with_len}
use Rattle.std.proofs.lemmas.Bool.Decides.{nat_tests}
use Rattle.std.proofs.lemmas.List.{take_more}
use Rattle.std.proofs.lemmas.List.Sums.{count_by-le-length, sum_by-append}
use Rattle.gmp_base.specs.declared.number.GNo.{GNo}
use Rattle.gmp_seq.specs.declared.status.Kind.{Kind}
use Rattle.gmp_seq.specs.declared.status.Offer.{Offer}
use Rattle.gmp_seq.specs.declared.status.Waiter.{Waiter}
use Rattle.gmp_seq.specs.Waits.{as_waiters}
use Rattle.gmp_chan.specs.Contents.{is_of, without}
use Rattle.gmp_chan.specs.Order.{above, is_later, rise}
use Rattle.gmp_chan.specs.Slots.{IsNowhere, IsThere, in_order, rank}
use Rattle.gmp_chan.proofs.Counted.{none_counted, none_passes, one}
use Rattle.gmp_chan.proofs.Ordered.{Every, emptied, every_of, keep, of_every, vacant_or, within_some}
use Rattle.gmp_chan.proofs.Ringed.{order, same_or_not}

-- It waits no more

-- of those in the slots, some of g's are gone, and all others are left
pub record HasLost (g : GNo) (slots now : List (Option Waiter)) : Type 0 where
  pub size : length now ≡ length slots
  pub left : (k : ℕ) (x : Waiter) → get_or now k None ≡ Some x → get_or slots k None ≡ Some x
  pub others : (k : ℕ) (x : Waiter) → get_or slots k None ≡ Some x → is_of g x ≡ false → get_or now k None ≡ Some x

pub lost_step : (g : GNo) (slots now : List (Option Waiter)) (i : ℕ) → HasLost g slots now → IsThere (is_of g) now i → HasLost g slots (set now i None)
lost_step g slots now i lost found = record {
  size = length-set now i None ∙ lost.size;
  left = λ k x is. left k x is (same_or_not k i);
  others = λ k x is away. others k x is away (same_or_not k i);
}
  where
    left : (k : ℕ) (x : Waiter) → get_or (set now i None) k None ≡ Some x → (k ≡ i) ⊎ (k ≢ i) → get_or slots k None ≡ Some x
    left k x is (inl e) =
        absurd (let no : None ≡ Some x = sym (get_or-set_same now i None None (within_some now i found.waiter found.there)) ∙ (ap (λ (n : ℕ). get_or (set now i None) n None) (sym e) ∙ is) in cc)
    left k x is (inr e) = lost.left k x (sym (get_or-set_other now i k None None e) ∙ is)

    others : (k : ℕ) (x : Waiter) → get_or slots k None ≡ Some x → is_of g x ≡ false → (k ≡ i) ⊎ (k ≢ i) → get_or (set now i None) k None ≡ Some x
    others k x is away (inl e) =
        let same : x ≡ found.waiter = (let s : Some x ≡ Some found.waiter = sym (lost.others k x is away) ∙ (ap (λ (n : ℕ). get_or now n None) e ∙ found.there) in cc) in
        absurd (let no : false ≡ true = sym away ∙ (ap (is_of g) same ∙ found.passes) in cc)
    others k x is away (inr e) = get_or-set_other now i k None None e ∙ lost.others k x is away

pub withdrawn : (g : GNo) (slots now : List (Option Waiter)) → HasLost g slots now → IsNowhere (is_of g) now → in_order now ≡ without g (in_order slots)
withdrawn g slots now lost none = emptied (λ (w : Waiter). not (is_of g w)) slots now lost.size (λ k. by k (get_or slots k None) refl (get_or now k None) refl)
  where
    by : (k : ℕ) (o : Option Waiter) → get_or slots k None ≡ o → (n : Option Waiter) → get_or now k None ≡ n → get_or now k None ≡ keep (λ (w : Waiter). not (is_of g w)) o
    by k None was None is = is
    by k None was (Some y) is = absurd (let no : None ≡ Some y = sym was ∙ lost.left k y is in cc)
    by k (Some x) was n is = passes (is_of g x) refl n is
      where
        passes : (b : Bool) → is_of g x ≡ b → (n : Option Waiter) → get_or now k None ≡ n → get_or now k None ≡ cond (not b) (Some x) None
        passes false away n is = lost.others k x was away
        passes true own None is = is
        passes true own (Some y) is =
            let same : x ≡ y = (let s : Some x ≡ Some y = sym was ∙ lost.left k y is in cc) in
            absurd (let no : true ≡ false = sym own ∙ (ap (is_of g) same ∙ none k y is) in cc)

-- Whether it waits

pub waiting : (g : GNo) (slots : List (Option Waiter)) (found : Option ℕ) → IfSome found (IsThere (is_of g) slots) → IfNone found (IsNowhere (is_of g) slots)
    → is_some found ≡ ltb 0 (count_by (is_of g) (in_order slots))
waiting g slots None some none = (let no = none_passes (is_of g) (in_order slots) (every_of _ slots none) in grind (arith, nat_tests))
waiting g slots (Some i) some none =
    let more : 0 < count_by (is_of g) (in_order slots) = elim (order 0 (count_by (is_of g) (in_order slots))) [
      | inl h ↦ h
      | inr h ↦ absurd (let no = of_every (λ w. is_of g w ≡ false) slots (none_counted (is_of g) (in_order slots) (omega (arith, h))) i some.waiter some.there in let clash : true ≡ false = sym some.passes ∙ no in cc)
    ] in
    grind (arith, nat_tests)

-- Whether an arrival is later than all

slots_from : (p : Waiter → Bool) (slots : List (Option Waiter)) (n a : ℕ) (at : ℕ → Option Waiter) → length slots ≤ n → ((k : ℕ) → at (a + k) ≡ get_or slots k None)
    → list_all (λ (k : ℕ). vacant_or p (at k)) (range_with_len a n) ≡ list_all (vacant_or p) slots
slots_from p [] zero a at few same = refl
slots_from p (x ∷ slots) zero a at few same = absurd (omega (arith, few))
slots_from p [] (suc n) a at few same =
    ap (λ (o : Option Waiter). vacant_or p o && list_all (λ (k : ℕ). vacant_or p (at k)) (range_with_len (a + 1) n)) (ap at (omega arith) ∙ same 0)
    ∙ slots_from p [] n (a + 1) at (omega arith) (λ k. ap at (omega arith) ∙ same (suc k))
slots_from p (x ∷ slots) (suc n) a at few same =
    ap (λ (o : Option Waiter). vacant_or p o && list_all (λ (k : ℕ). vacant_or p (at k)) (range_with_len (a + 1) n)) (ap at (omega arith) ∙ same 0)
    ∙ ap (λ (b : Bool). vacant_or p x && b) (slots_from p slots n (a + 1) at (omega (arith, few)) (λ k. ap at (omega arith) ∙ same (suc k)))

pub all_slots : (p : Waiter → Bool) (slots : List (Option Waiter)) (n : ℕ) → length slots ≤ n → list_all (λ (k : ℕ). vacant_or p (get_or slots k None)) (range_with_len 0 n) ≡ list_all (vacant_or p) slots
all_slots p slots n few = slots_from p slots n 0 (λ k. get_or slots k None) few (λ k. ap (λ (j : ℕ). get_or slots j None) (omega arith))

-- It begins to wait

every_append : (P : Waiter → Type 0) (a b : List Waiter) → Every P a → Every P b → Every P (a ++ b)
every_append P [] b h k = k
every_append P (x ∷ a) b (here, rest) k = (here, every_append P a b rest k)

every_lower : (arrival case : ℕ) (l : List Waiter) → is_later arrival l ≡ true → Every (λ x. x.offer.case < 256) l → Every (λ x. rank x < arrival * 256 + case) l
every_lower arrival case [] h k = tt
every_lower arrival case (x ∷ l) h (low, rest) = by (ltb x.arrival arrival) refl (λ later. every_lower arrival case l later rest) h
  where
    by : (b : Bool) → ltb x.arrival arrival ≡ b → (is_later arrival l ≡ true → Every (λ x. rank x < arrival * 256 + case) l) → b && is_later arrival l ≡ true
        → (rank x < arrival * 256 + case) × Every (λ x. rank x < arrival * 256 + case) l
    by true is deeper later = (let less : x.arrival < arrival = grind (arith, nat_tests) in omega (arith, less, low), deeper later)
    by false is deeper later = absurd cc

and_both : (a b : Bool) → a && b ≡ true → (a ≡ true) × (b ≡ true)
and_both true b h = (refl, h)
and_both false b h = absurd cc

above_at : (case : ℕ) (offers : List Offer) (n : ℕ) (d : Offer) → n < length offers → above case offers ≡ true → case < (get_or offers n d).case
above_at case [] n d within h = absurd (omega (arith, within))
above_at case (o ∷ offers) zero d within h = (let t = (and_both (ltb case o.case) (above case offers) h).0 in grind (arith, nat_tests))
above_at case (o ∷ offers) (suc n) d within h = above_at case offers n d (omega (arith, within)) (and_both (ltb case o.case) (above case offers) h).1

own_lower : (g : GNo) (arrival : ℕ) (kind : Kind) (offers : List Offer) (n : ℕ) (d : Offer) → n < length offers → rise offers ≡ true
    → Every (λ x. rank x < arrival * 256 + (get_or offers n d).case) (as_waiters g arrival kind (take n offers))
own_lower g arrival kind [] n d within h = absurd (omega (arith, within))
own_lower g arrival kind (o ∷ offers) zero d within h = tt
own_lower g arrival kind (o ∷ offers) (suc n) d within h =
    let both = and_both (above o.case offers) (rise offers) h in
    (omega (arith, above_at o.case offers n d (omega (arith, within)) both.0), own_lower g arrival kind offers n d (omega (arith, within)) both.1)

-- all that wait rank lower than the offer that is next
pub all_lower : (g : GNo) (arrival : ℕ) (kind : Kind) (offers : List Offer) (n : ℕ) (d : Offer) (old : List Waiter) → n < length offers → rise offers ≡ true → is_later arrival old ≡ true
    → Every (λ x. x.offer.case < 256) old → Every (λ x. rank x < arrival * 256 + (get_or offers n d).case) (old ++ as_waiters g arrival kind (take n offers))
all_lower g arrival kind offers n d old within rises later cases =
    every_append _ old (as_waiters g arrival kind (take n offers)) (every_lower arrival (get_or offers n d).case old later cases) (own_lower g arrival kind offers n d within rises)

length-as_waiters : (g : GNo) (arrival : ℕ) (kind : Kind) (offers : List Offer) (n : ℕ) → length (as_waiters g arrival kind (take n offers)) ≤ n
length-as_waiters g arrival kind offers zero = omega arith
length-as_waiters g arrival kind [] (suc n) = omega arith
length-as_waiters g arrival kind (o ∷ offers) (suc n) = (let r = length-as_waiters g arrival kind offers n in omega (arith, r))

pub few_own : (g : GNo) (arrival : ℕ) (kind : Kind) (offers : List Offer) (n : ℕ) (old : List Waiter) → count_by (is_of g) old ≡ 0 → count_by (is_of g) (old ++ as_waiters g arrival kind (take n offers)) ≤ n
few_own g arrival kind offers n old fresh =
    let parts = sum_by-append (λ (z : Waiter). one (is_of g z)) old (as_waiters g arrival kind (take n offers)) in
    let most = count_by-le-length (is_of g) (as_waiters g arrival kind (take n offers)) in
    omega (arith, fresh, parts, most, length-as_waiters g arrival kind offers n)

as_waiters_last : (g : GNo) (arrival : ℕ) (kind : Kind) (offers : List Offer) (o : Offer)
    → as_waiters g arrival kind (offers ++ o ∷ []) ≡ as_waiters g arrival kind offers ++ record { g = g; arrival = arrival; kind = kind; offer = o } ∷ []
as_waiters_last g arrival kind [] o = refl
as_waiters_last g arrival kind (x ∷ offers) o =
    ap (λ (l : List Waiter). record { g = g; arrival = arrival; kind = kind; offer = x } ∷ l) (as_waiters_last g arrival kind offers o)

-- one offer more
pub added_step : (g : GNo) (arrival : ℕ) (kind : Kind) (offers : List Offer) (n : ℕ) (d : Offer) (old so_far now : List Waiter) → n < length offers
    → now ≡ so_far ++ record { g = g; arrival = arrival; kind = kind; offer = get_or offers n d } ∷ [] → so_far ≡ old ++ as_waiters g arrival kind (take n offers)
    → now ≡ old ++ as_waiters g arrival kind (take (n + 1) offers)
added_step g arrival kind offers n d old so_far now within last before =
    let x : Waiter = record { g = g; arrival = arrival; kind = kind; offer = get_or offers n d } in
    last
    ∙ (ap (λ (l : List Waiter). l ++ x ∷ []) before
    ∙ (append_assoc old (as_waiters g arrival kind (take n offers)) (x ∷ [])
    ∙ ap (λ (l : List Waiter). old ++ l) (sym (ap (as_waiters g arrival kind) (take_more offers n d within) ∙ as_waiters_last g arrival kind (take n offers) (get_or offers n d)))))
