-- Of each communication every reply that could be its answer is tried.
use Rattle.std.proofs.Common.{◌≡◌, ◌<◌, ◌≤◌, ◌⊎◌, ℕ, zero, suc, ◌+◌, ◌^◌, ◌==◌, inl, inr, Bool, true, false, cond, Option, None, Some, List, [], ◌∷◌, ◌++◌, Contains, drop, get_or, length, refl, sym, ap, subst, ◌∙◌, add-one, arith, drop-cons}
use Rattle.std.proofs.lemmas.Bool.{cond-true, cond-false, eqb-true}
use Rattle.std.proofs.lemmas.List.{drop_all}
use Rattle.std.proofs.lemmas.List.Folds.{find-append}
use Rattle.std.proofs.lemmas.Option.{slice_get_within}
use Rattle.std.specs.List.{filter, find, slice_get}
use Rattle.std.specs.Option.{option_or, unwrap_or}
use Rattle.gmp_base.specs.declared.cases.Case.{Case}
use Rattle.gmp_base.specs.declared.cases.Case.TheVariants as case
use Rattle.gmp_base.specs.declared.ask.Fault.TheVariants as fault
use Rattle.gmp_base.specs.declared.number.CNo.{CNo}
use Rattle.gmp_base.specs.declared.number.GNo.{GNo}
use Rattle.gmp_base.specs.declared.number.Readiness.{Readiness}
use Rattle.gmp_seq.specs.declared.call.Reply.{Reply}
use Rattle.gmp_seq.specs.declared.call.Reply.TheVariants as reply
use Rattle.gmp_seq.specs.declared.call.Taken.{Taken}
use Rattle.gmp_seq.specs.declared.call.Taken.TheVariants as taken
use Rattle.gmp_seq.specs.declared.status.Direction.{Direction}
use Rattle.gmp_seq.specs.declared.status.Direction.TheVariants.{Sending, Receiving}
use Rattle.gmp_seq.specs.declared.status.Goroutine.{Goroutine}
use Rattle.gmp_seq.specs.declared.status.Kind.{Kind}
use Rattle.gmp_seq.specs.declared.status.Offer.{Offer}
use Rattle.gmp_seq.specs.declared.status.Status.{Status}
use Rattle.gmp_seq.specs.declared.status.Status.TheVariants as status
use Rattle.gmp_seq.specs.declared.status.Transfer.{Transfer}
use Rattle.gmp_seq.specs.declared.status.Transfer.TheVariants.{Failed, Handed, Stored, First, Relayed, Drained}
use Rattle.gmp_seq.specs.declared.status.Wait.{Wait}
use Rattle.gmp_seq.specs.declared.status.Waiter.{Waiter}
use Rattle.gmp_seq.specs.Fits.{FitsReadiness, FitsTaken}
use Rattle.gmp_seq.specs.State.{State}
use Rattle.gmp_seq.specs.Table.{Table, next_of}
use Rattle.gmp_seq.specs.Step.{told_of}
use Rattle.gmp_seq.specs.Waits.{Proceeds, arrived, arrived_among, as_waiters, channel_of, first_on, first_waiters, is_on, items_at, offered, waiters}
use Rattle.gmp_allowed.specs.Tried.{AddsEach, Before, IsChoice, IsDeal, IsDealt, IsOfCase, IsServed, dealt, raised, served, waiter_at}
use Rattle.gmp_allowed.proofs.Adding.{added, both_added}
use Rattle.gmp_allowed.proofs.Tries.{raised_row}

pub swap : {P Q : Type 0} → P ⊎ Q → Q ⊎ P
swap (inl p) = inr p
swap (inr q) = inl q

-- The first that waits is the first of its goroutine's offers

-- the first that passes is found
filter_find : {A : Type 0} (p : A → Bool) (xs : List A) → slice_get (filter p xs) 0 ≡ find p xs
filter_find p [] = refl
filter_find {A} p (x ∷ xs) = by (p x) (filter_find p xs) where
  by : (b : Bool) → slice_get (filter p xs) 0 ≡ find p xs → slice_get (cond b (x ∷ filter p xs) (filter p xs)) 0 ≡ cond b (Some x) (find p xs)
  by true h = refl
  by false h = h

either : {A : Type 0} (a b : Option A) (x : A) → option_or a b ≡ Some x → (a ≡ Some x) ⊎ (b ≡ Some x)
either None b x is = inr is
either (Some y) b x is = inl is

-- what is found in both is found in one of them
in_one : {A : Type 0} (p : A → Bool) (xs ys : List A) (x : A) → find p (xs ++ ys) ≡ Some x → (find p xs ≡ Some x) ⊎ (find p ys ≡ Some x)
in_one p xs ys x is = either (find p xs) (find p ys) x (sym (find-append p xs ys) ∙ is)

-- it is of the goroutine at this place
record IsFound (c : CNo) (d : Direction) (n : ℕ) (gs : List Goroutine) (w : Waiter) : Type 0 where
  place : ℕ
  row : Goroutine
  at : slice_get gs place ≡ Some row
  first : waiter_at (record { 0 = n + place }) row.status c d ≡ Some w

module _ (c : CNo) (d : Direction) where
  of_status : (arrival : ℕ) (g : GNo) (s : Status) (w : Waiter) → find (is_on c d) (arrived arrival g s) ≡ Some w → waiter_at g s c d ≡ Some w
  of_status arrival g (status.Waiting x) w is = by (x.arrival == arrival) refl is where
    by : (b : Bool) → (x.arrival == arrival) ≡ b → find (is_on c d) (cond b (as_waiters g arrival x.kind x.offers) []) ≡ Some w → find (is_on c d) (as_waiters g x.arrival x.kind x.offers) ≡ Some w
    by true e h = subst (λ (a : ℕ). find (is_on c d) (as_waiters g a x.kind x.offers) ≡ Some w) (sym (eqb-true x.arrival arrival e)) h
    by false e h = absurd cc
  of_status arrival g _ w is = absurd cc

  among : (arrival n : ℕ) (gs : List Goroutine) (w : Waiter) → find (is_on c d) (arrived_among arrival n gs) ≡ Some w → IsFound c d n gs w
  among arrival n [] w is = absurd cc
  among arrival n (x ∷ gs) w is =
      elim (in_one (is_on c d) (arrived arrival (record { 0 = n }) x.status) (arrived_among arrival (n + 1) gs) w is) [
        | inl here ↦ record {
          place = 0;
          row = x;
          at = refl;
          first = subst (λ (k : ℕ). waiter_at (record { 0 = k }) x.status c d ≡ Some w) (omega arith) (of_status arrival (record { 0 = n }) x.status w here);
        }
        | inr there ↦
            let h = among arrival (n + 1) gs w there in
            record {
              place = suc h.place;
              row = h.row;
              at = h.at;
              first = subst (λ (k : ℕ). waiter_at (record { 0 = k }) h.row.status c d ≡ Some w) (omega arith) h.first;
            }
      ]

  among_first : (n : ℕ) (gs : List Goroutine) (w : Waiter) → find (is_on c d) (first_waiters n gs) ≡ Some w → IsFound c d 0 gs w
  among_first zero gs w is = absurd cc
  among_first (suc n) gs w is =
      elim (in_one (is_on c d) (first_waiters n gs) (arrived_among n 0 gs) w is) [ inl before ↦ among_first n gs w before | inr last ↦ among n 0 gs w last ]

  first_found : (t : Table) (w : Waiter) → first_on (waiters t) c d ≡ Some w → IsFound c d 0 t.goroutines w
  first_found t w is = among_first t.arrivals t.goroutines w (sym (filter_find (is_on c d) (waiters t)) ∙ is)

  -- the offers are of the goroutine
  of_it : (g : GNo) (arrival : ℕ) (why : Kind) (offers : List Offer) (w : Waiter) → find (is_on c d) (as_waiters g arrival why offers) ≡ Some w → w.g ≡ g
  of_it g arrival why [] w is = absurd cc
  of_it g arrival why (o ∷ offers) w is = by (is_on c d (record { g = g; arrival = arrival; kind = why; offer = o })) (of_it g arrival why offers w) is where
    by : (b : Bool) → (find (is_on c d) (as_waiters g arrival why offers) ≡ Some w → w.g ≡ g)
        → cond b (Some (record { g = g; arrival = arrival; kind = why; offer = o })) (find (is_on c d) (as_waiters g arrival why offers)) ≡ Some w → w.g ≡ g
    by true rest h = let e : record { g = g; arrival = arrival; kind = why; offer = o } ≡ w = cc in ap (λ (x : Waiter). x.g) (sym e)
    by false rest h = rest h

  of_goroutine : (g : GNo) (s : Status) (w : Waiter) → waiter_at g s c d ≡ Some w → w.g ≡ g
  of_goroutine g (status.Waiting x) w is = of_it g x.arrival x.kind x.offers w is
  of_goroutine g _ w is = absurd cc

  -- who is served first is tried
  pub first_served : (i : Option ℕ) (first : Option ℕ) (t : Table) (w : Waiter) (r : Reply) → first_on (waiters t) c d ≡ Some w → FitsReadiness (next_of t w.g)
      → r ≡ dealt i (served first (next_of t w.g) w d) → Before (IsServed i c d first t.goroutines) (length t.goroutines) r
  first_served i first t w r is fits same =
      let found = first_found t w is in
      let k : ℕ = found.place in
      let at : waiter_at (record { 0 = k }) found.row.status c d ≡ Some w = subst (λ (n : ℕ). waiter_at (record { 0 = n }) found.row.status c d ≡ Some w) (omega arith) found.first in
      let who : w.g ≡ record { 0 = k } = of_goroutine (record { 0 = k }) found.row.status w at in
      let small : k < 2 ^ 16 = subst (λ (g : GNo). g.0 < 2 ^ 16) who fits.0 in
      let next : next_of t w.g ≡ raised (record { 0 = k }) found.row.epoch =
      sym (raised_row t (record { 0 = k }) found.row (next_of t w.g) found.at fits (ap (next_of t) who)) in
      (k, slice_get_within t.goroutines k found.row found.at, (small, found.row, found.at, w, at, same ∙ ap (λ (x : Readiness). dealt i (served first x w d)) next))

-- Communications

send_told : (i : Option ℕ) (c : CNo) (v : ℕ) (s : State) (told : Taken) (new : State) (how : Transfer) (r : Reply) → FitsTaken told → Proceeds s.channels (waiters s.table) (case.Send (Some c) v) how new.channels
    → told ≡ told_of s.table how → r ≡ dealt i told → Before (IsServed i c Receiving None s.table.goroutines) (length s.table.goroutines) r ⊎ Contains (dealt i taken.Failed ∷ dealt i (taken.Sent None) ∷ []) r
send_told i c v s told new Failed r fits goes is same = inr (0, omega arith, sym (same ∙ ap (dealt i) is))
send_told i c v s told new (Handed w) r fits goes is same =
    inl (first_served c Receiving i None s.table w r goes.1 (subst FitsTaken is fits) (same ∙ ap (dealt i) is))
send_told i c v s told new Stored r fits goes is same = inr (1, omega arith, sym (same ∙ ap (dealt i) is))
send_told i c v s told new _ r fits goes is same = absurd goes

pub sends : (i : Option ℕ) (c : CNo) (v : ℕ) (s : State) (r : Reply) → IsDealt i (case.Send (Some c) v) s r
    → Before (IsServed i c Receiving None s.table.goroutines) (length s.table.goroutines) r ⊎ Contains (dealt i taken.Failed ∷ dealt i (taken.Sent None) ∷ []) r
sends i c v s r (told, fits, new, does, same) = send_told i c v s told new does.0 r fits does.1 does.2 same

-- the first of the values with that of a waiting sender behind
first_of_both : (items rest : List ℕ) (x v : ℕ) → items ++ x ∷ [] ≡ v ∷ rest → unwrap_or (slice_get items 0) x ≡ v
first_of_both [] rest x v is = cc
first_of_both (y ∷ items) rest x v is = cc

receive_told : (i : Option ℕ) (c : CNo) (first : Option ℕ) (s : State) (told : Taken) (new : State) (how : Transfer) (r : Reply) → first ≡ slice_get (items_at s.channels c) 0 → FitsTaken told
    → Proceeds s.channels (waiters s.table) (case.Recv (Some c)) how new.channels → told ≡ told_of s.table how → r ≡ dealt i told
    → Before (IsServed i c Sending first s.table.goroutines) (length s.table.goroutines) r ⊎ Contains (dealt i (taken.Got 0 false None) ∷ dealt i (taken.Got (unwrap_or first 0) true None) ∷ []) r
receive_told i c first s told new (First v) r one fits (rest, items, none, left) is same =
    let value : unwrap_or first 0 ≡ v = ap (λ (o : Option ℕ). unwrap_or o 0) (one ∙ ap (λ (l : List ℕ). slice_get l 0) items) in
    inr (1, omega arith, ap (λ (n : ℕ). dealt i (taken.Got n true None)) value ∙ sym (same ∙ ap (dealt i) is))
receive_told i c first s told new (Relayed v w) r one fits (rest, who, items, left) is same =
    let value : unwrap_or first (offered w) ≡ v = ap (λ (o : Option ℕ). unwrap_or o (offered w)) one ∙ first_of_both (items_at s.channels c) rest (offered w) v items in
    let got : told ≡ served first (next_of s.table w.g) w Sending = is ∙ ap (λ (n : ℕ). taken.Got n true (Some (record { sender = next_of s.table w.g; value = offered w }))) (sym value) in
    let fit = subst FitsTaken is fits in
    inl (first_served c Sending i first s.table w r who fit.1.0 (same ∙ ap (dealt i) got))
receive_told i c first s told new Drained r one fits goes is same = inr (0, omega arith, sym (same ∙ ap (dealt i) is))
receive_told i c first s told new _ r one fits goes is same = absurd goes

pub receives : (i : Option ℕ) (c : CNo) (first : Option ℕ) (s : State) (r : Reply) → first ≡ slice_get (items_at s.channels c) 0 → IsDealt i (case.Recv (Some c)) s r
    → Before (IsServed i c Sending first s.table.goroutines) (length s.table.goroutines) r ⊎ Contains (dealt i (taken.Got 0 false None) ∷ dealt i (taken.Got (unwrap_or first 0) true None) ∷ []) r
receives i c first s r one (told, fits, new, does, same) = receive_told i c first s told new does.0 r one fits does.1 does.2 same

-- on nil nothing proceeds
pub nil_never : (i : Option ℕ) (x : Case) (s : State) (r : Reply) → channel_of x ≡ None → IsDealt i x s r → ⊥
nil_never i (case.Send None v) s r nil (told, fits, new, does, same) = does.1
nil_never i (case.Recv None) s r nil (told, fits, new, does, same) = does.1
nil_never i (case.Send (Some c) v) s r nil h = absurd cc
nil_never i (case.Recv (Some c)) s r nil h = absurd cc

-- a plain send or receive
pub plain : (x : Case) (s : State) (r : Reply) → IsDeal x s r → IsDealt None x s r ⊎ Contains (reply.Waits ∷ reply.Fault fault.NoSuchChannel ∷ []) r
plain x s (reply.Sent to) (fits, g, new, (made, does)) = inl (taken.Sent to, fits, new, does, refl)
plain x s (reply.Got v sent from) (fits, g, new, (made, does)) = inl (taken.Got v sent from, fits, new, does, refl)
plain x s (reply.Fault fault.SendOnClosed) (fits, g, new, (made, does)) = inl (taken.Failed, tt, new, does, refl)
plain x s reply.Waits h = inr (0, omega arith, refl)
plain x s (reply.Fault fault.NoSuchChannel) h = inr (1, omega arith, refl)
plain x s _ (fits, g, new, h) = absurd h

-- a select
pub chosen : (cases : List Case) (s : State) (r : Reply) → IsChoice cases s r
    → Before (IsOfCase cases s) (length cases) r ⊎ Contains (reply.Waits ∷ reply.Default ∷ reply.Fault fault.NoSuchChannel ∷ []) r
chosen cases s (reply.Chose i told) (fits, g, has_default, until, new, (made, c, at, does)) = inl (i, slice_get_within cases i c at, (fits.0, c, at, (told, fits.1, new, does, refl)))
chosen cases s reply.Waits h = inr (0, omega arith, refl)
chosen cases s reply.Default h = inr (1, omega arith, refl)
chosen cases s (reply.Fault fault.NoSuchChannel) h = inr (2, omega arith, refl)
chosen cases s _ (fits, g, has_default, until, new, h) = absurd h

-- The first offer on a channel is looked for

module _ (c : CNo) (d : Direction) (g : GNo) (arrival : ℕ) (why : Kind) (offers : List Offer) (i : ℕ) (o : Offer) where
  -- the next is on it
  pub offer_here : i < length offers → is_on c d (record { g = g; arrival = arrival; kind = why; offer = get_or offers i o }) ≡ true
      → find (is_on c d) (as_waiters g arrival why (drop i offers)) ≡ Some (record { g = g; arrival = arrival; kind = why; offer = get_or offers i o })
  offer_here within is = ap (λ (l : List Offer). find (is_on c d) (as_waiters g arrival why l)) (drop-cons offers i o within) ∙ cond-true _ _ _ is

  -- the next is not
  pub offer_past : i < length offers → is_on c d (record { g = g; arrival = arrival; kind = why; offer = get_or offers i o }) ≡ false
      → find (is_on c d) (as_waiters g arrival why (drop (i + 1) offers)) ≡ find (is_on c d) (as_waiters g arrival why (drop i offers))
  offer_past within is =
      ap (λ (k : ℕ). find (is_on c d) (as_waiters g arrival why (drop k offers))) (add-one i) ∙ sym (ap (λ (l : List Offer). find (is_on c d) (as_waiters g arrival why l)) (drop-cons offers i o within) ∙ cond-false _ _ _ is)

-- there is no next
pub offer_none : (c : CNo) (d : Direction) (g : GNo) (arrival : ℕ) (why : Kind) (offers : List Offer) (i : ℕ) → length offers ≤ i → find (is_on c d) (as_waiters g arrival why (drop i offers)) ≡ None
offer_none c d g arrival why offers i past = ap (λ (l : List Offer). find (is_on c d) (as_waiters g arrival why l)) (drop_all i offers past)

-- and so it is what was found
pub waiter_found : (c : CNo) (d : Direction) (g : GNo) (s : Status) (w : Wait) (offers : List Offer) (i : ℕ) (o : Option Waiter) → s ≡ status.Waiting w → offers ≡ w.offers
    → find (is_on c d) (as_waiters g w.arrival w.kind (drop i offers)) ≡ find (is_on c d) (as_waiters g w.arrival w.kind offers)
    → find (is_on c d) (as_waiters g w.arrival w.kind (drop i offers)) ≡ o → o ≡ waiter_at g s c d
waiter_found c d g s w offers i o is same so_far next =
    sym next ∙ so_far ∙ ap (λ (l : List Offer). find (is_on c d) (as_waiters g w.arrival w.kind l)) same ∙ sym (ap (λ (x : Status). waiter_at g x c d) is)

-- what serves a goroutine at its place
pub served_at : (i : Option ℕ) (c : CNo) (d : Direction) (first : Option ℕ) (rows : List Goroutine) (k : ℕ) (n : GNo) (row : Goroutine) (o : Option Waiter) (r : Reply) → slice_get rows k ≡ Some row
    → (k < 2 ^ 16 → n.0 ≡ k) → o ≡ waiter_at n row.status c d → IsServed i c d first rows k r → (w : Waiter) × (o ≡ Some w) × (r ≡ dealt i (served first (raised n row.epoch) w d))
served_at i c d first rows k n row o r at number is (small, given, there, w, first_is, same) =
    let rows_same : given ≡ row = (let e : Some given ≡ Some row = sym there ∙ at in cc) in
    let n_is : record { 0 = k } ≡ n = (let e = sym (number small) in ap (λ (j : ℕ). let h : GNo = record { 0 = j } in h) e) in (
      w,
      is ∙ ap (λ (x : Goroutine). waiter_at n x.status c d) (sym rows_same) ∙ ap (λ (h : GNo). waiter_at h given.status c d) (sym n_is) ∙ first_is,
      same ∙ ap (λ (h : GNo). dealt i (served first (raised h given.epoch) w d)) n_is ∙ ap (λ (x : Goroutine). dealt i (served first (raised n x.epoch) w d)) rows_same,
    )

-- two replies were added, and then who waits is served
pub with_waiters : (i : Option ℕ) (c : CNo) (d : Direction) (first : Option ℕ) (x : Case) (s : State) (rows : List Goroutine) (old mid new : List Reply) (a b p q : Reply) → rows ≡ s.table.goroutines
    → p ≡ a → q ≡ b → mid ≡ old ++ p ∷ q ∷ [] → AddsEach (Before (IsServed i c d first rows) (length rows)) mid new
    → ((r : Reply) → IsDealt i x s r → Before (IsServed i c d first s.table.goroutines) (length s.table.goroutines) r ⊎ Contains (a ∷ b ∷ []) r) → AddsEach (IsDealt i x s) old new
with_waiters i c d first x s rows old mid new a b p q is p_is q_is adds waiters of =
    let two : Reply → Type 0 = λ (r : Reply). Contains (a ∷ b ∷ []) r in
    let list : mid ≡ old ++ a ∷ b ∷ [] = adds ∙ ap (λ (r : Reply). old ++ r ∷ q ∷ []) p_is ∙ ap (λ (r : Reply). old ++ a ∷ r ∷ []) q_is in
    both_added two (Before (IsServed i c d first s.table.goroutines) (length s.table.goroutines)) (IsDealt i x s) old mid new (added two old mid (a ∷ b ∷ []) list (λ r among. among))
    (subst (λ (l : List Goroutine). AddsEach (Before (IsServed i c d first l) (length l)) mid new) is waiters) (λ r h. swap (of r h))

-- the case at its number
pub of_number : (cases : List Case) (s : State) (k n : ℕ) (x : Case) (r : Reply) → slice_get cases k ≡ Some x → (k < 2 ^ 8 → n ≡ k) → IsOfCase cases s k r → IsDealt (Some n) x s r
of_number cases s k n x r at number (small, other, there, dealt) =
    let same : other ≡ x = (let e : Some other ≡ Some x = sym there ∙ at in cc) in
    subst (λ (j : ℕ). IsDealt (Some j) x s r) (sym (number small)) (subst (λ (y : Case). IsDealt (Some k) y s r) same dealt)
