-- A close or a tick wakes in one order: two goroutines that wait never arrived at once.
use Rattle.std.proofs.Common.{◌≡◌, ℕ, suc, ◌+◌, ◌≤◌, ◌==◌, Bool, true, false, Option, Some, None, List, [], ◌∷◌, slice_get, refl, sym, ap, subst, ◌∙◌, arith}
use Rattle.std.proofs.lemmas.Bool.{false≢true}
use Rattle.std.proofs.lemmas.Bool.Decides.{nat_tests}
use Rattle.std.proofs.lemmas.List.Sums.{sum_by-cons}
use Rattle.std.specs.List.{All, AllPairs}
use Rattle.std.specs.Option.{is_some, option_map_or}
use Rattle.gmp_base.specs.declared.number.GNo.{GNo}
use Rattle.gmp_seq.specs.declared.call.Limits.{Limits}
use Rattle.gmp_seq.specs.declared.status.Goroutine.{Goroutine}
use Rattle.gmp_seq.specs.declared.status.Status.{Status}
use Rattle.gmp_seq.specs.declared.status.Status.TheVariants.{Waiting}
use Rattle.gmp_seq.specs.declared.status.Wait.{Wait}
use Rattle.gmp_seq.specs.Laws.{FitsTogether}
use Rattle.gmp_seq.specs.State.{State}
use Rattle.gmp_seq.specs.Table.{Table, status_at}
use Rattle.gmp_table.specs.declared.wake.Rank.{Rank}
use Rattle.gmp_table.specs.declared.wake.Wake.{Wake}
use Rattle.gmp_table.specs.declared.wake.Wake.TheVariants.{Closed, Due}
use Rattle.gmp_table.specs.Kept.{tally, times}
use Rattle.gmp_table.specs.Waking.{IsWakeOrder, answer_of, is_before, is_woken_at, rank_at, rank_of}

-- Lists in order

same_number : (g h : GNo) → g.0 ≡ h.0 → g ≡ h
same_number g h e = ap (λ (n : ℕ). let x : GNo = record { 0 = n } in x) e

times_cons : (i : ℕ) (g : GNo) (gs : List GNo) → times i (g ∷ gs) ≡ tally (g.0 == i) + times i gs
times_cons i g gs = sum_by-cons (λ (z : GNo). tally (z.0 == i)) g gs

times_here : (g : GNo) (gs : List GNo) → 1 ≤ times g.0 (g ∷ gs)
times_here g gs =
    let one : tally (g.0 == g.0) ≡ 1 = grind (arith, nat_tests) in
    let n = times_cons g.0 g gs in
    omega (arith, n, one)

-- what is so of all of a list is so of one that is in it
of_member : (P : GNo → Type 0) (gs : List GNo) (h : GNo) → All P gs → 1 ≤ times h.0 gs → P h
of_member P [] h all in_it = absurd (omega (arith, in_it))
of_member P (g ∷ gs) h all in_it = by_test (g.0 == h.0) refl (of_member P gs h (λ k d within. all (suc k) d (omega (arith, within)))) where
  by_test : (b : Bool) → (g.0 == h.0) ≡ b → (1 ≤ times h.0 gs → P h) → P h
  by_test true is behind = let e : g.0 ≡ h.0 = grind (arith, nat_tests) in subst P (same_number g h e) (all 0 g (omega arith))
  by_test false is behind =
      let n = times_cons h.0 g gs in
      let none : tally (g.0 == h.0) ≡ 0 = rw is refl in
      behind (omega (arith, n, none, in_it))

module _ (before : GNo → GNo → Bool) (P : GNo → Type 0) (apart : (g h : GNo) → P g → P h → before g h ≡ false → before h g ≡ false → g ≡ h) where
  -- none stands behind one that it is before
  abbrev InOrder : List GNo → Type 0
  InOrder gs = AllPairs (λ (g h : GNo). before h g ≡ false) gs

  rest_in_order : (g : GNo) (gs : List GNo) → InOrder (g ∷ gs) → InOrder gs
  rest_in_order g gs order i j d less within = order (suc i) (suc j) d (omega (arith, less)) (omega (arith, within))

  -- one in the list that is not the first is not before it
  behind_first : (g h : GNo) (gs : List GNo) → InOrder (g ∷ gs) → 1 ≤ times h.0 (g ∷ gs) → (g.0 == h.0) ≡ false → before h g ≡ false
  behind_first g h gs order in_it other =
      let n = times_cons h.0 g gs in
      let none : tally (g.0 == h.0) ≡ 0 = rw other refl in
      of_member (λ (x : GNo). before x g ≡ false) gs h (λ k d within. order 0 (suc k) d (omega arith) (omega (arith, within))) (omega (arith, n, none, in_it))

  -- such lists of the same goroutines begin with one
  same_first : (g h : GNo) (gs hs : List GNo) → ((x : GNo) → 1 ≤ times x.0 (g ∷ gs) → P x) → InOrder (g ∷ gs) → InOrder (h ∷ hs)
      → ((i : ℕ) → times i (g ∷ gs) ≡ times i (h ∷ hs)) → g ≡ h
  same_first g h gs hs are order order_too same = by_test (g.0 == h.0) refl where
    h_in : 1 ≤ times h.0 (g ∷ gs)
    h_in = let n = times_here h hs in let e = same h.0 in omega (arith, n, e)

    g_in : 1 ≤ times g.0 (h ∷ hs)
    g_in = let n = times_here g gs in let e = same g.0 in omega (arith, n, e)

    by_test : (b : Bool) → (g.0 == h.0) ≡ b → g ≡ h
    by_test true is = let e : g.0 ≡ h.0 = grind (arith, nat_tests) in same_number g h e
    by_test false is =
        let is_too : (h.0 == g.0) ≡ false = grind (arith, nat_tests) in
        apart g h (are g (times_here g gs)) (are h h_in) (behind_first h g hs order_too g_in is_too) (behind_first g h gs order h_in is)

  rest_counts : (g h : GNo) (gs hs : List GNo) (i : ℕ) → g ≡ h → times i (g ∷ gs) ≡ times i (h ∷ hs) → times i gs ≡ times i hs
  rest_counts g h gs hs i first same =
      let n = times_cons i g gs in
      let m = times_cons i h hs in
      let e : tally (g.0 == i) ≡ tally (h.0 == i) = ap (λ (x : GNo). tally (x.0 == i)) first in
      omega (arith, n, m, e, same)

  -- two lists in order of the same goroutines are one
  one_order : (gs hs : List GNo) → ((x : GNo) → 1 ≤ times x.0 gs → P x) → InOrder gs → InOrder hs → ((i : ℕ) → times i gs ≡ times i hs) → gs ≡ hs
  one_order [] [] are order order_too same = refl
  one_order [] (h ∷ hs) are order order_too same = absurd (let n = times_here h hs in let e : 0 ≡ times h.0 (h ∷ hs) = same h.0 in omega (arith, n, e))
  one_order (g ∷ gs) [] are order order_too same = absurd (let n = times_here g gs in let e : times g.0 (g ∷ gs) ≡ 0 = same g.0 in omega (arith, n, e))
  one_order (g ∷ gs) (h ∷ hs) are order order_too same =
      let first = same_first g h gs hs are order order_too same in
      let are_too : (x : GNo) → 1 ≤ times x.0 gs → P x = λ x in_rest. are x (let n = times_cons x.0 g gs in omega (arith, n, in_rest)) in
      let rest = one_order gs hs are_too (rest_in_order g gs order) (rest_in_order h hs order_too) (λ i. rest_counts g h gs hs i first (same i)) in
      ap (λ (x : GNo). x ∷ gs) first ∙ ap (λ (l : List GNo). h ∷ l) rest

-- Who is woken waits

same_arrival : (a b : Rank) → is_before a b ≡ false → is_before b a ≡ false → a.arrival ≡ b.arrival
same_arrival a b h k = grind (arith, nat_tests)

waits_of : (wake : Wake) (does : Status) → is_some (answer_of wake does) ≡ true → (x : Wait) × (does ≡ Waiting x)
    × ((rank_of wake does).arrival ≡ x.arrival)
waits_of (Closed c) (Waiting w) h = (w, refl, refl)
waits_of (Due now) (Waiting w) h = (w, refl, refl)
waits_of (Closed c) _ h = absurd (false≢true h)
waits_of (Due now) _ h = absurd (false≢true h)

-- its wait, whose arrival is that of its rank
record HasWait (wake : Wake) (t : Table) (g : GNo) : Type 0 where
  wait : Wait
  is : status_at t g ≡ Some (Waiting wait)
  arrived : (rank_at wake t.goroutines g).arrival ≡ wait.arrival

wait_of : (wake : Wake) (t : Table) (g : GNo) → is_woken_at wake t.goroutines g.0 ≡ true → HasWait wake t g
wait_of wake t g h = by_row (slice_get t.goroutines g.0) refl h where
  by_row : (o : Option Goroutine) → slice_get t.goroutines g.0 ≡ o
      → option_map_or (λ (x : Goroutine). is_some (answer_of wake x.status)) o false ≡ true → HasWait wake t g
  by_row None at woken = absurd (false≢true woken)
  by_row (Some row) at woken =
      let w = waits_of wake row.status woken in
      record { wait = w.0; is = rw at (ap Some w.1); arrived = rw at w.2 }

tally_on : (b : Bool) → 1 ≤ tally b → b ≡ true
tally_on true h = refl
tally_on false h = absurd (omega (arith, h))

-- a close or a tick wakes in one order
pub wakes_one_way : (limits : Limits) (s : State) → FitsTogether limits s → (wake : Wake) (gs hs : List GNo)
    → IsWakeOrder wake s.table.goroutines gs → IsWakeOrder wake s.table.goroutines hs → gs ≡ hs
wakes_one_way limits s fits wake gs hs one two =
    one_order (λ (g h : GNo). is_before (rank_at wake rows g) (rank_at wake rows h)) (HasWait wake s.table) apart gs hs woken one.in_order two.in_order
    (λ i. one.each i ∙ sym (two.each i))
  where
    rows : List Goroutine
    rows = s.table.goroutines

    apart : (g h : GNo) → HasWait wake s.table g → HasWait wake s.table h → is_before (rank_at wake rows g) (rank_at wake rows h) ≡ false
        → is_before (rank_at wake rows h) (rank_at wake rows g) ≡ false → g ≡ h
    apart g h x y later later_too =
        fits.arrivals_differ g h x.wait y.wait x.is y.is (sym x.arrived ∙ same_arrival (rank_at wake rows g) (rank_at wake rows h) later later_too ∙ y.arrived)

    woken : (g : GNo) → 1 ≤ times g.0 gs → HasWait wake s.table g
    woken g in_it = wait_of wake s.table g (tally_on (is_woken_at wake rows g.0) (let e = one.each g.0 in omega (arith, e, in_it)))
