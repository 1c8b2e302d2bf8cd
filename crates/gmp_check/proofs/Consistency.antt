-- What follows for a consistent state.
use Rattle.std.proofs.Common.{◌≡◌, ℕ, ◌<◌, ◌≤◌, ◌^◌, inl, inr, Bool, true, false, Option, None, Some, List, [], ◌∷◌, cond, sum, refl, sym, ap, subst, ◌∙◌, arith}
use Rattle.std.specs.List.{slice_get, filter}
use Rattle.gmp_base.specs.declared.number.CNo.{CNo}
use Rattle.gmp_base.specs.declared.number.GNo.{GNo}
use Rattle.gmp_base.specs.declared.number.MNo.{MNo}
use Rattle.gmp_seq.proofs.Arranged.{Sorted, contains_in, first_sorted, pairs_rise}
use Rattle.gmp_seq.proofs.Manned.{free_runs_none}
use Rattle.gmp_seq.proofs.Proceed.{offer_waits}
use Rattle.gmp_seq.proofs.Waiting.{In, in_filter, waiter_in, waiter_waits}
use Rattle.gmp_seq.specs.declared.call.Limits.{Limits}
use Rattle.gmp_seq.specs.declared.status.Direction.{Direction}
use Rattle.gmp_seq.specs.declared.status.Waiter.{Waiter}
use Rattle.gmp_seq.specs.Laws.{ComesBefore, IsOffer}
use Rattle.gmp_seq.specs.State.{State}
use Rattle.gmp_seq.specs.Step.{IsFree}
use Rattle.gmp_seq.specs.Table.{IsHeld, epoch_at}
use Rattle.gmp_seq.specs.Waits.{first_on, is_on, waiters, waits}
use Rattle.gmp_check.specs.Consistent.{IsConsistent, IsConsistentUnder}
use Rattle.gmp_check.specs.First.{IsFirstOf, IsOfferOn}

-- Here t is the state as the code has it, and s as contracts do

-- epochs, arrivals and counts can rise
pub consistent_young : (s t : State) → t ≡ s → IsConsistent s → (g : GNo) → epoch_at t.table g ≤ 2 ^ 63
consistent_young s t same (limits, is) g =
    let young : epoch_at s.table g ≤ 2 ^ 63 = omega (arith, is.together.epochs g, is.together.entries, is.limit) in
    subst (λ (x : State). epoch_at x.table g ≤ 2 ^ 63) (sym same) young

pub consistent_arrivals : (s t : State) → t ≡ s → IsConsistent s → t.table.arrivals < 2 ^ 63
consistent_arrivals s t same (limits, is) =
    let few : s.table.arrivals < 2 ^ 63 = omega (arith, is.together.arrivals, is.together.entries, is.limit) in
    subst (λ (x : State). x.table.arrivals < 2 ^ 63) (sym same) few

pub consistent_few : (limits : Limits) (s : State) (counts : List ℕ) → IsConsistentUnder limits s → counts ≡ s.counts → sum counts < 2 ^ 63
consistent_few limits s counts is are = subst (λ l. sum l < 2 ^ 63) (sym are) (omega (arith, is.together.entries, is.limit))

-- nobody else is at the machine of one that is held
pub alone_held : (s t : State) → t ≡ s → IsConsistent s → (m : MNo) (g : GNo) → IsHeld s.table g m → (n : MNo) (h : GNo) → m ≡ n → IsHeld t.table h n → h ≡ g
alone_held s t same consistent m g held n h is there =
    consistent.1.together.one_goroutine m h g (subst (λ (k : MNo). IsHeld s.table h k) (sym is) (subst (λ (x : State). IsHeld x.table h n) same there)) held

-- nobody at all is at a machine that is free
pub free_alone : (s t : State) → t ≡ s → IsConsistent s → (m : MNo) → IsFree s m → (g : GNo) → IsHeld t.table g m → ⊥
free_alone s t same consistent m (awake, runs_none, still) g there = here (subst (λ (x : State). IsHeld x.table g m) same there) where
  here : IsHeld s.table g m → ⊥
  here (inl runs) = free_runs_none s.table m m g.0 runs_none runs refl
  here (inr calls) = let calling = (consistent.1.together.caller m).0 (g, calls) in cc

-- The first that waits

first_of_filter : (p : Waiter → Bool) (xs : List Waiter) (f : Waiter) → Sorted xs → In f xs → p f ≡ true
    → ((w : Waiter) → In w xs → p w ≡ true → ComesBefore w f → ⊥) → slice_get (filter p xs) 0 ≡ Some f
first_of_filter p [] f sorted among pass least = absurd among
first_of_filter p (x ∷ xs) f (first, sorted) among pass least =
    by (p x) refl among (λ later. first_of_filter p xs f sorted later pass (λ w is. least w (inr is))) where
      by : (b : Bool) → p x ≡ b → In f (x ∷ xs) → (In f xs → slice_get (filter p xs) 0 ≡ Some f) → slice_get (cond b (x ∷ filter p xs) (filter p xs)) 0 ≡ Some f
      by true on (inl same) rest = ap Some same
      by true on (inr later) rest = absurd (least x (inl refl) on (first f later))
      by false on (inl same) rest = let e : true ≡ false = sym pass ∙ ap p (sym same) ∙ on in absurd cc
      by false on (inr later) rest = rest later

none_of : (xs : List Waiter) → ((w : Waiter) → In w xs → ⊥) → None ≡ slice_get xs 0
none_of [] none = refl
none_of (x ∷ xs) none = absurd (none x (inl refl))

module _ (s : State) (consistent : IsConsistent s) where
  sorted : Sorted (waiters s.table)
  sorted =
      first_sorted s.table.arrivals s.table.goroutines
      (λ i j x y at_i at_j same. ap (λ (g : GNo). g.0) (consistent.1.together.arrivals_differ (record { 0 = i }) (record { 0 = j }) x y at_i at_j same))
      (λ i x at. pairs_rise x.offers (consistent.1.together.cases_rise (record { 0 = i }) x at))

  every : (w : Waiter) → IsOffer s.table w → In w (waiters s.table)
  every w is =
      let early : w.arrival < s.table.arrivals = subst (λ (n : ℕ). n < s.table.arrivals) is.2 (consistent.1.together.arrived w.g is.0 is.1) in
      waiter_in s.table w (offer_waits s.table w is) early

  only : (w : Waiter) → In w (waiters s.table) → IsOffer s.table w
  only w among = let is = waiter_waits s.table w among in (is.wait, is.status, is.arrival, is.kind, contains_in w.offer is.wait.offers is.offer)

  first_here : (c : CNo) (direction : Direction) (first : Option Waiter) → IsFirstOf (IsOfferOn s.table c direction) first → first ≡ first_on (waiters s.table) c direction
  first_here c direction None none =
      none_of (waits (waiters s.table) c direction)
      (λ w among. let is = in_filter (is_on c direction) w (waiters s.table) among in none w (only w is.0, is.1))
  first_here c direction (Some f) ((is, on), least) =
      sym (first_of_filter (is_on c direction) (waiters s.table) f sorted (every f is) on (λ w among pass. least w (only w among, pass)))

-- the first that waits by the table is the first by the definitions
pub first_is : (s t : State) → t ≡ s → IsConsistent s → (c : CNo) (direction : Direction) (first : Option Waiter) → IsFirstOf (IsOfferOn t.table c direction) first
    → first ≡ first_on (waiters s.table) c direction
first_is s t same consistent c direction first is =
    first_here s consistent c direction first (subst (λ (x : State). IsFirstOf (IsOfferOn x.table c direction) first) same is)
