-- The machines on a board come along a history, as one of them goes on.
use Rattle.std.proofs.Common.{◌≡◌, ◌≢◌, ◌⊎◌, inl, inr, ℕ, zero, suc, ◌+◌, ◌<◌, Bool, List, [], ◌∷◌, ◌++◌, Option, None, Some, length, slice_get, slice_set, refl, sym, ap, subst, ◌∙◌, arith}
use Rattle.std.proofs.Math.Logic.{∥∥₁_elim, ∥∥₁_map, ∥∥₁_prop}
use Rattle.std.proofs.lemmas.Bool.{cases_eq}
use Rattle.gmp_seq.proofs.Epochs.{at_set, slice_get-set_same}
use Rattle.gmp_seq.specs.declared.call.Entry.{Entry}
use Rattle.gmp_seq.specs.Run.{IsStep}
use Rattle.gmp_seq.specs.State.{opening}
use Rattle.gmp_journal.specs.Log.{Log}
use Rattle.gmp_driver.specs.Machine.{Machine}
use Rattle.gmp_acts.specs.Hands.{PlainMachine, plain_machine}
use Rattle.gmp_run.specs.Boards.{AreFirst, AreLed}
use Rattle.gmp_run.specs.Trails.{AreMade, CameTo, GoesAlone, MakesEntry, first_machine, first_pass}
use Rattle.gmp_run.proofs.Boards.{push_get}
use Rattle.gmp_run.proofs.Trails.{alone_join, along_more, along_on, rests}

abbrev Came : ℕ → Bool → Log → List Entry → ℕ → PlainMachine → Type 0
Came run is_fair log h m x = CameTo run is_fair log.limits log.bodies log.capacities log.state h m x

abbrev start : ℕ → Bool → Log → ℕ → PlainMachine
start run is_fair log m = first_machine (first_pass run m) log.limits.procs is_fair

pub gap : (m n : ℕ) → m < n → (i : ℕ) × (m + (i + 1) ≡ n)
gap m zero less = absurd (omega (arith, less))
gap zero (suc n) less = (n, omega arith)
gap (suc m) (suc n) less =
    let rest = gap m n (omega (arith, less)) in
    let is = rest.1 in
    (rest.0, omega (arith, is))

some_at : {X : Type 0} (xs : List X) (i : ℕ) → i < length xs → (x : X) × (slice_get xs i ≡ Some x)
some_at [] i less = absurd (omega (arith, less))
some_at (x ∷ xs) zero less = (x, refl)
some_at (x ∷ xs) (suc i) less = some_at xs i (omega (arith, less))

module _ {T Q : Type 0} (machines run : ℕ) (is_fair : Bool) where
  -- no entry yet
  pub begun : (log : Log) (board : List (Machine T Q)) → log.state ≡ opening log.limits log.bodies log.capacities → AreFirst machines run is_fair log.limits.procs board → AreLed machines run is_fair log board []
  begun log board is first m x on = ∣ (is, subst (GoesAlone (start run is_fair log m)) (sym (first m x on)) (rests (start run is_fair log m))) ∣₁

  -- The one at this place made acts of its own since it left the lock.
  module _ (board : List (Machine T Q)) (at : ℕ) (left x x' : Machine T Q) (there : slice_get board at ≡ Some left) (alone : ∥ GoesAlone (plain_machine left) (plain_machine x) ∥₁) where
    abbrev board' : List (Machine T Q)
    board' = slice_set board at x'

    written : (place : ℕ) (z : Machine T Q) → at ≡ place → slice_get board' place ≡ Some z → x' ≡ z
    written place z is found =
        let there' : slice_get board' at ≡ Some x' = slice_get-set_same board at x' left there in
        let e : Some x' ≡ Some z = sym there' ∙ (ap (slice_get board') is ∙ found) in
        cc

    other : (place : ℕ) (z : Machine T Q) → (at ≡ place → ⊥) → slice_get board' place ≡ Some z → slice_get board place ≡ Some z
    other place z apart found = at_set (λ (o : Option (Machine T Q)). o ≡ Some z → slice_get board place ≡ Some z) board at place x' (λ is. absurd (apart is)) (λ e. e) found

    -- it goes on, and makes no entry
    pub acts : (log : Log) (h : List Entry) → GoesAlone (plain_machine x) (plain_machine x') → AreLed machines run is_fair log board h → AreLed machines run is_fair log board' h
    acts log h on are m z (place, its, found) = by (cases_eq at place) where
      by : (at ≡ place) ⊎ (at ≡ place → ⊥) → ∥ Came run is_fair log h m (plain_machine z) ∥₁
      by (inl is) =
          let led : ∥ Came run is_fair log h m (plain_machine left) ∥₁ = are m left (at, subst (λ (k : ℕ). m + (k + 1) ≡ machines) (sym is) its, there) in
          subst (λ (w : Machine T Q). ∥ Came run is_fair log h m (plain_machine w) ∥₁) (written place z is found)
          (∥∥₁_elim led ∥∥₁_prop (λ came. ∥∥₁_map alone (λ since. along_on log.limits m (opening log.limits log.bodies log.capacities) log.state h (start run is_fair log m) (plain_machine left) (plain_machine x') came
          (alone_join (plain_machine left) (plain_machine x) (plain_machine x') since on))))
      by (inr apart) = are m z (place, its, other place z apart found)

    -- it made an entry
    pub enters : (log now : Log) (h : List Entry) (e : Entry) → now ≡ record log { history = now.history; state = now.state; shelf = now.shelf } → e.m.0 + (at + 1) ≡ machines
        → IsStep log.limits e log.state now.state → MakesEntry e log.state now.state (plain_machine x) (plain_machine x') → AreLed machines run is_fair log board h → AreLed machines run is_fair now board' (h ++ e ∷ [])
    enters log now h e opened own step makes are = subst (λ (l : Log). AreLed machines run is_fair l board' (h ++ e ∷ [])) (sym opened) led where
      led : AreLed machines run is_fair (record log { history = now.history; state = now.state; shelf = now.shelf }) board' (h ++ e ∷ [])
      led m z (place, its, found) = by (cases_eq at place) where
        by : (at ≡ place) ⊎ (at ≡ place → ⊥) → ∥ Came run is_fair (record log { history = now.history; state = now.state; shelf = now.shelf }) (h ++ e ∷ []) m (plain_machine z) ∥₁
        by (inl is) =
            let mine : e.m.0 ≡ m = omega (arith, own, its, is) in
            let before : ∥ Came run is_fair log h m (plain_machine left) ∥₁ = are m left (at, subst (λ (k : ℕ). m + (k + 1) ≡ machines) (sym is) its, there) in
            subst (λ (w : Machine T Q). ∥ Came run is_fair (record log { history = now.history; state = now.state; shelf = now.shelf }) (h ++ e ∷ []) m (plain_machine w) ∥₁) (written place z is found)
            (∥∥₁_elim before ∥∥₁_prop (λ came. ∥∥₁_map alone (λ since. along_more log.limits m (opening log.limits log.bodies log.capacities) log.state now.state h e (start run is_fair log m) (plain_machine left) (plain_machine x') came step
            (inr (mine, plain_machine x, since, makes)))))
        by (inr apart) =
            let others : e.m.0 ≢ m = λ is. apart (omega (arith, is, own, its)) in
            ∥∥₁_map (are m z (place, its, other place z apart found)) (λ came. along_more log.limits m (opening log.limits log.bodies log.capacities) log.state now.state h e (start run is_fair log m) (plain_machine z) (plain_machine z) came step
            (inl (others, refl)))

  -- no machine yet
  pub none_first : (procs : ℕ) → AreFirst {T = T} {Q = Q} machines run is_fair procs []
  none_first procs m x (place, its, found) = absurd (let nothing : None ≡ Some x = found in cc)

  -- one more
  pub one_more_first : (procs : ℕ) (board : List (Machine T Q)) (x : Machine T Q) (i : ℕ) → AreFirst machines run is_fair procs board → plain_machine x ≡ first_machine (first_pass run i) procs is_fair → i + (length board + 1) ≡ machines
      → AreFirst machines run is_fair procs (board ++ x ∷ [])
  one_more_first procs board x i are is new m z (place, its, found) = by (push_get board x place z found) where
    by : ((place ≡ length board) × (z ≡ x)) ⊎ (slice_get board place ≡ Some z) → plain_machine z ≡ first_machine (first_pass run m) procs is_fair
    by (inl (here, same)) =
        let number : i ≡ m = omega (arith, here, its, new) in
        ap (λ (w : Machine T Q). plain_machine w) same ∙ (is ∙ ap (λ (k : ℕ). first_machine (first_pass run k) procs is_fair) number)
    by (inr had) = are m z (place, its, had)

  -- all machines are on it
  pub all_made : (log : Log) (board : List (Machine T Q)) (h : List Entry) → length board ≡ machines → AreLed machines run is_fair log board h
      → AreMade machines run is_fair log.limits log.bodies log.capacities log.state h
  all_made log board h long are m less =
      let place = gap m machines less in
      let its = place.1 in
      let has = some_at board place.0 (omega (arith, its, long)) in
      ∥∥₁_map (are m has.0 (place.0, its, has.1)) (λ came. (plain_machine has.0, came))
