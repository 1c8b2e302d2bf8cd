-- What is counted of the machines on a board, as one of them goes on.
use Rattle.std.proofs.Common.{◌≡◌, ◌⊎◌, inl, inr, ℕ, zero, suc, ◌+◌, ◌<◌, List, [], ◌∷◌, ◌++◌, Option, None, Some, length, replicate, slice_get, slice_index, slice_set, refl, sym, ap, subst, ◌∙◌, arith}
use Rattle.std.proofs.lemmas.Bool.{cases_eq}
use Rattle.gmp_base.specs.declared.pass.Pass.{Pass}
use Rattle.gmp_seq.proofs.Counts.{index_from_get}
use Rattle.gmp_seq.proofs.Epochs.{at_set, slice_get-set_same}
use Rattle.gmp_driver.specs.Machine.{Machine}
use Rattle.gmp_run.specs.Boards.{AreCounted, IsCounted}

-- what a place has once there is one value more
pub push_get : {X : Type 0} (xs : List X) (y : X) (k : ℕ) (x : X) → slice_get (xs ++ y ∷ []) k ≡ Some x → ((k ≡ length xs) × (x ≡ y)) ⊎ (slice_get xs k ≡ Some x)
push_get [] y zero x has = inl (refl, (let same : Some y ≡ Some x = has in cc))
push_get [] y (suc k) x has = absurd (let none : None ≡ Some x = has in cc)
push_get (w ∷ xs) y zero x has = inr has
push_get (w ∷ xs) y (suc k) x has = by (push_get xs y k x has) where
  by : ((k ≡ length xs) × (x ≡ y)) ⊎ (slice_get xs k ≡ Some x) → ((suc k ≡ suc (length xs)) × (x ≡ y)) ⊎ (slice_get xs k ≡ Some x)
  by (inl (same, is)) = inl (ap (λ (n : ℕ). suc n) same, is)
  by (inr has) = inr has

none_at : (n i : ℕ) → i < n → slice_get {X = ℕ} (replicate n 0) i ≡ Some 0
none_at zero i less = absurd (omega (arith, less))
none_at (suc n) zero less = refl
none_at (suc n) (suc i) less = none_at n i (omega (arith, less))

-- Of the machine at one place, whose pass is the same since it left the lock.
module _ {T Q : Type 0} (counts : List ℕ) (machines : ℕ) (board : List (Machine T Q)) (are : AreCounted counts machines board) (at : ℕ) (left x : Machine T Q)
    (there : slice_get board at ≡ Some left) (same : x.pass ≡ left.pass) where
  pub of_pass : (p : Pass) → x.pass ≡ Some p → (p.m.0 + (at + 1) ≡ machines) × (slice_get counts p.m.0 ≡ Some p.calls)
  of_pass p has =
      let old = are at left there in
      let e : Some old.pass ≡ Some p = sym old.has_pass ∙ (sym same ∙ has) in
      let is : old.pass ≡ p = cc in
      (subst (λ (q : Pass). q.m.0 + (at + 1) ≡ machines) is old.its, subst (λ (q : Pass). slice_get counts q.m.0 ≡ Some q.calls) is old.counted)

  -- it made no call
  pub stays : (x' : Machine T Q) → x'.pass ≡ x.pass → AreCounted counts machines (slice_set board at x')
  stays x' e place z = at_set (λ (o : Option (Machine T Q)). o ≡ Some z → IsCounted counts machines place z) board at place x' here (are place z) where
    here : at ≡ place → Some x' ≡ Some z → IsCounted counts machines place z
    here is found =
        let old = are at left there in
        let same_machine : x' ≡ z = cc in
        record {
          pass = old.pass;
          has_pass = ap (λ (w : Machine T Q). w.pass) (sym same_machine) ∙ (e ∙ (same ∙ old.has_pass));
          its = subst (λ (k : ℕ). old.pass.m.0 + (k + 1) ≡ machines) is old.its;
          counted = old.counted;
        }

  -- it made one
  pub calls : (x' : Machine T Q) (before : Pass) (seen : ℕ) → x.pass ≡ Some before → x'.pass ≡ Some (record before { calls = before.calls + 1; seen = seen })
      → AreCounted (slice_set counts before.m.0 (slice_index counts before.m.0 + 1)) machines (slice_set board at x')
  calls x' before seen has after place z found = by (cases_eq at place) where
    own : (before.m.0 + (at + 1) ≡ machines) × (slice_get counts before.m.0 ≡ Some before.calls)
    own = of_pass before has

    counted : slice_get (slice_set counts before.m.0 (slice_index counts before.m.0 + 1)) before.m.0 ≡ Some (before.calls + 1)
    counted =
        slice_get-set_same counts before.m.0 (slice_index counts before.m.0 + 1) before.calls own.1
        ∙ ap (λ (k : ℕ). Some (k + 1)) (index_from_get counts before.m.0 before.calls own.1)

    by : (at ≡ place) ⊎ (at ≡ place → ⊥) → IsCounted (slice_set counts before.m.0 (slice_index counts before.m.0 + 1)) machines place z
    by (inl is) =
        let written : slice_get (slice_set board at x') at ≡ Some x' = slice_get-set_same board at x' left there in
        let e : Some x' ≡ Some z = sym written ∙ (ap (slice_get (slice_set board at x')) is ∙ found) in
        let same_machine : x' ≡ z = cc in
        record {
          pass = record before { calls = before.calls + 1; seen = seen };
          has_pass = ap (λ (w : Machine T Q). w.pass) (sym same_machine) ∙ after;
          its = subst (λ (k : ℕ). before.m.0 + (k + 1) ≡ machines) is own.0;
          counted = counted;
        }
    by (inr apart) =
        let kept : slice_get board place ≡ Some z = at_set (λ (o : Option (Machine T Q)). o ≡ Some z → slice_get board place ≡ Some z) board at place x' (λ is. absurd (apart is)) (λ e. e) found in
        let old = are place z kept in
        let mine = own.0 in
        let its = old.its in
        let other : before.m.0 ≡ old.pass.m.0 → ⊥ = λ e. apart (omega (arith, e, mine, its)) in
        record {
          pass = old.pass;
          has_pass = old.has_pass;
          its = old.its;
          counted = at_set (λ (o : Option ℕ). o ≡ Some old.pass.calls) counts before.m.0 old.pass.m.0 (slice_index counts before.m.0 + 1) (λ e. absurd (other e)) old.counted;
        }

-- no machine yet
pub none : {T Q : Type 0} (counts : List ℕ) (machines : ℕ) → AreCounted {T = T} {Q = Q} counts machines []
none counts machines place x has = absurd (let nothing : None ≡ Some x = has in cc)

-- one more, whose pass has made no call
pub one_more : {T Q : Type 0} (machines : ℕ) (board : List (Machine T Q)) (x : Machine T Q) (p : Pass) → AreCounted (replicate machines 0) machines board
    → x.pass ≡ Some p → p.calls ≡ 0 → p.m.0 + (length board + 1) ≡ machines → AreCounted (replicate machines 0) machines (board ++ x ∷ [])
one_more {T} {Q} machines board x p are has no_call its place z found = by (push_get board x place z found) where
  by : ((place ≡ length board) × (z ≡ x)) ⊎ (slice_get board place ≡ Some z) → IsCounted (replicate machines 0) machines place z
  by (inl (here, is)) = record {
    pass = p;
    has_pass = ap (λ (w : Machine T Q). w.pass) is ∙ has;
    its = subst (λ (k : ℕ). p.m.0 + (k + 1) ≡ machines) (sym here) its;
    counted = none_at machines p.m.0 (omega (arith, its)) ∙ ap (λ (k : ℕ). Some k) (sym no_call);
  }
  by (inr had) = are place z had
