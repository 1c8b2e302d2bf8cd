-- Turns go round.
use Rattle.std.proofs.Common.{◌≡◌, ℕ, ◌+◌, ◌-◌, ◌%◌, ◌<◌, true, sym, ap, ◌∙◌, subst, arith, inl, inr}
use Rattle.std.proofs.Math.Nat.{add-mod_right, mod-add-mod, mod-eq_of_lt, mod-lt}
use Rattle.std.proofs.lemmas.Bool.{cases_lt}
use Rattle.gmp_acts.specs.System.{System}
use Rattle.gmp_core.specs.Stage.{AreParked, machines_of, parked}

-- going round so many, each comes
comes : (turn n m : ℕ) → m < n → (d : ℕ) × (d < n) × ((turn + d) % n ≡ m)
comes turn n m here =
    let few : turn % n < n = mod-lt turn (omega arith) in
    elim (cases_lt m (turn % n)) [
      | inl before ↦
          let d = m + n - turn % n in
          (d, omega arith, sym (mod-add-mod turn n d) ∙ (let e : turn % n + d ≡ m + n = omega arith in ap (λ (x : ℕ). x % n) e) ∙ add-mod_right m n ∙ mod-eq_of_lt here)
      | inr behind ↦
          let d = m - turn % n in
          (d, omega arith, sym (mod-add-mod turn n d) ∙ (let e : turn % n + d ≡ m = omega arith in ap (λ (x : ℕ). x % n) e) ∙ mod-eq_of_lt here)
    ]

pub all_parked : (k : System) (turn : ℕ) → ((i : ℕ) → i < machines_of k → parked k ((turn + i) % machines_of k) ≡ true) → AreParked k
all_parked k turn round m within =
    let at = comes turn (machines_of k) m.0 within in
    subst (λ (x : ℕ). parked k x ≡ true) at.2 (round at.0 at.1)
