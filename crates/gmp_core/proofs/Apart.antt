-- What one machine has in hand no other has.
use Rattle.std.proofs.Common.{◌≡◌, ◌⊎◌, inl, inr, ℕ, ◌==◌, Bool, true, false, if◌then◌else◌, refl, ap, Option, Some, None, IsSome}
use Rattle.std.proofs.lemmas.Bool.{eqb-true}
use Rattle.std.specs.Option.{option_map}
use Rattle.gmp_base.specs.declared.number.GNo.{GNo}
use Rattle.gmp_base.specs.declared.number.PNo.{PNo}
use Rattle.gmp_driver.specs.declared.registers.CalledParts.{CalledParts}
use Rattle.gmp_driver.specs.declared.registers.HeldParts.{HeldParts}
use Rattle.gmp_driver.specs.declared.registers.ProcParts.{ProcParts}
use Rattle.gmp_driver.specs.Registers.{first_of}
use Rattle.gmp_driver.specs.Seen.{number_of}
use Rattle.gmp_acts.specs.Hands.{plain_called, plain_held, plain_proc}
use Rattle.gmp_acts.specs.System.{called_number, held_number}
use Rattle.gmp_turn.specs.Values.{called_body, held_body, proc_owner, where_is}
use Rattle.gmp_core.proofs.Stock.{no_some}

number_at : {X : Type 0} (number : ℕ) (x : X) (i : ℕ) → IsSome (where_is number x i) → number ≡ i
number_at {X = X} number x i some = by (number == i) refl some where
  by : (b : Bool) → (number == i) ≡ b → IsSome {T = X} (if b then Some x else None) → number ≡ i
  by true e h = eqb-true number i e
  by false e h = absurd (no_some {X = X} None refl h)

held_is : {T : Type 0} (o : Option (HeldParts T)) (i : ℕ) → IsSome (held_body o i) → held_number (option_map plain_held o) ≡ Some (record { 0 = i })
held_is {T = T} None i h = absurd (no_some {X = T} None refl h)
held_is (Some x) i h = ap (λ (n : ℕ). let g : GNo = record { 0 = n } in Some g) (number_at x.g.0 x.body i h)

called_is : {T : Type 0} (o : Option (CalledParts T)) (i : ℕ) → IsSome (called_body o i) → called_number (option_map plain_called o) ≡ Some (record { 0 = i })
called_is {T = T} None i h = absurd (no_some {X = T} None refl h)
called_is (Some x) i h = ap (λ (n : ℕ). let g : GNo = record { 0 = n } in Some g) (number_at x.g.0 x.body i h)

pub processor_is : {Q : Type 0} (o : Option (ProcParts Q)) (i : ℕ) → IsSome (proc_owner o i) → number_of (option_map plain_proc o) ≡ Some (record { 0 = i })
processor_is {Q = Q} None i h = absurd (no_some {X = Q} None refl h)
processor_is (Some x) i h = ap (λ (n : ℕ). let p : PNo = record { 0 = n } in Some p) (number_at x.p.0 x.owner i h)

-- a body in hand is that of a goroutine in hand
pub body_is : {T : Type 0} (held : Option (HeldParts T)) (called : Option (CalledParts T)) (i : ℕ) → IsSome (first_of (held_body held i) (called_body called i))
    → (held_number (option_map plain_held held) ≡ Some (record { 0 = i })) ⊎ (called_number (option_map plain_called called) ≡ Some (record { 0 = i }))
body_is {T = T} held called i some = by (held_body held i) refl some where
  by : (o : Option T) → held_body held i ≡ o → IsSome (first_of o (called_body called i))
      → (held_number (option_map plain_held held) ≡ Some (record { 0 = i })) ⊎ (called_number (option_map plain_called called) ≡ Some (record { 0 = i }))
  by None e h = inr (called_is called i h)
  by (Some x) e h = inl (held_is held i (rw e refl))

-- it is not with two
pub apart : {X : Type 0} (mine its : Option X) → (IsSome mine → IsSome its → ⊥) → IsSome its → mine ≡ None
apart None its never some = refl
apart (Some x) its never some = absurd (never refl some)
