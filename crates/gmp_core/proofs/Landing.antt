-- What a machine holds after an act on a queue, a body or the clock.
use Rattle.std.proofs.Common.{◌≡◌, Bool, true, false, None, refl, sym, subst}
use Rattle.gmp_base.specs.declared.number.Readiness.{Readiness}
use Rattle.gmp_driver.specs.declared.act.Told.{Told}
use Rattle.gmp_driver.specs.declared.registers.Registers.{Registers}
use Rattle.gmp_driver.specs.Fits.{SuitsPlace}
use Rattle.gmp_driver.specs.Machine.{Machine}
use Rattle.gmp_driver.specs.Own.{with_found}
use Rattle.gmp_driver.specs.Table.{after}
use Rattle.gmp_core.specs.Local.{KeepsHand}

-- a ticket that was pushed is held no more
abbrev pub without_stored : {T Q : Type 0} → Registers T Q → Registers T Q
without_stored hand = record hand { to_store = None }

module _ {T Q : Type 0} (x now : Machine T Q) (what : Told) where
  pub fits_now : (hand : Registers T Q) → SuitsPlace (after (record x { hand = hand }) what).place hand → now ≡ after (record x { hand = hand }) what → SuitsPlace now.place now.hand
  fits_now hand fits e = subst (λ (y : Machine T Q). SuitsPlace y.place y.hand) (sym e) fits

  keeps : (hand : Registers T Q) → KeepsHand x.hand hand → now ≡ after (record x { hand = hand }) what → KeepsHand x.hand now.hand
  keeps hand kept e = subst (λ (y : Machine T Q). KeepsHand x.hand y.hand) (sym e) kept

  pub keeps_now : now ≡ after x what → KeepsHand x.hand now.hand
  keeps_now e = keeps x.hand (record { processor = refl; held = refl; called = refl }) e

  found_keeps : (r : Readiness) (is_to_store : Bool) → KeepsHand x.hand (with_found r is_to_store x.hand)
  found_keeps r false = record { processor = refl; held = refl; called = refl }
  found_keeps r true = record { processor = refl; held = refl; called = refl }

  pub found_now : (r : Readiness) (is_to_store : Bool) → now ≡ after (record x { hand = with_found r is_to_store x.hand }) what → KeepsHand x.hand now.hand
  found_now r is_to_store e = keeps (with_found r is_to_store x.hand) (found_keeps r is_to_store) e

  pub stored_now : now ≡ after (record x { hand = without_stored x.hand }) what → KeepsHand x.hand now.hand
  stored_now e = keeps (without_stored x.hand) (record { processor = refl; held = refl; called = refl }) e
