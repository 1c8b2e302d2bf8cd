-- What an act uses and what it leaves are together what the machine held, and no register is filled twice.
use Rattle.std.proofs.Common.{◌≡◌, inl, inr, Bool, true, false, Option, None, Some, refl}
use Rattle.gmp_driver.specs.declared.act.Act.{Act}
use Rattle.gmp_driver.specs.declared.act.Value.{Value}
use Rattle.gmp_driver.specs.declared.act.Value.TheVariants as value
use Rattle.gmp_driver.specs.declared.registers.Registers.{Registers}
use Rattle.gmp_driver.specs.Registers.{AreFilledOnce, but, first_of, joined, only, one_used, unused, used, uses_processor, with_processor, without_processor}

first_none : {X : Type 0} (o : Option X) → first_of o None ≡ o
first_none None = refl
first_none (Some x) = refl

module _ {T Q : Type 0} where
  all_joined : (both : Bool) (which : Option Value) (hand : Registers T Q)
      → joined (with_processor both hand (only which hand)) (without_processor both (but which hand)) ≡ hand
  all_joined false None hand = refl
  all_joined true None hand = rw (first_none hand.processor) refl
  all_joined false (Some value.Held) hand = rw (first_none hand.held) refl
  all_joined true (Some value.Held) hand = rw (first_none hand.held, first_none hand.processor) refl
  all_joined false (Some value.Called) hand = rw (first_none hand.called) refl
  all_joined true (Some value.Called) hand = rw (first_none hand.called, first_none hand.processor) refl
  all_joined false (Some value.ToClaim) hand = rw (first_none hand.to_claim) refl
  all_joined true (Some value.ToClaim) hand = rw (first_none hand.to_claim, first_none hand.processor) refl
  all_joined false (Some value.ToStore) hand = rw (first_none hand.to_store) refl
  all_joined true (Some value.ToStore) hand = rw (first_none hand.to_store, first_none hand.processor) refl
  all_joined false (Some value.Proc) hand = rw (first_none hand.processor) refl
  all_joined true (Some value.Proc) hand = rw (first_none hand.processor) refl

  pub whole : (act : Act) (hand : Registers T Q) → joined (used act hand) (unused act hand) ≡ hand
  whole act hand = all_joined (uses_processor act) (one_used act hand) hand

  all_apart : (both : Bool) (which : Option Value) (hand : Registers T Q)
      → AreFilledOnce (without_processor both (but which hand)) (with_processor both hand (only which hand))
  all_apart false None hand = record { processor = inr refl; held = inr refl; called = inr refl; to_claim = inr refl; to_store = inr refl }
  all_apart true None hand = record { processor = inl refl; held = inr refl; called = inr refl; to_claim = inr refl; to_store = inr refl }
  all_apart false (Some value.Held) hand = record { processor = inr refl; held = inl refl; called = inr refl; to_claim = inr refl; to_store = inr refl }
  all_apart true (Some value.Held) hand = record { processor = inl refl; held = inl refl; called = inr refl; to_claim = inr refl; to_store = inr refl }
  all_apart false (Some value.Called) hand = record { processor = inr refl; held = inr refl; called = inl refl; to_claim = inr refl; to_store = inr refl }
  all_apart true (Some value.Called) hand = record { processor = inl refl; held = inr refl; called = inl refl; to_claim = inr refl; to_store = inr refl }
  all_apart false (Some value.ToClaim) hand = record { processor = inr refl; held = inr refl; called = inr refl; to_claim = inl refl; to_store = inr refl }
  all_apart true (Some value.ToClaim) hand = record { processor = inl refl; held = inr refl; called = inr refl; to_claim = inl refl; to_store = inr refl }
  all_apart false (Some value.ToStore) hand = record { processor = inr refl; held = inr refl; called = inr refl; to_claim = inr refl; to_store = inl refl }
  all_apart true (Some value.ToStore) hand = record { processor = inl refl; held = inr refl; called = inr refl; to_claim = inr refl; to_store = inl refl }
  all_apart false (Some value.Proc) hand = record { processor = inl refl; held = inr refl; called = inr refl; to_claim = inr refl; to_store = inr refl }
  all_apart true (Some value.Proc) hand = record { processor = inl refl; held = inr refl; called = inr refl; to_claim = inr refl; to_store = inr refl }

  pub apart : (act : Act) (hand : Registers T Q) → AreFilledOnce (unused act hand) (used act hand)
  apart act hand = all_apart (uses_processor act) (one_used act hand) hand
