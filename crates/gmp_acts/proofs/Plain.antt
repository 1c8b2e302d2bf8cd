-- A machine in plain parts does what it does.
use Rattle.std.proofs.Common.{◌≡◌, ℕ, Bool, is_some, Option, None, Some, refl, sym, ◌∙◌}
use Rattle.std.specs.Option.{option_map}
use Rattle.gmp_base.specs.declared.number.Readiness.{Readiness}
use Rattle.gmp_driver.specs.declared.act.Told.{Told}
use Rattle.gmp_driver.specs.declared.place.Aside.{Aside}
use Rattle.gmp_driver.specs.declared.place.Place.{Place}
use Rattle.gmp_driver.specs.declared.place.Place.TheVariants as place
use Rattle.gmp_driver.specs.declared.registers.CalledParts.{CalledParts}
use Rattle.gmp_driver.specs.declared.registers.HeldParts.{HeldParts}
use Rattle.gmp_driver.specs.declared.registers.ProcParts.{ProcParts}
use Rattle.gmp_driver.specs.declared.registers.Registers.{Registers}
use Rattle.gmp_driver.specs.Fits.{SuitsPlace, IsFilled}
use Rattle.gmp_driver.specs.Machine.{Machine}
use Rattle.gmp_driver.specs.Registers.{first_value}
use Rattle.gmp_driver.specs.Seen.{number_of, seen_of}
use Rattle.gmp_driver.specs.Table.{after}
use Rattle.gmp_acts.specs.Hands.{plain, plain_called, plain_held, plain_machine, plain_proc}

pub mapped : {A B : Type 0} (f : A → B) (o : Option A) → is_some (option_map f o) ≡ is_some o
mapped f None = refl
mapped f (Some x) = refl

pub number_plain : {Q : Type 0} (o : Option (ProcParts Q)) → number_of (option_map plain_proc o) ≡ number_of o
number_plain None = refl
number_plain (Some x) = refl

first_plain : {T Q : Type 0} (p : Option (ProcParts Q)) (h : Option (HeldParts T)) (c : Option (CalledParts T)) (t s : Option Readiness)
    → (let hand : Registers T Q = record { processor = p; held = h; called = c; to_claim = t; to_store = s } in first_value (plain hand) ≡ first_value hand)
first_plain p (Some x) c t s = refl
first_plain p None (Some x) t s = refl
first_plain p None None (Some x) s = refl
first_plain p None None None (Some x) = refl
first_plain (Some x) None None None None = refl
first_plain None None None None None = refl

pub seen_plain : {T Q : Type 0} (procs : ℕ) (fresh : Bool) (turns : ℕ) (aside : Option Aside) (hand : Registers T Q) → seen_of procs fresh turns aside (plain hand) ≡ seen_of procs fresh turns aside hand
seen_plain procs fresh turns aside hand = rw (number_plain hand.processor, first_plain hand.processor hand.held hand.called hand.to_claim hand.to_store) refl

-- told something in plain parts
pub after_plain : {T Q : Type 0} (x : Machine T Q) (what : Told) → plain_machine (after x what) ≡ after (plain_machine x) what
after_plain x what = rw (seen_plain x.procs x.fresh x.turns x.aside x.hand) refl

module _ {T Q : Type 0} (hand : Registers T Q) where
  to_plain : {p h c t s : Bool} → IsFilled p h c t s hand → IsFilled p h c t s (plain hand)
  to_plain f = record {
    has_processor = mapped plain_proc hand.processor ∙ f.has_processor;
    has_held = mapped plain_held hand.held ∙ f.has_held;
    has_called = mapped plain_called hand.called ∙ f.has_called;
    has_to_claim = f.has_to_claim;
    has_to_store = f.has_to_store;
  }

  from_plain : {p h c t s : Bool} → IsFilled p h c t s (plain hand) → IsFilled p h c t s hand
  from_plain f = record {
    has_processor = sym (mapped plain_proc hand.processor) ∙ f.has_processor;
    has_held = sym (mapped plain_held hand.held) ∙ f.has_held;
    has_called = sym (mapped plain_called hand.called) ∙ f.has_called;
    has_to_claim = f.has_to_claim;
    has_to_store = f.has_to_store;
  }

  pub fits_plain : (here : Place) → SuitsPlace here hand → SuitsPlace here (plain hand)
  fits_plain place.Over f = tt
  fits_plain _ f = to_plain f

  pub plain_fits : (here : Place) → SuitsPlace here (plain hand) → SuitsPlace here hand
  plain_fits place.Over f = tt
  plain_fits _ f = from_plain f
