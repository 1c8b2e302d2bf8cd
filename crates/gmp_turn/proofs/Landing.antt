-- The registers that are filled suit the next place where a call was refused, and the mode suits the place.
use Rattle.std.proofs.Common.{◌≡◌, inl, ℕ, Bool, true, false, is_some, Option, Some, refl, ap, ◌∙◌}
use Rattle.gmp_base.specs.declared.ask.Ask.TheVariants as ask
use Rattle.gmp_base.specs.declared.refusal.Refusal.{Refusal}
use Rattle.gmp_base.specs.declared.refusal.Refusal.TheVariants as refusal
use Rattle.gmp_seq.specs.declared.call.Call.{Call}
use Rattle.gmp_seq.specs.declared.call.Call.TheVariants as call
use Rattle.gmp_seq.specs.declared.call.Reply.{Reply}
use Rattle.gmp_seq.specs.declared.call.Reply.TheVariants as reply
use Rattle.gmp_seq.specs.declared.status.Mode.{Mode}
use Rattle.gmp_seq.specs.declared.status.Mode.TheVariants as mode
use Rattle.gmp_driver.specs.declared.act.Act.TheVariants as act
use Rattle.gmp_driver.specs.declared.act.Told.TheVariants as told
use Rattle.gmp_driver.specs.declared.place.Aside.{Aside}
use Rattle.gmp_driver.specs.declared.place.Place.{Place}
use Rattle.gmp_driver.specs.declared.place.Place.TheVariants as place
use Rattle.gmp_driver.specs.declared.registers.Registers.{Registers}
use Rattle.gmp_driver.specs.declared.seen.Seen.{Seen}
use Rattle.gmp_driver.specs.Fits.{SuitsPlace, IsFilled}
use Rattle.gmp_driver.specs.Table.{act_at, after, next_place}
use Rattle.gmp_acts.specs.Sound.{ModeAt}
use Rattle.gmp_acts.proofs.Replies.{Awoke}
use Rattle.gmp_turn.proofs.Back.{Filled, filled}

module _ {T Q : Type 0} (procs : ℕ) (fresh : Bool) (turns : ℕ) (aside : Option Aside) (hand hand' : Registers T Q) where
  -- The registers from those before

  shape : (p h c t s : Bool) → IsFilled p h c t s hand → filled hand ≡ record { processor = p; held = h; called = c; to_claim = t; to_store = s }
  shape p h c t s f = rw (f.has_processor, f.has_held, f.has_called, f.has_to_claim, f.has_to_store) refl

  abbrev IsSo : Filled → Type 0
  IsSo x = IsFilled x.processor x.held x.called x.to_claim x.to_store hand'

  is_so : (x : Filled) → filled hand' ≡ x → IsSo x
  is_so x e = record {
    has_processor = ap (λ (y : Filled). y.processor) e;
    has_held = ap (λ (y : Filled). y.held) e;
    has_called = ap (λ (y : Filled). y.called) e;
    has_to_claim = ap (λ (y : Filled). y.to_claim) e;
    has_to_store = ap (λ (y : Filled). y.to_store) e;
  }

  onto : {p h c t s : Bool} (after : Filled → Filled) → IsFilled p h c t s hand → filled hand' ≡ after (filled hand)
      → IsSo (after (record { processor = p; held = h; called = c; to_claim = t; to_store = s }))
  onto {p} {h} {c} {t} {s} after f e = is_so (after (record { processor = p; held = h; called = c; to_claim = t; to_store = s })) (e ∙ ap after (shape p h c t s f))

  same : {p h c t s : Bool} → IsFilled p h c t s hand → filled hand' ≡ filled hand → IsFilled p h c t s hand'
  same f e = onto (λ (y : Filled). y) f e

  -- at Unspin the ticket to claim decides
  at_its : (t : Bool) → IsFilled true false false t false hand' → SuitsPlace place.Unspin hand'
  at_its t f = record { has_processor = f.has_processor; has_held = f.has_held; has_called = f.has_called; has_to_claim = refl; has_to_store = f.has_to_store }

  -- A refused call leaves the place, but for one that finds the run over, and a make without memory

  pub refused : (x : Seen) (here : Place) (why : Refusal) → SuitsPlace here hand → filled hand' ≡ filled hand → SuitsPlace (next_place x here (told.Refused why)) hand'
  refused x here refusal.Over f e = tt
  refused x place.Over why f e = tt
  refused x place.Unspin why f e = at_its (is_some hand.to_claim) (same f e)
  refused x (place.Do (ask.Make capacity)) refusal.OutOfMemory f e = same f e
  refused x _ why f e = same f e

-- A mode that suits the place

abbrev pub mode_for : Place → Option Mode
mode_for place.Block = Some mode.Calling
mode_for (place.Leave number) = Some mode.Calling
mode_for here = Some mode.Awake

pub suits_mode : (here : Place) → ModeAt here (mode_for here)
suits_mode place.Rest = inl refl
suits_mode _ = refl

pub awoke_for : (x : Seen) (here : Place) (c : Call) (answer : Reply) → act_at x here ≡ act.Call c → Awoke c answer (mode_for here)
awoke_for x place.Block call.Woken answer is = absurd (let no : ⊥ = cc in no)
awoke_for x (place.Leave number) call.Woken answer is = absurd (let no : ⊥ = cc in no)
awoke_for x here call.Woken (reply.Answer true) is = refl
awoke_for x here _ answer is = tt
