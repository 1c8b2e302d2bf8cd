-- Where a machine's goroutine stands, and what that says of its body.
use mathlib.Core.Logic.{inl, inr}
use Rattle.std.specs.Prelude.{◌≡◌, ◌⊎◌, ◌↔◌, ℕ, ◌==◌, Bool, true, false, List, Option, Some, None, if◌then◌else◌, slice_get}
use Rattle.gmp_base.specs.declared.ask.Ask.{Ask}
use Rattle.gmp_base.specs.declared.ask.Woke.{Woke}
use Rattle.gmp_base.specs.declared.number.GNo.{GNo}
use Rattle.gmp_base.specs.declared.number.MNo.{MNo}
use Rattle.gmp_base.specs.declared.refusal.Refusal.{Refusal}
use Rattle.gmp_base.specs.declared.refusal.Refusal.TheVariants.{OutOfMemory}
use Rattle.gmp_seq.specs.declared.call.Call.{Call}
use Rattle.gmp_seq.specs.declared.call.Call.TheVariants as call
use Rattle.gmp_driver.specs.declared.place.Place.{Place}
use Rattle.gmp_driver.specs.declared.place.Place.TheVariants as place
use Rattle.gmp_driver.specs.declared.registers.HeldParts.{HeldParts}
use Rattle.gmp_driver.specs.declared.registers.Registers.{Registers}
use Rattle.gmp_seq.specs.Table.{IsCalling, IsRunning, Table}
use Rattle.gmp_acts.specs.Hands.{PlainHand, hand_unmade}
use Rattle.gmp_acts.specs.Sound.{IsEnd}
use Rattle.gmp_acts.specs.System.{called_number, held_number}
use Rattle.gmp_turn.specs.Values.{body_in}
use Rattle.gmp_said.specs.Said.{Blocks, IsLast, Resumes, Speaker}

-- what its body asked, where its call is next; and what its blocking call answered, where that ends next
abbrev pub due_at : Place → Option (Ask ⊎ ℕ)
due_at (place.Do asked) = Some (inl asked)
due_at (place.Leave number) = Some (inr number)
due_at here = None

-- what goroutine i is told next, if it is the one that runs
abbrev pub held_woke : {T : Type 0} → Option (HeldParts T) → ℕ → Option Woke
held_woke None i = None
held_woke (Some h) i = if h.g.0 == i then Some h.woke else None

abbrev pub woke_in : {T Q : Type 0} → Registers T Q → ℕ → Option Woke
woke_in hand i = held_woke hand.held i

-- Whose goroutines are in hand

-- the goroutine that runs in the hand of machine m does so by the table, and so the one in its blocking call
abbrev pub HasGoroutines : Table → MNo → Option GNo → Option GNo → Type 0
HasGoroutines t m running calling = ((g : GNo) → running ≡ Some g → IsRunning t g m) × ((g : GNo) → calling ≡ Some g → IsCalling t g m)

-- these, and no others
abbrev pub HasExactly : Table → MNo → Option GNo → Option GNo → Type 0
HasExactly t m running calling = ((g : GNo) → running ≡ Some g ↔ IsRunning t g m) × ((g : GNo) → calling ≡ Some g ↔ IsCalling t g m)

-- while the run goes on no others
abbrev pub Owns : Bool → Table → MNo → Option GNo → Option GNo → Type 0
Owns over t m running calling = HasGoroutines t m running calling × (over ≡ false → HasExactly t m running calling)

-- what a machine holds once its call was refused: where memory was, the goroutine of a make is to be told so
abbrev pub hand_refused : Call → Refusal → PlainHand → PlainHand
hand_refused (call.Make capacity) OutOfMemory hand = hand_unmade hand
hand_refused asked why hand = hand

module _ {T : Type 0} (resumes : Resumes T) (blocks : Blocks T) where
  -- What is due, what it is told next if it runs (else it is in its blocking call), and its body: it asked, or its blocking call was made, or
  -- it did neither since its last call.
  abbrev pub Stands : Option (Ask ⊎ ℕ) → Option Woke → Speaker T → T → Type 0
  Stands (Some (inl asked)) (Some told) s b = resumes s.body s.woke asked b
  Stands (Some (inr number)) None s b = blocks s.body number b
  Stands due (Some told) s b = s ≡ record { body = b; woke = told }
  Stands due None s b = s.body ≡ b

  -- once the run is over: any of these
  abbrev pub StandsLast : Option Woke → Speaker T → T → Type 0
  StandsLast (Some told) s b = (s.body ≡ b) ⊎ ((asked : Ask) × resumes s.body s.woke asked b)
  StandsLast None s b = (s.body ≡ b) ⊎ ((number : ℕ) × blocks s.body number b)

  -- of a machine at this place
  abbrev pub StandsSo : Place → Option Woke → Speaker T → T → Type 0
  StandsSo here told s b = Stands (due_at here) told s b ⊎ (IsEnd here × StandsLast told s b)

  -- The same goroutines are in hand. Whatever one stood to at the place before, it stands to at the place after, by what it was told and asked since.
  pub record HandSaid {Q : Type 0} (here : Place) (hand : Registers T Q) (there : Place) (hand' : Registers T Q) : Type 0 where
    pub held : held_number hand'.held ≡ held_number hand.held
    pub called : called_number hand'.called ≡ called_number hand.called
    pub said : (i : ℕ) (c : T) → body_in hand' i ≡ Some c
        → (b : T) × (body_in hand i ≡ Some b) × ((s : Speaker T) → StandsSo here (woke_in hand i) s b → StandsSo there (woke_in hand' i) s c)

  -- each goroutine in hand stands so to its speaker
  abbrev pub HandStands : {Q : Type 0} → List (Speaker T) → Place → Registers T Q → Type 0
  HandStands speakers here hand = (i : ℕ) (b : T) → body_in hand i ≡ Some b → (s : Speaker T) × (slice_get speakers i ≡ Some s) × StandsSo here (woke_in hand i) s b

  -- the body in each place is as its last call left it, or, where the run is over, the last of its speaker
  abbrev pub AreInside : Bool → Table → List (Speaker T) → List (Option T) → Type 0
  AreInside over t speakers places =
      (i : ℕ) (b : T) → slice_get places i ≡ Some (Some b) → (s : Speaker T) × (slice_get speakers i ≡ Some s) × ((s.body ≡ b) ⊎ ((over ≡ true) × IsLast resumes blocks t (record { 0 = i }) s b))
