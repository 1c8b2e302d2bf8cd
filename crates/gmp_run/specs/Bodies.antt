-- Bodies: what leads one on, and where those of a run are.
use Rattle.std.specs.Prelude.{◌≡◌, ◌⊎◌, ℕ, List, [], ◌∷◌, Option, Some, None, IsNone, IsSome, slice_get}
use Rattle.gmp_base.specs.declared.ask.Ask.{Ask}
use Rattle.gmp_base.specs.declared.ask.Woke.{Woke}
use Rattle.gmp_driver.specs.declared.registers.Registers.{Registers}
use Rattle.gmp_driver.specs.Machine.{Machine}
use Rattle.gmp_turn.specs.Values.{AreOut, body_in}
use Rattle.gmp_said.specs.Said.{Blocks, Resumes}

-- it holds one goroutine at most
abbrev pub HoldsOne : {T Q : Type 0} → Registers T Q → Type 0
HoldsOne hand = IsNone hand.held ⊎ IsNone hand.called

module _ {T : Type 0} (resumes : Resumes T) (blocks : Blocks T) where
  -- it was resumed once, or made its blocking call once
  abbrev pub BodyGoesOn : T → T → Type 0
  BodyGoesOn b c = ((woke : Woke) × (ask : Ask) × resumes b woke ask c) ⊎ ((number : ℕ) × blocks b number c)

  -- so in a row, with the body after each
  abbrev pub BodyGoesAll : T → List T → T → Type 0
  BodyGoesAll b [] c = c ≡ b
  BodyGoesAll b (mid ∷ mids) c = BodyGoesOn b mid × BodyGoesAll mid mids c

  -- The one was led to the other: by its resumes and its blocking calls alone.
  abbrev pub IsLed : T → T → Type 0
  IsLed b c = (mids : List T) × BodyGoesAll b mids c

  -- number i of those given was led here
  abbrev pub IsLedFrom : List T → ℕ → T → Type 0
  IsLedFrom given i c = (b : T) × (slice_get given i ≡ Some b) × IsLed b c

  -- Each body was led here from the one that was given with its number.
  abbrev pub AllLedFrom : List T → List T → Type 0
  AllLedFrom given bodies = ∥ ((i : ℕ) (c : T) → slice_get bodies i ≡ Some c → IsLedFrom given i c) ∥₁

  -- In hand and in the book

  -- both are there, and the one was led to the other; or neither is
  abbrev pub IsLedIf : Option T → Option T → Type 0
  IsLedIf None None = Unit {0}
  IsLedIf (Some b) (Some c) = IsLed b c
  IsLedIf b c = ⊥

  -- the bodies in hand are those that were in hand, each led here
  abbrev pub HandLed : {Q : Type 0} → Registers T Q → Registers T Q → Type 0
  HandLed old new = (i : ℕ) → IsLedIf (body_in old i) (body_in new i)

  -- each body that is in its place was led here from the one that was given with its number
  abbrev pub AllInside : List T → List (Option T) → Type 0
  AllInside given places = (i : ℕ) (c : T) → slice_get places i ≡ Some (Some c) → IsLedFrom given i c

  -- As machines left the lock, each body is in its place in the book or in the hand of one of them, led there from the one that was given
  -- with its number.
  pub record ArePlaced {Q : Type 0} (given : List T) (board : List (Machine T Q)) (places : List (Option T)) : Type 0 where
    pub inside : AllInside given places
    pub in_hand : (at : ℕ) (x : Machine T Q) → slice_get board at ≡ Some x → (i : ℕ) (c : T) → body_in x.hand i ≡ Some c → IsLedFrom given i c
    pub out : (at : ℕ) (x : Machine T Q) → slice_get board at ≡ Some x → AreOut (body_in x.hand) places
    pub apart : (at at' : ℕ) (x y : Machine T Q) → slice_get board at ≡ Some x → slice_get board at' ≡ Some y → (i : ℕ) → IsSome (body_in x.hand i) → IsSome (body_in y.hand i) → at ≡ at'
    pub one : (at : ℕ) (x : Machine T Q) → slice_get board at ≡ Some x → HoldsOne x.hand
