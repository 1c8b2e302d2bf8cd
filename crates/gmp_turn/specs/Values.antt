-- Where bodies and owners are: in a machine's hand, or in their places in the book.
use Rattle.std.specs.Prelude.{◌≡◌, ℕ, ◌==◌, List, length, Option, Some, None, IsSome, if◌then◌else◌, slice_get, slice_index_or}
use Rattle.gmp_driver.specs.declared.registers.CalledParts.{CalledParts}
use Rattle.gmp_driver.specs.declared.registers.HeldParts.{HeldParts}
use Rattle.gmp_driver.specs.declared.registers.ProcParts.{ProcParts}
use Rattle.gmp_driver.specs.declared.registers.Registers.{Registers}
use Rattle.gmp_driver.specs.Registers.{first_of}

-- What is in hand

-- this value where its number is i
abbrev pub where_is : {X : Type 0} → ℕ → X → ℕ → Option X
where_is number x i = if number == i then Some x else None

abbrev pub held_body : {T : Type 0} → Option (HeldParts T) → ℕ → Option T
held_body None i = None
held_body (Some h) i = where_is h.g.0 h.body i

abbrev pub called_body : {T : Type 0} → Option (CalledParts T) → ℕ → Option T
called_body None i = None
called_body (Some c) i = where_is c.g.0 c.body i

abbrev pub proc_owner : {Q : Type 0} → Option (ProcParts Q) → ℕ → Option Q
proc_owner None i = None
proc_owner (Some x) i = where_is x.p.0 x.owner i

-- the body of goroutine i that is in the hand, of the goroutine that runs or of the one in its blocking call
abbrev pub body_in : {T Q : Type 0} → Registers T Q → ℕ → Option T
body_in hand i = first_of (held_body hand.held i) (called_body hand.called i)

-- the owner of processor i that is in the hand
abbrev pub owner_in : {T Q : Type 0} → Registers T Q → ℕ → Option Q
owner_in hand i = proc_owner hand.processor i

-- In the hand or in its place

-- what is in hand is out of its place
abbrev pub AreOut : {X : Type 0} → (ℕ → Option X) → List (Option X) → Type 0
AreOut hand places = (i : ℕ) → IsSome (hand i) → slice_get places i ≡ Some None

-- Each value stays, in the hand or in its place; it is never in both; and a place of which nothing came or went is as it was.
pub record KeepsValues {X : Type 0} (had has : ℕ → Option X) (old now : List (Option X)) : Type 0 where
  pub count : length now ≡ length old
  pub same : (i : ℕ) → first_of (has i) (slice_index_or now i None) ≡ first_of (had i) (slice_index_or old i None)
  pub out : AreOut has now
  pub rest : (i : ℕ) → had i ≡ None → has i ≡ None → slice_get now i ≡ slice_get old i
