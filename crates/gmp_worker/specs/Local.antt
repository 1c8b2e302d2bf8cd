-- One turn of a machine on what it alone holds: a body or the clock.
use Rattle.std.specs.Prelude.{Option, Some, None}
use Rattle.gmp_driver.specs.declared.act.Act.{Act}
use Rattle.gmp_driver.specs.declared.act.Act.TheVariants as act
use Rattle.gmp_driver.specs.declared.registers.CalledParts.{CalledParts}
use Rattle.gmp_driver.specs.declared.registers.HeldParts.{HeldParts}
use Rattle.gmp_driver.specs.Machine.{Machine}

-- a body is resumed, or makes its blocking call, or the clock is read
abbrev pub IsOfBodyOrClock : Act → Type 0
IsOfBodyOrClock act.Resume = Unit {0}
IsOfBodyOrClock act.Block = Unit {0}
IsOfBodyOrClock (act.Clock minded) = Unit {0}
IsOfBodyOrClock _ = ⊥

abbrev There : {X : Type 0} → Option X → (X → Type 0) → Type 0
There None fact = ⊥
There (Some x) fact = fact x

-- a goroutine runs here, and this is so of it
abbrev pub HeldWhere : {T Q : Type 0} → Machine T Q → (HeldParts T → Type 0) → Type 0
HeldWhere x fact = There x.hand.held fact

-- a goroutine is in its blocking call here, and this is so of it
abbrev pub CalledWhere : {T Q : Type 0} → Machine T Q → (CalledParts T → Type 0) → Type 0
CalledWhere x fact = There x.hand.called fact
