-- A machine's program, as a contract sees it.
use Rattle.std.specs.Prelude.{ℕ, Bool, true, false, Option, Some, None}
use Rattle.gmp_base.specs.declared.ask.Woke.{Woke}
use Rattle.gmp_base.specs.declared.ask.Woke.TheVariants as woke
use Rattle.gmp_base.specs.declared.pass.Pass.{Pass}
use Rattle.gmp_driver.specs.declared.place.Aside.{Aside}
use Rattle.gmp_driver.specs.declared.place.Place.{Place}
use Rattle.gmp_driver.specs.declared.place.Place.TheVariants as place
use Rattle.gmp_driver.specs.declared.registers.HeldParts.{HeldParts}
use Rattle.gmp_driver.specs.declared.registers.Registers.{Registers}

-- the run, the number of processors, the place, whether another machine is to be woken for what it found, the claims since the last tick
-- (of a fair machine the last one behind which it looked aside), where it looks aside next, if it is fair, the pass unless it is given out,
-- and what it holds
pub record Machine (T Q : Type 0) : Type 0 where
  pub run : ℕ
  pub procs : ℕ
  pub place : Place
  pub fresh : Bool
  pub turns : ℕ
  pub aside : Option Aside
  pub pass : Option Pass
  pub hand : Registers T Q

-- what the body in hand is to be told, at Run; at Block Done, which has no meaning
abbrev pub held_at : {T : Type 0} → Place → Option (HeldParts T) → Option Woke
held_at place.Run None = None
held_at place.Run (Some h) = Some h.woke
held_at place.Block held = Some woke.Done
held_at here held = None

abbrev pub is_done : Place → Bool
is_done place.Done = true
is_done here = false

-- it looks aside at a queue
abbrev pub is_peek : Place → Bool
is_peek (place.Peek v) = true
is_peek here = false
