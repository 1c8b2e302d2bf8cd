-- Acts on local queues, bodies and the clock: which they are, and what they leave of a machine's hand.
use Rattle.std.specs.Prelude.{◌≡◌}
use Rattle.gmp_driver.specs.declared.act.Act.{Act}
use Rattle.gmp_driver.specs.declared.act.Act.TheVariants as act
use Rattle.gmp_driver.specs.declared.registers.Registers.{Registers}

-- an act of which the machine is only told: the body is resumed, or makes its blocking call, or the clock is read
abbrev pub IsTold : Act → Type 0
IsTold act.Resume = Unit {0}
IsTold act.Block = Unit {0}
IsTold (act.Clock minded) = Unit {0}
IsTold _ = ⊥

-- what is held is the same but for tickets, with bodies and owners
pub record KeepsHand {T Q : Type 0} (before behind : Registers T Q) : Type 0 where
  pub processor : behind.processor ≡ before.processor
  pub held : behind.held ≡ before.held
  pub called : behind.called ≡ before.called
