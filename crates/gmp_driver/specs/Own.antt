-- What is lent of what a machine holds: all of it to a call, the owner of its processor to an act at a local queue; and the ticket that such an act
-- finds.
use Rattle.std.specs.Prelude.{Bool, true, false, Option, Some}
use Rattle.std.specs.Option.{option_map}
use Rattle.std.specs.Borrow.{Fml, Lends, LendsIf, MutBor, RattleType}
use Rattle.gmp_base.specs.declared.number.Readiness.{Readiness}
use Rattle.gmp_driver.specs.declared.registers.ProcParts.{ProcParts}
use Rattle.gmp_driver.specs.declared.registers.Registers.{Registers}
use Rattle.gmp_driver.specs.Machine.{Machine}
use Rattle.gmp_driver.specs.contracts.driver.Driver.{the_row as driver_row}
use Rattle.gmp_driver.specs.contracts.registers.Registers.{the_row as registers_row}

-- the owner of the processor that is held
abbrev pub owner_held : {T Q : Type 0} → Registers T Q → Option Q
owner_held hand = option_map (λ (x : ProcParts _). x.owner) hand.processor

-- what is held, with another owner in its place
abbrev pub with_owner : {T Q : Type 0} → Q → Registers T Q → Registers T Q
with_owner owner hand = record hand { processor = option_map (λ (x : ProcParts _). record x { owner = owner }) hand.processor }

-- what is held, with this ticket that was found: to claim, or to store
abbrev pub with_found : {T Q : Type 0} → Readiness → Bool → Registers T Q → Registers T Q
with_found r false hand = record hand { to_claim = Some r }
with_found r true hand = record hand { to_store = Some r }

module _ (T Q : RattleType) where
  -- once the borrow r ends, the processor that is held has the last owner written through r, or is as it was
  abbrev pub lends_owner_held : MutBor (Registers T.Denot Q.Denot) → Option (MutBor Q.Denot) → Fml
  lends_owner_held s r = LendsIf (registers_row T Q) Q s r (λ owner. with_owner owner s.now) s.now

  -- the same of the machine
  abbrev pub lends_owner : MutBor (Machine T.Denot Q.Denot) → Option (MutBor Q.Denot) → Fml
  lends_owner s r = LendsIf (driver_row T Q) Q s r (λ owner. record s.now { hand = with_owner owner s.now.hand }) s.now

  -- once the borrow r ends, the machine holds what was left behind r
  abbrev pub lends_hand : MutBor (Machine T.Denot Q.Denot) → MutBor (Registers T.Denot Q.Denot) → Fml
  lends_hand s r = Lends (driver_row T Q) (registers_row T Q) s r (λ hand. record s.now { hand = hand })
