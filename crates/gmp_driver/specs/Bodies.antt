-- The body in hand, which is lent.
use Rattle.std.specs.Prelude.{Option, None}
use Rattle.std.specs.Option.{option_map}
use Rattle.std.specs.Borrow.{Fml, LendsIf, MutBor, RattleType}
use Rattle.gmp_base.specs.declared.number.GNo.{GNo}
use Rattle.gmp_driver.specs.declared.place.Place.{Place}
use Rattle.gmp_driver.specs.declared.place.Place.TheVariants as place
use Rattle.gmp_driver.specs.declared.registers.CalledParts.{CalledParts}
use Rattle.gmp_driver.specs.declared.registers.HeldParts.{HeldParts}
use Rattle.gmp_driver.specs.declared.registers.Registers.{Registers}
use Rattle.gmp_driver.specs.Machine.{Machine}
use Rattle.gmp_driver.specs.contracts.driver.Driver.{the_row as driver_row}
use Rattle.gmp_driver.specs.contracts.registers.Registers.{the_row as registers_row}

-- the body of the goroutine that runs, at Run; of the one in its blocking call, at Block; else none
abbrev pub body_at : {T Q : Type 0} → Place → Registers T Q → Option T
body_at place.Run hand = option_map (λ (h : HeldParts _). h.body) hand.held
body_at place.Block hand = option_map (λ (c : CalledParts _). c.body) hand.called
body_at here hand = None

-- the goroutine whose step comes next: the one that runs, which is resumed, or whose call is made; or the one in its blocking call
abbrev pub speaker_at : {T Q : Type 0} → Place → Registers T Q → Option GNo
speaker_at place.Run hand = option_map (λ (h : HeldParts _). h.g) hand.held
speaker_at (place.Do asked) hand = option_map (λ (h : HeldParts _). h.g) hand.held
speaker_at place.Block hand = option_map (λ (c : CalledParts _). c.g) hand.called
speaker_at here hand = None

-- what is in hand with another body in its place
abbrev pub with_body_at : {T Q : Type 0} → Place → Registers T Q → T → Registers T Q
with_body_at place.Run hand body = record hand { held = option_map (λ (h : HeldParts _). record h { body = body }) hand.held }
with_body_at place.Block hand body = record hand { called = option_map (λ (c : CalledParts _). record c { body = body }) hand.called }
with_body_at here hand body = hand

-- the machine with another body in hand
abbrev pub with_body : {T Q : Type 0} → Machine T Q → T → Machine T Q
with_body x body = record x { hand = with_body_at x.place x.hand body }

module _ (T Q : RattleType) where
  -- once the borrow r ends, what is in hand has the last body written through r, or is as it was
  abbrev pub lends_at : MutBor (Registers T.Denot Q.Denot) → Place → Option (MutBor T.Denot) → Fml
  lends_at s here r = LendsIf (registers_row T Q) T s r (with_body_at here s.now) s.now

  -- the same of the machine
  abbrev pub lends_body : MutBor (Machine T.Denot Q.Denot) → Option (MutBor T.Denot) → Fml
  lends_body s r = LendsIf (driver_row T Q) T s r (with_body s.now) s.now
