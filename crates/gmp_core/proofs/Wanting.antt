-- What an act reads, and what is in hand.
use Rattle.std.proofs.Common.{◌≡◌, Bool, true, false, if◌then◌else◌, refl, sym, ap, Option, None, Some, is_some}
use Rattle.std.specs.List.{slice_get}
use Rattle.gmp_base.specs.declared.number.MNo.{MNo}
use Rattle.gmp_base.specs.declared.number.Readiness.{Readiness}
use Rattle.gmp_seq.specs.declared.call.Call.TheVariants as call
use Rattle.gmp_driver.specs.declared.act.Act.TheVariants as act
use Rattle.gmp_driver.specs.declared.place.Place.{Place}
use Rattle.gmp_driver.specs.declared.place.Place.TheVariants as place
use Rattle.gmp_driver.specs.declared.registers.HeldParts.{HeldParts}
use Rattle.gmp_driver.specs.declared.registers.Registers.{Registers}
use Rattle.gmp_driver.specs.declared.seen.Seen.{Seen}
use Rattle.gmp_driver.specs.Fits.{SuitsPlace}
use Rattle.gmp_driver.specs.Machine.{Machine, held_at}
use Rattle.gmp_driver.specs.Seen.{seen}
use Rattle.gmp_driver.specs.Table.{act_at, claim_call, next_act, put_call}
use Rattle.gmp_acts.specs.Hands.{plain_machine}
use Rattle.gmp_acts.specs.System.{machine_at}
use Rattle.gmp_core.specs.Inside.{IsCore, Parts, system_of}
use Rattle.gmp_core.specs.Whole.{is_of_body, wanted_by}
use Rattle.gmp_core.proofs.Tying.{agrees, machine_is}

looks : (b : Bool) → is_of_body (wanted_by (if b then act.Clock None else act.Pop)) ≡ false
looks true = refl
looks false = refl

puts : (r : Option Readiness) → is_of_body (wanted_by (put_call r)) ≡ false
puts None = refl
puts (Some r) = refl

claims : (b : Bool) (r : Option Readiness) → is_of_body (wanted_by (if b then act.Call call.Poke else claim_call r)) ≡ false
claims true r = refl
claims false None = refl
claims false (Some r) = refl

runs : {T : Type 0} (h : Option (HeldParts T)) → is_some h ≡ true → true ≡ is_some (held_at place.Run h)
runs None e = sym e
runs (Some h) e = refl

-- a body is in hand exactly where the act reads of it
reads : {T Q : Type 0} (x : Seen) (here : Place) (hand : Registers T Q) → SuitsPlace here hand → is_of_body (wanted_by (act_at x here)) ≡ is_some (held_at here hand.held)
reads x place.Start hand f = refl
reads x place.Look hand f = looks _
reads x (place.Ticking now) hand f = refl
reads x place.Keep hand f = refl
reads x place.Glance hand f = refl
reads x (place.Peek v) hand f = refl
reads x place.Drain hand f = refl
reads x place.PutDrain hand f = puts x.to_store
reads x place.Global hand f = refl
reads x place.Spin hand f = refl
reads x (place.Hunt None) hand f = refl
reads x (place.Hunt (Some r)) hand f = refl
reads x (place.More v goal) hand f = refl
reads x (place.StoreMore v goal) hand f = refl
reads x (place.PutMore v goal) hand f = puts x.to_store
reads x place.Unspin hand f = refl
reads x place.Claim hand f = claims x.fresh x.to_claim
reads x place.Run hand f = runs hand.held f.has_held
reads x (place.Do asked) hand f = refl
reads x place.Store hand f = refl
reads x place.PutStore hand f = puts x.to_store
reads x place.Poke hand f = refl
reads x place.Block hand f = refl
reads x (place.Leave number) hand f = refl
reads x place.Drop hand f = refl
reads x place.Bare hand f = refl
reads x (place.Scan v) hand f = refl
reads x place.Have hand f = refl
reads x place.PutHave hand f = puts x.to_claim
reads x place.Park hand f = refl
reads x place.Rest hand f = refl
reads x (place.Mind deadline) hand f = refl
reads x (place.MindTick now) hand f = refl
reads x place.Over hand f = refl
reads x place.Done hand f = refl

pub reads_of_body : {T : Type 0} (c : Parts T) (m : MNo) (x : Machine T Unit) → slice_get c.machines m.0 ≡ Some x → IsCore c
    → is_of_body (wanted_by (next_act (machine_at (system_of c) m))) ≡ is_some (held_at (machine_at (system_of c) m).place (machine_at (system_of c) m).hand.held)
reads_of_body c m x is core =
    let mine = agrees core.out c m x is core.sound in
    rw (machine_is c m x is) (reads (seen (plain_machine x)) x.place (plain_machine x).hand (mine.driver.fits (ap is_some mine.has_pass)))
