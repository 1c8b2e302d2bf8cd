-- What a machine hands its call suits the call.
use Rattle.std.proofs.Common.{◌≡◌, ℕ, true, is_some, Option, None, Some, refl, ap}
use Rattle.std.specs.Option.{option_map}
use Rattle.std.proofs.lemmas.Bool.{false≢true}
use Rattle.gmp_base.specs.declared.number.Readiness.{Readiness}
use Rattle.gmp_base.specs.declared.pass.Pass.{Pass}
use Rattle.gmp_seq.specs.declared.call.Call.{Call}
use Rattle.gmp_seq.specs.declared.call.Call.TheVariants as call
use Rattle.gmp_journal.specs.declared.handed.Handed.{Handed}
use Rattle.gmp_journal.specs.Grants.{Suits}
use Rattle.gmp_book.specs.Hands.{handed_of}
use Rattle.gmp_driver.specs.declared.act.Act.TheVariants as act
use Rattle.gmp_driver.specs.declared.registers.CalledParts.{CalledParts}
use Rattle.gmp_driver.specs.declared.registers.HeldParts.{HeldParts}
use Rattle.gmp_driver.specs.declared.registers.ProcParts.{ProcParts}
use Rattle.gmp_driver.specs.declared.registers.Registers.{Registers}
use Rattle.gmp_driver.specs.Loads.{load_of}
use Rattle.gmp_driver.specs.Registers.{first_of, used}
use Rattle.gmp_driver.specs.Uses.{Uses}
use Rattle.gmp_turn.specs.Turns.{values_in}

pub some_of : {A : Type 0} (o : Option A) → is_some o ≡ true → (x : A) × (o ≡ Some x)
some_of None h = absurd (false≢true h)
some_of (Some x) h = (x, refl)

abbrev a_ticket : ℕ → Option Readiness → Handed
a_ticket run o = record { ticket = option_map (λ (r : Readiness). (run, r)) o; held = None; called = None; proc = None }

module _ {T Q : Type 0} (run : ℕ) (pass : Pass) where
  abbrev Given : Call → Registers T Q → Type 0
  Given c hand = Suits c (handed_of (values_in (load_of run pass (used (act.Call c) hand))))

  puts : (p : Option (ProcParts Q)) (h : Option (HeldParts T)) (c : Option (CalledParts T)) (t s : Option Readiness) (r : Readiness) → first_of s t ≡ Some r
      → Given (call.Put r) (record { processor = p; held = h; called = c; to_claim = t; to_store = s })
  puts p h c t (Some x) r e = (run, ap (a_ticket run) e)
  puts p h c (Some x) None r e = (run, ap (a_ticket run) e)
  puts p h c None None r e = absurd cc

  asks : (hand : Registers T Q) (h : HeldParts T) → hand.held ≡ Some h → Given call.Yield hand
  asks hand h e = (run, h.g, rw e refl)

  enters : (hand : Registers T Q) (h : HeldParts T) (p : ProcParts Q) → hand.held ≡ Some h → hand.processor ≡ Some p → Given call.Enter hand
  enters hand h p e of = (run, h.g, run, p.p, rw (e, of) refl)

  leaves : (number : ℕ) (hand : Registers T Q) (c : CalledParts T) → hand.called ≡ Some c → Given (call.Leave number) hand
  leaves number hand c e = (run, c.g, rw e refl)

  declares : (hand : Registers T Q) (p : ProcParts Q) → hand.processor ≡ Some p → Given call.Declare hand
  declares hand p e = (run, p.p, rw e refl)

  pub suits : (c : Call) (hand : Registers T Q) → Uses c hand → Given c hand
  suits call.Acquire hand u = refl
  suits call.Take hand u = refl
  suits (call.Put r) hand u = puts hand.processor hand.held hand.called hand.to_claim hand.to_store r u
  suits (call.Claim r) hand u = (run, rw u.0 refl)
  suits call.Enter hand u = (let h = some_of hand.held u.0 in let p = some_of hand.processor u.1 in enters hand h.0 p.0 h.1 p.1)
  suits (call.Leave number) hand u = (let w = some_of hand.called u.0 in leaves number hand w.0 w.1)
  suits call.Declare hand u = (let w = some_of hand.processor u.2 in declares hand w.0 w.1)
  suits call.Spin hand u = refl
  suits call.Woken hand u = refl
  suits call.Keep hand u = refl
  suits call.Unspin hand u = refl
  suits call.Poke hand u = refl
  suits call.Bare hand u = refl
  suits call.Park hand u = refl
  suits (call.Tick moment) hand u = refl
  suits _ hand u = (let w = some_of hand.held u.0 in asks hand w.0 w.1)
