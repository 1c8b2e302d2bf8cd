-- What an act is handed is of the run.
use Rattle.std.proofs.Common.{◌≡◌, ℕ, Option, None, Some, IfSome, refl}
use Rattle.std.specs.Option.{option_map}
use Rattle.gmp_base.specs.declared.number.Readiness.{Readiness}
use Rattle.gmp_base.specs.declared.pass.Pass.{Pass}
use Rattle.gmp_base.specs.Values.{ticket_by}
use Rattle.gmp_driver.specs.Loads.{IsOfRun, called_of, held_of, load_of, proc_of}
use Rattle.gmp_driver.specs.declared.registers.CalledParts.{CalledParts}
use Rattle.gmp_driver.specs.declared.registers.HeldParts.{HeldParts}
use Rattle.gmp_driver.specs.declared.registers.ProcParts.{ProcParts}
use Rattle.gmp_driver.specs.declared.registers.Registers.{Registers}

held_is : {T : Type 0} (run : ℕ) (o : Option (HeldParts T)) → IfSome (option_map (held_of run) o) (λ x. x.run ≡ run)
held_is run None = tt
held_is run (Some x) = refl

called_is : {T : Type 0} (run : ℕ) (o : Option (CalledParts T)) → IfSome (option_map (called_of run) o) (λ x. x.run ≡ run)
called_is run None = tt
called_is run (Some x) = refl

ticket_is : (run : ℕ) (o : Option Readiness) → IfSome (option_map (ticket_by run) o) (λ x. x.run ≡ run)
ticket_is run None = tt
ticket_is run (Some x) = refl

proc_is : {Q : Type 0} (run : ℕ) (o : Option (ProcParts Q)) → IfSome (option_map (proc_of run) o) (λ x. x.run ≡ run)
proc_is run None = tt
proc_is run (Some x) = refl

pub of_run : {T Q : Type 0} (run : ℕ) (pass : Pass) (hand : Registers T Q) → pass.run ≡ run → IsOfRun run (load_of run pass hand)
of_run run pass hand is = record {
  pass = is;
  held = held_is run hand.held;
  called = called_is run hand.called;
  to_claim = ticket_is run hand.to_claim;
  to_store = ticket_is run hand.to_store;
  proc = proc_is run hand.processor;
}
