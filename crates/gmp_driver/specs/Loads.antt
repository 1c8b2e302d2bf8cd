-- What an act is handed, from the parts that the machine keeps, and the parts of what comes back.
use Rattle.std.specs.Prelude.{◌≡◌, ℕ, IfSome}
use Rattle.std.specs.Option.{option_map}
use Rattle.gmp_base.specs.declared.pass.Pass.{Pass}
use Rattle.gmp_base.specs.declared.value.Called.{Called}
use Rattle.gmp_base.specs.declared.value.Held.{Held}
use Rattle.gmp_base.specs.declared.value.Proc.{Proc}
use Rattle.gmp_base.specs.Values.{readiness_of, ticket_by}
use Rattle.gmp_driver.specs.declared.load.Load.{Load}
use Rattle.gmp_driver.specs.declared.registers.CalledParts.{CalledParts}
use Rattle.gmp_driver.specs.declared.registers.HeldParts.{HeldParts}
use Rattle.gmp_driver.specs.declared.registers.ProcParts.{ProcParts}
use Rattle.gmp_driver.specs.declared.registers.Registers.{Registers}

-- Values of a run, from their parts

abbrev pub held_of : {T : Type 0} → ℕ → HeldParts T → Held T
held_of run x = record { run = run; g = x.g; woke = x.woke; body = x.body }

abbrev pub called_of : {T : Type 0} → ℕ → CalledParts T → Called T
called_of run x = record { run = run; g = x.g; body = x.body }

abbrev pub proc_of : {Q : Type 0} → ℕ → ProcParts Q → Proc Q
proc_of run x = record { run = run; p = x.p; owner = x.owner }

-- what an act is handed
abbrev pub load_of : {T Q : Type 0} → ℕ → Pass → Registers T Q → Load T Q
load_of run pass hand = record {
  pass = pass;
  held = option_map (held_of run) hand.held;
  called = option_map (called_of run) hand.called;
  to_claim = option_map (ticket_by run) hand.to_claim;
  to_store = option_map (ticket_by run) hand.to_store;
  proc = option_map (proc_of run) hand.processor;
}

-- Their parts

abbrev pub held_parts : {T : Type 0} → Held T → HeldParts T
held_parts x = record { g = x.g; woke = x.woke; body = x.body }

abbrev pub called_parts : {T : Type 0} → Called T → CalledParts T
called_parts x = record { g = x.g; body = x.body }

abbrev pub proc_parts : {Q : Type 0} → Proc Q → ProcParts Q
proc_parts x = record { p = x.p; owner = x.owner }

-- what came, in plain parts
abbrev pub parts_of : {T Q : Type 0} → Load T Q → Registers T Q
parts_of load = record {
  processor = option_map proc_parts load.proc;
  held = option_map held_parts load.held;
  called = option_map called_parts load.called;
  to_claim = option_map readiness_of load.to_claim;
  to_store = option_map readiness_of load.to_store;
}

-- the pass and all values are of the run
pub record IsOfRun {T Q : Type 0} (number : ℕ) (load : Load T Q) : Type 0 where
  pub pass : load.pass.run ≡ number
  pub held : IfSome load.held (λ x. x.run ≡ number)
  pub called : IfSome load.called (λ x. x.run ≡ number)
  pub to_claim : IfSome load.to_claim (λ x. x.run ≡ number)
  pub to_store : IfSome load.to_store (λ x. x.run ≡ number)
  pub proc : IfSome load.proc (λ x. x.run ≡ number)
