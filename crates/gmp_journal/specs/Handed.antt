-- What the values that a call is handed are of: the run that each names, and its goroutine, readiness or processor.
use Rattle.std.specs.Prelude.{ℕ, ◌==◌, Bool, false, not, ◌||◌, Some, None}
use Rattle.std.specs.Option.{option_map_or}
use Rattle.gmp_base.specs.declared.number.GNo.{GNo}
use Rattle.gmp_base.specs.declared.number.PNo.{PNo}
use Rattle.gmp_base.specs.declared.number.Readiness.{Readiness}
use Rattle.gmp_base.specs.declared.value.Called.{Called}
use Rattle.gmp_base.specs.declared.value.Held.{Held}
use Rattle.gmp_base.specs.declared.value.Proc.{Proc}
use Rattle.gmp_base.specs.declared.value.Ticket.{Ticket}
use Rattle.gmp_base.specs.Values.{readiness_of}
use Rattle.gmp_journal.specs.declared.handed.Handed.{Handed}

abbrev pub nothing_handed : Handed
nothing_handed = record { ticket = None; held = None; called = None; proc = None }

-- a ticket alone
abbrev pub ticket_handed : ℕ → Readiness → Handed
ticket_handed run r = record { ticket = Some (run, r); held = None; called = None; proc = None }

-- a goroutine that runs
abbrev pub held_handed : ℕ → GNo → Handed
held_handed run g = record { ticket = None; held = Some (run, g); called = None; proc = None }

-- a goroutine that runs, and a processor
abbrev pub held_and_proc_handed : ℕ → GNo → ℕ → PNo → Handed
held_and_proc_handed run g other p = record { ticket = None; held = Some (run, g); called = None; proc = Some (other, p) }

-- a goroutine that makes a blocking call
abbrev pub called_handed : ℕ → GNo → Handed
called_handed run g = record { ticket = None; held = None; called = Some (run, g); proc = None }

-- a processor alone
abbrev pub proc_handed : ℕ → PNo → Handed
proc_handed run p = record { ticket = None; held = None; called = None; proc = Some (run, p) }

-- The same by the values themselves

abbrev pub by_ticket : Ticket → Handed
by_ticket t = ticket_handed t.run (readiness_of t)

abbrev pub by_held : {T : Type 0} → Held T → Handed
by_held h = held_handed h.run h.g

abbrev pub by_held_and_proc : {T Q : Type 0} → Held T → Proc Q → Handed
by_held_and_proc h p = held_and_proc_handed h.run h.g p.run p.p

abbrev pub by_called : {T : Type 0} → Called T → Handed
by_called c = called_handed c.run c.g

abbrev pub by_proc : {Q : Type 0} → Proc Q → Handed
by_proc p = proc_handed p.run p.p

-- What the values name

-- a value names another run
abbrev pub names_other : ℕ → Handed → Bool
names_other run v =
    option_map_or (λ (x : ℕ × Readiness). not (x.0 == run)) v.ticket false
    || option_map_or (λ (x : ℕ × GNo). not (x.0 == run)) v.held false
    || option_map_or (λ (x : ℕ × GNo). not (x.0 == run)) v.called false
    || option_map_or (λ (x : ℕ × PNo). not (x.0 == run)) v.proc false

-- the goroutine that a value is of
abbrev pub goroutine_in : Handed → GNo
goroutine_in v = option_map_or (λ (x : ℕ × GNo). x.1) v.held (option_map_or (λ (x : ℕ × GNo). x.1) v.called (record { 0 = 0 }))

-- the processor that a value is of
abbrev pub processor_in : Handed → PNo
processor_in v = option_map_or (λ (x : ℕ × PNo). x.1) v.proc (record { 0 = 0 })
