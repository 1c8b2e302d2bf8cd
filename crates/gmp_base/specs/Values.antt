-- What a value that must be spent stands for.
use Rattle.std.specs.Prelude.{ℕ}
use Rattle.gmp_base.specs.declared.number.Readiness.{Readiness}
use Rattle.gmp_base.specs.declared.value.Ticket.{Ticket}

-- the readiness that a ticket is of
abbrev pub readiness_of : Ticket → Readiness
readiness_of t = record { g = t.g; epoch = t.epoch }

-- the ticket of this readiness that a run gives out
abbrev pub ticket_by : ℕ → Readiness → Ticket
ticket_by run r = record { run = run; g = r.g; epoch = r.epoch }
