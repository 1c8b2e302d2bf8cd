use Rattle.std.proofs.Common.{ℕ, ◌<◌}
use Rattle.gmp_history.specs.Audit.{AgreesWithLogs}
use Rattle.gmp_history.proofs.auditing.audit.Given as goal

abbrev pub invariant-loop-m : goal.invariant-loop-m
invariant-loop-m l = (m : ℕ) → m < l.m → AgreesWithLogs l.history.list l.logs m
