-- The words of worked traces.
use Rattle.std.proofs.Common.{◌≡◌, ◌<◌, ◌≤◌, ◌⊎◌, ℕ, true, inl, inr, sym, ◌∙◌}
use Rattle.std.specs.Prelude.{nat_lt}
use Rattle.std.proofs.lemmas.Bool.{cases_lt, false≢true, le-ltb}
use Rattle.gmp_base.specs.declared.number.CNo.{CNo}
use Rattle.gmp_base.specs.declared.number.GNo.{GNo}
use Rattle.gmp_base.specs.declared.number.MNo.{MNo}
use Rattle.gmp_base.specs.declared.number.PNo.{PNo}
use Rattle.gmp_base.specs.declared.number.Readiness.{Readiness}
use Rattle.gmp_seq.specs.declared.call.Call.{Call}
use Rattle.gmp_seq.specs.declared.call.Entry.{Entry}
use Rattle.gmp_seq.specs.declared.call.Limits.{Limits}
use Rattle.gmp_seq.specs.declared.call.Reply.{Reply}
use Rattle.gmp_seq.specs.declared.status.Goroutine.{Goroutine}
use Rattle.gmp_seq.specs.declared.status.Status.{Status}

abbrev pub goroutine : ℕ → GNo
goroutine g = record { 0 = g }

abbrev pub machine : ℕ → MNo
machine m = record { 0 = m }

abbrev pub processor : ℕ → PNo
processor p = record { 0 = p }

abbrev pub channel : ℕ → CNo
channel c = record { 0 = c }

abbrev pub ticket : ℕ → ℕ → Readiness
ticket g epoch = record { g = goroutine g; epoch = epoch }

abbrev pub entry : ℕ → ℕ → Call → Reply → Entry
entry m k c r = record { m = machine m; k = k; call = c; reply = r }

-- a goroutine that does this, with its epoch
abbrev pub does : Status → ℕ → Goroutine
does status epoch = record { status = status; epoch = epoch }

abbrev pub limits : ℕ → ℕ → ℕ → ℕ → Limits
limits procs machines channels entries = record { procs = procs; machines = machines; channels = channels; entries = entries; room = entries }

-- a number that is below another by the test
pub under : {p n : ℕ} → nat_lt p n ≡ true → p < n
under {p} {n} e = by_place (cases_lt p n)
  where
    by_place : (p < n) ⊎ (n ≤ p) → p < n
    by_place (inl l) = l
    by_place (inr past) = absurd (false≢true (sym (le-ltb p n past) ∙ e))
