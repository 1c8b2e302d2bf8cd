-- The names that most of these proofs cite, passed on from one place. Declares nothing.
pub use Rattle.std.proofs.Common.{◌≡◌, ◌↔◌, ℕ, ◌+◌, ◌^◌, ◌<◌, ◌≤◌, ◌==◌, Bool, true, false, not, ◌||◌, ◌&&◌, if◌then◌else◌, is_some, Option, None, Some, List, [], ◌∷◌, ◌++◌, length, slice_get, refl, sym, ap, subst, inl, inr, ◌∙◌, arith, rules}
pub use Rattle.std.proofs.lemmas.Bool.{and_parts, eq-eqb, eqb-true, false≢true, or_parts}
pub use Rattle.std.specs.Option.{option_map_or}
pub use Rattle.gmp_base.specs.declared.cases.Case.{Case}
pub use Rattle.gmp_base.specs.declared.cases.Case.TheVariants as case
pub use Rattle.gmp_base.specs.declared.number.CNo.{CNo}
pub use Rattle.gmp_base.specs.declared.number.GNo.{GNo}
pub use Rattle.gmp_base.specs.declared.number.MNo.{MNo}
pub use Rattle.gmp_base.specs.declared.number.PNo.{PNo}
pub use Rattle.gmp_base.specs.declared.number.Readiness.{Readiness}
pub use Rattle.gmp_base.specs.declared.pass.Pass.{Pass}
pub use Rattle.gmp_base.specs.declared.refusal.Refusal.{Refusal}
pub use Rattle.gmp_seq.specs.declared.call.Call.{Call}
pub use Rattle.gmp_seq.specs.declared.call.Limits.{Limits}
pub use Rattle.gmp_seq.specs.declared.call.Outcome.{Outcome}
pub use Rattle.gmp_seq.specs.declared.call.Reply.{Reply}
pub use Rattle.gmp_seq.specs.declared.status.Goroutine.{Goroutine}
pub use Rattle.gmp_seq.specs.declared.status.Mode.{Mode}
pub use Rattle.gmp_seq.specs.declared.status.Status.{Status}
pub use Rattle.gmp_seq.specs.Laws.{IsInOrder}
pub use Rattle.gmp_seq.specs.Machines.{Enters, Holds, IsAwake, IsParked}
pub use Rattle.gmp_seq.specs.State.{State}
pub use Rattle.gmp_seq.specs.Table.{Table, IsCalling, IsReady, IsRunning, RunsNothing, is_calling_on, is_running_on, some_status, status_at}
pub use Rattle.gmp_journal.specs.declared.handed.Handed.{Handed}
pub use Rattle.gmp_journal.specs.Grants.{Grants, Suits}
pub use Rattle.gmp_journal.specs.Handed.{goroutine_in, names_other, processor_in}
pub use Rattle.gmp_journal.specs.JournalView.{log_of}
pub use Rattle.gmp_journal.specs.Log.{Log, entries_made}
pub use Rattle.gmp_journal.specs.Refusals.{IsAllowed, IsCurrent, need_lines, turn_lines}
