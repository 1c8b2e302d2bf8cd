-- What is printed of a run in threads, and what its audit says.
use Rattle.std.specs.Prelude.{◌≡◌, ◌<◌, ◌^◌, ℕ, Bool, true, false, List, Option, length}
use Rattle.gmp_seq.specs.declared.call.Entry.{Entry}
use Rattle.gmp_seq.specs.declared.call.Limits.{Limits}
use Rattle.gmp_seq.specs.Fits.{AreLimits}
use Rattle.gmp_seq.specs.State.{State}
use Rattle.gmp_scene.specs.Reached.{IsRunOf}
use Rattle.gmp_scene.specs.Scripted.{Speakers}
use Rattle.gmp_script.specs.Script.{Commands}
use Rattle.gmp_step_laws.specs.Refused.{IsRunButMakes}
use Rattle.std.specs.Io.KnownBytes.{Appends}
use Rattle.gmp_base.specs.declared.number.MNo.{MNo}
use Rattle.gmp_base.specs.declared.refusal.Refusal.{Refusal}
use Rattle.gmp_base.specs.declared.refusal.Refusal.TheVariants as refusal
use Rattle.gmp_trace.specs.Summary.{summary_text}
use Rattle.gmp_trace.specs.Text.{Content, end_of, text}
use Rattle.gmp_trace.specs.Text.Begins.{AtOpening}
use Rattle.gmp_trace.specs.declared.trace.End.{End}
use Rattle.gmp_history.specs.Audit.{AgreesWithLogs, IsMismatch}
use Rattle.gmp_history.specs.declared.auditing.Mismatch.{Mismatch}
use Rattle.gmp_run.specs.declared.ending.Report.{Report}
use Rattle.gmp_words.specs.declared.said.Said.{Said}
use Rattle.gmp_words.specs.declared.said.Said.TheVariants as said
use Rattle.gmp_words.specs.Runs.{status_of}

-- the trace of a report, of a run that was opened with these capacities
abbrev pub trace_of : {T : Type 0} → List ℕ → Report T → Content
trace_of capacities r =
    record { limits = r.limits; bodies = length r.bodies.items; begins = AtOpening capacities; entries = r.history.list; end = end_of r.outcome }

-- the trace's text went out where it is asked for, and else its summary
abbrev pub IsPrinted : Bool → Content → Option (List ℕ) → Option (List ℕ) → Type 0
IsPrinted true x old new = Appends old new (text x)
IsPrinted false x old new = Appends old new (summary_text x)

-- each machine's logs say how many of the entries are its own
abbrev pub AllAgree : {T : Type 0} → Report T → Type 0
AllAgree r = (m : ℕ) → m < 2 ^ 8 → AgreesWithLogs r.history.list r.logs.items m

-- m is the least machine whose logs don't
abbrev pub IsLeast : {T : Type 0} → Report T → MNo → Type 0
IsLeast r m = (e : Mismatch) × IsMismatch r.history.list r.logs.items e × e.m ≡ m

-- The entries are a legal run by these bodies: each goroutine asks what its body says, in order and by what it is told, and its blocking calls
-- bring the numbers that its body says. It begins at the opening, and its limits are in range.
pub record IsOfScript (limits : Limits) (capacities : List ℕ) (script : List Commands) (entries : List Entry) : Type 0 where
  pub within : AreLimits limits (length script) capacities
  pub last : State
  pub after : Speakers
  pub run : IsRunOf limits capacities script entries last after

-- The entries are a legal run by these bodies from the opening, but that a body passes over each make that memory refused.
abbrev pub IsOfScriptButMakes : Limits → List ℕ → List Commands → List Entry → Type 0
IsOfScriptButMakes limits capacities script entries = ∥ ((last : State) × (after : Speakers) × IsRunButMakes limits capacities script entries last after) ∥₁

-- every machine agrees, and the trace or the summary of the run, which ended so, was written
pub record Prints {T : Type 0} (shows_trace : Bool) (capacities : List ℕ) (r : Report T) (end : End) (old new : Option (List ℕ)) : Type 0 where
  pub agree : AllAgree r
  pub written : IsPrinted shows_trace (trace_of capacities r) old new
  pub ended : end ≡ end_of r.outcome

-- the same, and the status tells the end
abbrev pub TellsEnd : {T : Type 0} → Bool → List ℕ → Report T → ℕ → Option (List ℕ) → Option (List ℕ) → Type 0
TellsEnd shows_trace capacities r status old new = (end : End) × Prints shows_trace capacities r end old new × status ≡ status_of end

-- what is said of a run that was not begun
abbrev pub said_of_unrun : Refusal → Said
said_of_unrun refusal.BadLimits = said.BadLimits
said_of_unrun _ = said.OutOfMemory

-- what may be said where the text was not written whole
abbrev pub is_of_print : Said → Bool
is_of_print said.OutputFailed = true
is_of_print said.OutOfMemory = true
is_of_print _ = false

-- what may be said where a run that ended is not printed
abbrev pub is_short : Said → Bool
is_short said.BadLimits = true
is_short (said.Mismatch m) = true
is_short said.NoRun = true
is_short other = is_of_print other

-- what may be said of a run that ended
abbrev pub is_of_report : Said → Bool
is_of_report said.Nothing = true
is_of_report other = is_short other
