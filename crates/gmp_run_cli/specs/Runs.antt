-- What `run` writes.
use Rattle.std.specs.Prelude.{◌≡◌, ◌≢◌, ℕ, All, Bool, true, List, Option, IfSome, length}
use Rattle.gmp_trace.specs.declared.trace.End.TheVariants.{Running}
use Rattle.gmp_trace.specs.HasText.{HasText}
use Rattle.gmp_trace.specs.Text.{Content}
use Rattle.gmp_script.specs.Lines.{lines, IsScript}
use Rattle.gmp_script.specs.Script.{Commands}
use Rattle.gmp_step_laws.specs.Refused.{HasNoMake}
use Rattle.gmp_words.specs.declared.options.Settings.{Settings}
use Rattle.gmp_words.specs.declared.said.Said.{Said}
use Rattle.gmp_words.specs.declared.said.Said.TheVariants as said
use Rattle.gmp_words.specs.Said.{is_of_step}
use Rattle.gmp_words.specs.Runs.{IsTraceOf, limits_of, status_of}
use Rattle.gmp_run_cli.specs.Told.{IsOfScript, IsOfScriptButMakes, IsPrinted}

-- What was written is the text or the summary of the trace of a legal run by the script's bodies, which ended, and the status tells how. Where
-- the audit is asked for (`--scripted`), it is one that passes over no make.
pub record WritesTraceOrSummary (s : Settings) (capacities : List ℕ) (script : List Commands) (status : ℕ) (old new : Option (List ℕ)) : Type 0 where
  pub trace : Content
  pub legal : IsTraceOf (limits_of s) capacities trace
  pub stock : trace.bodies ≡ length script
  pub said : IsOfScriptButMakes (limits_of s) capacities script trace.entries
  pub scripted : s.scripted ≡ true → IsOfScript (limits_of s) capacities script trace.entries
  pub over : trace.end ≢ Running
  pub has_text : HasText trace
  pub written : IsPrinted s.trace trace old new
  pub told : status ≡ status_of trace.end

-- the same of the script that was read
pub record WritesReport (s : Settings) (input : Option (List ℕ)) (status : ℕ) (old new : Option (List ℕ)) : Type 0 where
  pub capacities : List ℕ
  pub readings : List ℕ
  pub bodies : List Commands
  pub script : IfSome input (λ all. IsScript (lines all) capacities readings bodies)
  pub writes : WritesTraceOrSummary s capacities bodies status old new

-- a goroutine of the script that was read makes a channel
pub record HasMakes (all : List ℕ) : Type 0 where
  pub capacities : List ℕ
  pub readings : List ℕ
  pub bodies : List Commands
  pub script : IsScript (lines all) capacities readings bodies
  pub some : ¬ (All HasNoMake bodies)

-- what may be said by `run`
abbrev pub is_of_threads : Said → Bool
is_of_threads (said.Mismatch m) = true
is_of_threads said.NoRun = true
is_of_threads other = is_of_step other
