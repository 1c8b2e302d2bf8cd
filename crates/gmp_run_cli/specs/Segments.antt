-- What a run in segments writes.
use Rattle.std.specs.Prelude.{◌≡◌, ◌≢◌, ◌⊎◌, ℕ, Bool, true, false, List, [], ◌++◌, Option, Some, IsSome, IfSome, length}
use Rattle.std.specs.Io.KnownBytes.{Appends}
use Rattle.gmp_seq.specs.declared.call.Limits.{Limits}
use Rattle.gmp_script.specs.Lines.{lines, IsScript}
use Rattle.gmp_script.specs.Script.{Commands}
use Rattle.gmp_trace.specs.declared.trace.End.{End}
use Rattle.gmp_trace.specs.declared.trace.End.TheVariants.{Running}
use Rattle.gmp_trace.specs.Summary.{entries_line, outcome_line}
use Rattle.gmp_trace.specs.Text.{Content, end_of}
use Rattle.gmp_trace.specs.Text.Begins.{AtOpening}
use Rattle.gmp_check.specs.Checked.{start_of}
use Rattle.gmp_parts.specs.declared.error.PartError.{PartError}
use Rattle.gmp_parts.specs.declared.error.PartError.TheVariants as part_error
use Rattle.gmp_parts.specs.Parts.{AreInOrder, Parts, joined_text, parts_line, texts, whole}
use Rattle.gmp_parts.specs.Parts.Parts.{Then}
use Rattle.gmp_parts.specs.Writing.{Writing}
use Rattle.gmp_pieces.specs.Pieces.{Refuses, WritesLeft, pieces_of}
use Rattle.gmp_run.specs.declared.ending.Report.{Report}
use Rattle.gmp_run.specs.Counts.{all_calls}
use Rattle.gmp_run.specs.Desks.{IsCut}
use Rattle.gmp_words.specs.declared.said.Said.{Said}
use Rattle.gmp_words.specs.declared.said.Said.TheVariants as said
use Rattle.gmp_words.specs.Said.{is_of_step}
use Rattle.gmp_words.specs.Runs.{IsTraceOf, status_of}
use Rattle.gmp_run_cli.specs.Told.{IsOfScriptButMakes}

-- the parts as one trace, of a run that was opened with these capacities
abbrev pub opened : List ℕ → Parts → Content → Content
opened capacities parts last = record (whole parts last) { begins = AtOpening capacities }

-- What went out are the texts of right traces in order, the parts of a legal run by the script's bodies, which ended, cut where there was no room for
-- another entry. What was written are the lines by which `join` tells them, and the status tells the end.
pub record WritesParts (limits : Limits) (capacities : List ℕ) (script : List Commands) (status : ℕ) (before after old new : Option (List ℕ)) : Type 0 where
  pub parts : Parts
  pub last : Content
  pub in_order : AreInOrder (Then parts last)
  pub sized : IsCut limits (pieces_of (Then parts last))
  pub begun : start_of (whole parts last) ≡ start_of (opened capacities parts last)
  pub legal : IsTraceOf limits capacities (opened capacities parts last)
  pub stock : (whole parts last).bodies ≡ length script
  pub said : IsOfScriptButMakes limits capacities script (opened capacities parts last).entries
  pub over : last.end ≢ Running
  pub sent : Appends before after (texts (Then parts last))
  pub written : Appends old new (joined_text parts last)
  pub told : status ≡ status_of last.end

-- the same of the script that was read
pub record WritesSegments (limits : Limits) (input : Option (List ℕ)) (status : ℕ) (before after old new : Option (List ℕ)) : Type 0 where
  pub capacities : List ℕ
  pub readings : List ℕ
  pub bodies : List Commands
  pub script : IfSome input (λ all. IsScript (lines all) capacities readings bodies)
  pub writes : WritesParts limits capacities bodies status before after old new

-- What the run left was written as the last part, the run is over, there are as many entries as calls, and what was written tells how long it
-- is.
pub record TellsParts {T W : Type 0} (contents : W → Option (List ℕ)) (before : Writing W) (r : Report T) (after : Writing W) (end : End) (old new : Option (List ℕ)) : Type 0 where
  pub left : WritesLeft contents before r.history.list after
  pub ended : end ≡ end_of after.state.outcome
  pub over : end ≢ Running
  pub calls : after.entries ≡ all_calls r.logs.items
  pub told : Appends old new (outcome_line end ++ entries_line after.entries ++ parts_line after.parts)

-- What the run left was not written: it is said to be no step.
pub record LeavesNoStep {T W : Type 0} (before : Writing W) (r : Report T) (after : Writing W) : Type 0 where
  pub refused : Refuses before r.history.list after
  pub why : after.failed ≡ Some part_error.NoStep
  pub nothing : r.history.list ≡ [] → IsSome before.failed

-- What the run left was written as the last part, but the run is not over, or there are not as many entries as calls.
pub record FallsShort {T W : Type 0} (contents : W → Option (List ℕ)) (before : Writing W) (r : Report T) (after : Writing W) : Type 0 where
  pub left : WritesLeft contents before r.history.list after
  pub short : end_of after.state.outcome ≢ Running → after.entries ≡ all_calls r.logs.items → ⊥

-- Either of these: what was written is no run that is over.
abbrev pub IsNoRun : {T W : Type 0} → (W → Option (List ℕ)) → Writing W → Report T → Writing W → Type 0
IsNoRun contents before r after = LeavesNoStep before r after ⊎ FallsShort contents before r after

-- what is said where a part was not written
abbrev pub said_of_part : PartError → Said
said_of_part part_error.NoStep = said.NoRun
said_of_part part_error.OutOfMemory = said.OutOfMemory
said_of_part part_error.Device = said.OutputFailed

-- what may be said where parts were not written whole, or are no run
abbrev pub is_of_parts : Said → Bool
is_of_parts said.OutputFailed = true
is_of_parts said.OutOfMemory = true
is_of_parts said.NoRun = true
is_of_parts _ = false

-- what may be said of a run that was begun
abbrev pub is_of_end_in_parts : Said → Bool
is_of_end_in_parts said.Nothing = true
is_of_end_in_parts other = is_of_parts other

-- what may be said of a script that was read
abbrev pub is_of_run_in_parts : Said → Bool
is_of_run_in_parts said.BadLimits = true
is_of_run_in_parts other = is_of_end_in_parts other

-- what may be said by a run in segments
abbrev pub is_of_segments : Said → Bool
is_of_segments said.NoRun = true
is_of_segments other = is_of_step other
