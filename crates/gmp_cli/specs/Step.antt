-- What `step` writes.
use Rattle.std.specs.Prelude.{◌≡◌, ℕ, List, Option, IfSome, length}
use Rattle.std.specs.Io.KnownBytes.{Appends}
use Rattle.gmp_script.specs.Lines.{lines, IsScript}
use Rattle.gmp_script.specs.Script.{Commands}
use Rattle.gmp_trace.specs.HasText.{HasText}
use Rattle.gmp_trace.specs.Text.{Content, text, end_of}
use Rattle.gmp_words.specs.declared.options.Settings.{Settings}
use Rattle.gmp_words.specs.Runs.{IsTraceOf, limits_of, status_of}
use Rattle.gmp_cli.specs.Plays.{IsPlayed, Stage, opening_stage}

-- The trace of the core's run under these bodies, by these readings of the clock.
pub record IsRunOf (s : Settings) (capacities readings : List ℕ) (bodies : List Commands) (x : Content) : Type 0 where
  pub stock : x.bodies ≡ length bodies
  pub last : Stage
  pub played : IsPlayed s.acts s.word (opening_stage s.fair (limits_of s) capacities readings bodies) last
  pub entries : x.entries ≡ last.core.system.book.history
  pub ended : x.end ≡ end_of last.core.system.book.state.outcome

-- What was written is the text of the trace of a legal run, which is the core's run under these bodies, and the status tells its end.
pub record WritesRun (s : Settings) (capacities readings : List ℕ) (bodies : List Commands) (status : ℕ) (old new : Option (List ℕ)) : Type 0 where
  pub trace : Content
  pub legal : IsTraceOf (limits_of s) capacities trace
  pub run : IsRunOf s capacities readings bodies trace
  pub has_text : HasText trace
  pub written : Appends old new (text trace)
  pub told : status ≡ status_of trace.end

-- the same of the script that was read
pub record WritesTrace (s : Settings) (input : Option (List ℕ)) (status : ℕ) (old new : Option (List ℕ)) : Type 0 where
  pub capacities : List ℕ
  pub readings : List ℕ
  pub bodies : List Commands
  pub script : IfSome input (λ all. IsScript (lines all) capacities readings bodies)
  pub writes : WritesRun s capacities readings bodies status old new
