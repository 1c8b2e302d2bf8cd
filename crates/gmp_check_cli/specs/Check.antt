-- What `check` writes.
use Rattle.std.specs.Prelude.{ℕ, List, Option, IfSome}
use Rattle.std.specs.Io.KnownBytes.{Appends}
use Rattle.gmp_trace.specs.Summary.{summary_text}
use Rattle.gmp_trace.specs.Text.{Content}
use Rattle.gmp_parts.specs.Parts.{IsRightTrace}
use Rattle.gmp_judge.specs.Judged.{IsRead}

-- What was read is the text of a right trace, and what was written is that trace's summary.
pub record WritesSummary (input old new : Option (List ℕ)) : Type 0 where
  pub trace : Content
  pub right : IsRightTrace trace
  pub read : IfSome input (λ all. IsRead all trace)
  pub written : Appends old new (summary_text trace)
