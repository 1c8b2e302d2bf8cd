-- What `cut` says and writes.
use Rattle.std.specs.Prelude.{ℕ, List, Option, IfSome}
use Rattle.std.specs.Io.KnownBytes.{Appends}
use Rattle.gmp_trace.specs.Text.{Content, text}
use Rattle.gmp_check.specs.Parts.{IsPart, IsPast}
use Rattle.gmp_parts.specs.Parts.{IsRightTrace}
use Rattle.gmp_judge.specs.Judged.{IsRead}

-- What was read is the text of a right trace, and what was written is the text of its part from this entry on, which is right too.
pub record WritesPart (at : ℕ) (input old new : Option (List ℕ)) : Type 0 where
  pub trace : Content
  pub right : IsRightTrace trace
  pub read : IfSome input (λ all. IsRead all trace)
  pub part : Content
  pub cut : IsPart trace at part
  pub right_too : IsRightTrace part
  pub written : Appends old new (text part)

-- they are the text of a right trace that has a part from this entry on
pub record HasPart (at : ℕ) (bytes : List ℕ) : Type 0 where
  pub trace : Content
  pub right : IsRightTrace trace
  pub read : IsRead bytes trace
  pub within : IsPast trace at → ⊥

-- they are the text of a right trace that has no part from this entry on
pub record HasNoPart (at : ℕ) (bytes : List ℕ) : Type 0 where
  pub trace : Content
  pub right : IsRightTrace trace
  pub read : IsRead bytes trace
  pub past : IsPast trace at
