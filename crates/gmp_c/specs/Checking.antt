-- What a check finds of a text.
use Rattle.std.specs.Prelude.{◌≡◌, ◌≢◌, ◌⊎◌, ℕ, List, Option}
use Rattle.gmp_seq.specs.declared.call.Outcome.{Outcome}
use Rattle.gmp_trace.specs.declared.bad.Bad.{Bad}
use Rattle.gmp_trace.specs.HasText.{HasText}
use Rattle.gmp_trace.specs.Reading.{IsFault}
use Rattle.gmp_trace.specs.Text.{Content, text}
use Rattle.gmp_check.specs.Checked.{IsFirstBad, IsRight}

-- it is the text of a right trace
pub record IsRightText (bytes : List ℕ) : Type 0 where
  pub trace : Content
  pub has_text : HasText trace
  pub is : bytes ≡ text trace
  pub outcome : Option Outcome
  pub right : IsRight trace outcome

-- it is the text of a trace, whose first wrong line this is
pub record IsWrongText (bytes : List ℕ) (bad : Bad) : Type 0 where
  pub trace : Content
  pub has_text : HasText trace
  pub is : bytes ≡ text trace
  pub first : IsFirstBad trace bad

-- this is the first bad line, of a text that is no trace's, or of a trace that is not right
pub record IsBadText (bytes : List ℕ) (line : ℕ) : Type 0 where
  pub bad : Bad
  pub here : bad.line ≡ line
  pub first : IsFault bytes bad.line bad.why ⊎ IsWrongText bytes bad

-- What a check answers of these bytes, by a number and a line: 0, they are the text of a right trace; 1, they are not, and this is the first bad
-- line; 28, memory was refused.
pub record IsJudged (bytes : List ℕ) (number line : ℕ) : Type 0 where
  pub right : number ≡ 0 → IsRightText bytes
  pub wrong : number ≡ 1 → IsBadText bytes line
  pub exact : IsRightText bytes → number ≢ 1
  pub kinds : (number ≡ 0) ⊎ (number ≡ 1) ⊎ (number ≡ 28)
