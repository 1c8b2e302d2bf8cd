-- What is read as a trace, and what commands say of it.
use Rattle.std.specs.Prelude.{◌≡◌, ◌<◌, ◌≤◌, ◌⊎◌, ℕ, true, false, List, Option, None, Some, IfSome, length}
use Rattle.gmp_trace.specs.declared.bad.Bad.{Bad}
use Rattle.gmp_trace.specs.HasText.{HasText}
use Rattle.gmp_trace.specs.Reading.{IsFault}
use Rattle.gmp_trace.specs.Text.{Content, text}
use Rattle.gmp_check.specs.Checked.{IsFirstBad}
use Rattle.gmp_parts.specs.Parts.{IsRightTrace}
use Rattle.gmp_words.specs.Said.{is_of_input, is_of_line}
use Rattle.gmp_words.specs.declared.reading.TheConstants.{MAX_TRACE}
use Rattle.gmp_words.specs.declared.said.Said.{Said}
use Rattle.gmp_words.specs.declared.said.Said.TheVariants.{BadTrace, InputTooLong, Nothing}

-- these bytes are its text
abbrev pub IsRead : List ℕ → Content → Type 0
IsRead bytes x = bytes ≡ text x

-- they are the text of a right trace
abbrev pub HasRightTrace : List ℕ → Type 0
HasRightTrace bytes = (x : Content) × IsRightTrace x × IsRead bytes x

-- no right trace has these bytes as its text
abbrev pub HasNoRightTrace : List ℕ → Type 0
HasNoRightTrace bytes = (x : Content) → IsRightTrace x → IsRead bytes x → ⊥

-- A check finds it wrong, first at this line.
pub record IsFoundWrong (x : Content) (bad : Bad) : Type 0 where
  pub first : IsFirstBad x bad
  pub exact : IsRightTrace x → ⊥
  pub word : is_of_line bad.why ≡ true

-- what a check finds of a trace: the first wrong line, or that it is right
abbrev pub IsJudged : Content → Option Bad → Type 0
IsJudged x None = IsRightTrace x
IsJudged x (Some bad) = IsFoundWrong x bad

-- the bytes are the text of a trace whose first wrong line is this
pub record IsWrongTrace (bytes : List ℕ) (bad : Bad) : Type 0 where
  pub trace : Content
  pub has_text : HasText trace
  pub read : IsRead bytes trace
  pub wrong : IsFirstBad trace bad

-- the first bad line of these bytes, and its word: of a text that is no trace's, or of a trace that is not right
abbrev pub IsBadLine : List ℕ → Bad → Type 0
IsBadLine bytes bad = IsFault bytes bad.line bad.why ⊎ IsWrongTrace bytes bad

-- the bytes are the text of no right trace, and this is their first bad line
pub record IsWrong (bytes : List ℕ) (bad : Bad) : Type 0 where
  pub first : IsBadLine bytes bad
  pub exact : HasNoRightTrace bytes

-- what is said of a trace whose first wrong line is this, or that has none
abbrev pub said_of : Option Bad → Said
said_of None = Nothing
said_of (Some bad) = BadTrace bad

-- What each command may say of the input that it reads as a trace: that a line is bad, where it is the first bad one of a text that is no
-- right trace's; that it is too long, where it is. Unless it says that the input was not had, the input is short enough.
pub record SaysOfTrace (input : Option (List ℕ)) (said : Said) : Type 0 where
  pub wrong : (bad : Bad) → said ≡ BadTrace bad → IfSome input (λ all. IsWrong all bad)
  pub too_long : said ≡ InputTooLong → IfSome input (λ all. MAX_TRACE < length all)
  pub short : is_of_input said ≡ false → IfSome input (λ all. length all ≤ MAX_TRACE)
