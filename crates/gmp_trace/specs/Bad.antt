-- What is said of a bad line.
use Rattle.std.specs.Prelude.{ℕ, List, ◌++◌, codes, decimal}
use Rattle.gmp_trace.specs.declared.bad.Bad.{Bad}
use Rattle.gmp_trace.specs.declared.bad.Why.{Why}
use Rattle.gmp_trace.specs.declared.bad.Why.TheVariants as why

-- the word for what is wrong
abbrev pub word_of : Why → List ℕ
word_of why.Header = codes "header"
word_of why.Limits = codes "limits"
word_of why.Caps = codes "caps"
word_of why.Start = codes "start"
word_of why.Grammar = codes "grammar"
word_of why.Number = codes "number"
word_of why.End = codes "end"
word_of why.Extra = codes "extra"
word_of why.Step = codes "step"
word_of why.Outcome = codes "outcome"
word_of why.OutOfMemory = codes "out of memory"

-- its line and its word
abbrev pub bad_text : Bad → List ℕ
bad_text bad = codes "line " ++ (decimal bad.line ++ (codes ": " ++ word_of bad.why))
