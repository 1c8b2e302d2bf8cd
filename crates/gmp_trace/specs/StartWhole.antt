-- All lines of a start, and what is wrong with other texts.
use Rattle.std.specs.Prelude.{◌≡◌, ◌⊎◌, ℕ, ◌+◌, List, [], ◌∷◌, ◌++◌, None, length, sum}
use Rattle.gmp_seq.specs.declared.call.Limits.{Limits}
use Rattle.gmp_seq.specs.Laws.{FitsTogether}
use Rattle.gmp_seq.specs.State.{State}
use Rattle.gmp_trace.specs.declared.start.whole.Heads.{Heads}
use Rattle.gmp_trace.specs.StartForms.{AreLines, HasLines, IsLineFault, StartLine, lines_text, nothing_passed}
use Rattle.gmp_trace.specs.StartNext.{counts_line, head_line, machines_line, marked_line, procs_line, spinning_line}
use Rattle.gmp_trace.specs.StartText.{start_text}

-- these lines were read, and may stand there
pub record SoFar (limits : Limits) (bodies : ℕ) (text : List ℕ) (ls : List StartLine) (rest : List ℕ) : Type 0 where
  pub whole : text ≡ lines_text ls ++ rest
  pub right : AreLines limits bodies nothing_passed ls

-- the first six lines
abbrev pub six_lines : Heads → List StartLine
six_lines h =
    head_line h.head ∷ counts_line h.counts.items ∷ procs_line h.holders.items ∷ machines_line h.modes.items ∷ spinning_line h.spinning.items ∷ marked_line h.marked.items ∷ []

-- they were read, and may stand there
abbrev pub AreHeads : Limits → ℕ → List ℕ → Heads → List ℕ → Type 0
AreHeads limits bodies text h rest = SoFar limits bodies text (six_lines h) rest

-- the text begins with the lines of this state, which may stand there, and `begin`, and goes on so; line 3 says this number of entries
pub record AreStartLines (limits : Limits) (bodies made : ℕ) (text : List ℕ) (s : State) (rest : List ℕ) : Type 0 where
  pub whole : text ≡ start_text made s ++ rest
  pub lines : HasLines limits bodies made s

-- a run may go on from the state, and its lines can say it
pub record IsStart (limits : Limits) (bodies : ℕ) (s : State) : Type 0 where
  pub lines : HasLines limits bodies (sum s.counts) s
  pub lasts : s.outcome ≡ None
  pub together : FitsTogether limits s

-- the text begins with the lines of this start, and goes on so
pub record IsStartText (limits : Limits) (bodies : ℕ) (text : List ℕ) (s : State) (rest : List ℕ) : Type 0 where
  pub whole : text ≡ start_text (sum s.counts) s ++ rest
  pub start : IsStart limits bodies s

-- All lines are right, and `begin` is bad: the counts don't add up to the number of entries that line 3 says, or the parts don't fit together.
pub record IsBeginFault (limits : Limits) (bodies : ℕ) (text : List ℕ) (line : ℕ) : Type 0 where
  pub made : ℕ
  pub state : State
  pub rest : List ℕ
  pub lines : AreStartLines limits bodies made text state rest
  pub lasts : state.outcome ≡ None
  pub there : line ≡ 9 + length state.channels + length state.table.goroutines
  pub wrong : sum state.counts ≡ made → FitsTogether limits state → ⊥

-- the first bad line of a text as that of a start
abbrev pub IsStartFault : Limits → ℕ → List ℕ → ℕ → Type 0
IsStartFault limits bodies text line = IsLineFault limits bodies text line ⊎ IsBeginFault limits bodies text line
