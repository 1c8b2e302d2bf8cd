-- Which lines a start may have, one behind another, and what is wrong with the others.
use Rattle.std.specs.Prelude.{◌≡◌, ◌≢◌, ℕ, ◌+◌, ◌<◌, ◌≤◌, ◌∷◌, ◌++◌, [], Bool, true, false, List, All, IfSome, length, codes, Option}
use Rattle.std.specs.List.{flat_map}
use Rattle.gmp_base.specs.declared.number.MNo.{MNo}
use Rattle.gmp_base.specs.Fits.{IsWord}
use Rattle.gmp_seq.specs.declared.call.Limits.{Limits}
use Rattle.gmp_seq.specs.declared.status.Goroutine.{Goroutine}
use Rattle.gmp_seq.specs.declared.status.Mode.{Mode}
use Rattle.gmp_seq.specs.declared.status.Status.{Status}
use Rattle.gmp_seq.specs.declared.status.Status.TheVariants as status
use Rattle.gmp_seq.specs.Channels.{Channel}
use Rattle.gmp_seq.specs.State.{State}
use Rattle.gmp_start.specs.Forms.{FitsWoke, IsFormedWait}
use Rattle.gmp_trace.specs.StartText.{channel_line, counts_text, goroutine_line, head_text, machines_text, members_text, procs_text}

-- Goroutines

-- what a goroutine does, on one of so many machines and beside so many channels
abbrev pub FitsStatus : (machines channels : ℕ) → Status → Type 0
FitsStatus machines channels (status.Ready place answer) = FitsWoke answer
FitsStatus machines channels (status.Running m) = m.0 < machines
FitsStatus machines channels (status.Calling m) = m.0 < machines
FitsStatus machines channels (status.Waiting w) = IsWord w.arrival × IsFormedWait channels w
FitsStatus machines channels _ = Unit {0}

-- Lines

-- a line of a start
pub data StartLine : Type 0 where
  Head : (made now arrivals active : ℕ) → StartLine
  Counts : List ℕ → StartLine
  Procs : List (Option MNo) → StartLine
  Machines : List Mode → StartLine
  Spinning : List Bool → StartLine
  Marked : List Bool → StartLine
  Chan : ℕ → Channel → StartLine
  Row : ℕ → Goroutine → StartLine
  Begin : StartLine

-- its text
abbrev pub line_text : StartLine → List ℕ
line_text (Head made now arrivals active) = head_text made now arrivals active
line_text (Counts counts) = counts_text counts
line_text (Procs holders) = procs_text holders
line_text (Machines modes) = machines_text modes
line_text (Spinning flags) = members_text (codes "spinning") flags
line_text (Marked flags) = members_text (codes "marked") flags
line_text (Chan c x) = channel_line c x
line_text (Row g x) = goroutine_line g x
line_text Begin = codes "begin\n"

-- the last one
abbrev pub is_begin : StartLine → Bool
is_begin Begin = true
is_begin _ = false

-- how many lines were read, and how many of them were of goroutines and of channels
pub record Passed : Type 0 where
  pub lines : ℕ
  pub rows : ℕ
  pub channels : ℕ

-- before the first line
abbrev pub nothing_passed : Passed
nothing_passed = record { lines = 0; rows = 0; channels = 0 }

-- behind one line more
abbrev pub passed : Passed → StartLine → Passed
passed p (Row g x) = record { lines = p.lines + 1; rows = p.rows + 1; channels = p.channels }
passed p (Chan c x) = record { lines = p.lines + 1; rows = p.rows; channels = p.channels + 1 }
passed p _ = record { lines = p.lines + 1; rows = p.rows; channels = p.channels }

-- behind these lines more
abbrev pub passed_all : Passed → List StartLine → Passed
passed_all p [] = p
passed_all p (l ∷ ls) = passed_all (passed p l) ls

-- who holds a processor is one of so many machines
abbrev pub BelowAll : ℕ → List (Option MNo) → Type 0
BelowAll machines holders = All (λ (h : Option MNo). IfSome h (λ (m : MNo). m.0 < machines)) holders

-- the line is of its form, within the limits, and next behind what was read
abbrev pub MayFollow : Limits → ℕ → Passed → StartLine → Type 0
MayFollow limits bodies p (Head made now arrivals active) =
    (p.lines ≡ 0) × IsWord made × IsWord now × IsWord arrivals × (1 ≤ active) × (active ≤ limits.procs)
MayFollow limits bodies p (Counts counts) = (p.lines ≡ 1) × (length counts ≡ limits.machines) × All IsWord counts
MayFollow limits bodies p (Procs holders) = (p.lines ≡ 2) × (length holders ≡ limits.procs) × BelowAll limits.machines holders
MayFollow limits bodies p (Machines modes) = (p.lines ≡ 3) × (length modes ≡ limits.machines)
MayFollow limits bodies p (Spinning flags) = (p.lines ≡ 4) × (length flags ≡ limits.machines)
MayFollow limits bodies p (Marked flags) = (p.lines ≡ 5) × (length flags ≡ limits.machines)
MayFollow limits bodies p (Chan c x) =
    (p.lines ≡ 6 + c) × (p.rows ≡ 0) × (c < limits.channels) × (x.capacity ≤ 4096) × (length x.items ≤ 4096) × All IsWord x.items
MayFollow limits bodies p (Row g x) = (6 ≤ p.lines) × (p.rows ≡ g) × (g < bodies) × IsWord x.epoch × FitsStatus limits.machines p.channels x.status
MayFollow limits bodies p Begin = (6 ≤ p.lines) × (p.rows ≡ bodies)

-- lines before `begin`, of which each may follow
abbrev pub AreLines : Limits → ℕ → Passed → List StartLine → Type 0
AreLines limits bodies p [] = Unit {0}
AreLines limits bodies p (l ∷ ls) = (is_begin l ≡ false) × MayFollow limits bodies p l × AreLines limits bodies (passed p l) ls

-- the text of these
abbrev pub lines_text : List StartLine → List ℕ
lines_text ls = flat_map line_text ls

-- no line that may follow stands here
abbrev pub NoneFollows : Limits → ℕ → Passed → List ℕ → Type 0
NoneFollows limits bodies p text = (next : StartLine) (more : List ℕ) → MayFollow limits bodies p next → text ≢ line_text next ++ more

-- Behind what was read some lines are right, and the next one is of no form that may follow; `begin` isn't among them. Line 3 is the first of a start.
pub record IsLineFaultBehind (limits : Limits) (bodies : ℕ) (p : Passed) (text : List ℕ) (line : ℕ) : Type 0 where
  pub before : List StartLine
  pub rest : List ℕ
  pub right : AreLines limits bodies p before
  pub whole : text ≡ lines_text before ++ rest
  pub there : line ≡ p.lines + length before + 3
  pub none : NoneFollows limits bodies (passed_all p before) rest

-- the first bad line of a start
abbrev pub IsLineFault : Limits → ℕ → List ℕ → ℕ → Type 0
IsLineFault limits bodies text line = IsLineFaultBehind limits bodies nothing_passed text line

-- The lines of a state

-- of channels, numbered from c
abbrev pub chan_lines : ℕ → List Channel → List StartLine
chan_lines c [] = []
chan_lines c (x ∷ xs) = Chan c x ∷ chan_lines (c + 1) xs

-- of goroutines, numbered from g
abbrev pub row_lines : ℕ → List Goroutine → List StartLine
row_lines g [] = []
row_lines g (x ∷ xs) = Row g x ∷ row_lines (g + 1) xs

-- all but `begin`, whatever number of entries they say
abbrev pub state_lines : (made : ℕ) → State → List StartLine
state_lines made s =
    Head made s.table.clock s.table.arrivals s.machines.active ∷ Counts s.counts ∷ Procs s.machines.holders ∷ Machines s.machines.modes
    ∷ Spinning s.machines.spinning ∷ Marked s.machines.marked ∷ (chan_lines 0 s.channels ++ row_lines 0 s.table.goroutines)

-- they are the lines of a start, up to `begin`
pub record HasLines (limits : Limits) (bodies made : ℕ) (s : State) : Type 0 where
  pub lines : AreLines limits bodies nothing_passed (state_lines made s)
  pub stock : length s.table.goroutines ≡ bodies
