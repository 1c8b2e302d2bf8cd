-- The line that stands next, where it may follow.
use Rattle.std.specs.Prelude.{◌≡◌, ◌≢◌, ◌≤◌, ◌<◌, ℕ, ◌+◌, Bool, List, ◌++◌, Option, length}
use Rattle.gmp_base.specs.declared.number.MNo.{MNo}
use Rattle.gmp_seq.specs.declared.call.Limits.{Limits}
use Rattle.gmp_seq.specs.declared.status.Goroutine.{Goroutine}
use Rattle.gmp_seq.specs.declared.status.Mode.{Mode}
use Rattle.gmp_seq.specs.Channels.{Channel}
use Rattle.gmp_trace.specs.declared.start.at.Head.{Head}
use Rattle.gmp_trace.specs.StartForms.{AreLines, MayFollow, Passed, StartLine, chan_lines, line_text, lines_text, row_lines}
use Rattle.gmp_trace.specs.StartForms.StartLine.{Head as HeadLine, Counts, Procs, Machines, Spinning, Marked, Chan, Row}

-- the text begins with this line, which may follow, and goes on so
pub record IsNext (limits : Limits) (bodies : ℕ) (p : Passed) (text : List ℕ) (l : StartLine) (rest : List ℕ) : Type 0 where
  pub whole : text ≡ line_text l ++ rest
  pub may : MayFollow limits bodies p l

-- behind so many of the first lines
abbrev pub behind_lines : ℕ → Passed
behind_lines n = record { lines = n; rows = 0; channels = 0 }

-- behind so many channels
abbrev pub behind_channels : ℕ → Passed
behind_channels n = record { lines = 6 + n; rows = 0; channels = n }

-- behind so many channels and goroutines
abbrev pub behind_rows : (channels rows : ℕ) → Passed
behind_rows n g = record { lines = 6 + n + g; rows = g; channels = n }

-- The lines by what was read, as contracts name them.
-- what line 3 says
abbrev pub head_line : Head → StartLine
head_line h = HeadLine h.made h.clock h.arrivals h.active

-- how many entries each machine made
abbrev pub counts_line : List ℕ → StartLine
counts_line xs = Counts xs

-- who holds each processor
abbrev pub procs_line : List (Option MNo) → StartLine
procs_line xs = Procs xs

-- what each machine does
abbrev pub machines_line : List Mode → StartLine
machines_line xs = Machines xs

-- which machines spin
abbrev pub spinning_line : List Bool → StartLine
spinning_line xs = Spinning xs

-- which machines are marked
abbrev pub marked_line : List Bool → StartLine
marked_line xs = Marked xs

-- a channel
abbrev pub chan_line : ℕ → Channel → StartLine
chan_line c x = Chan c x

-- a goroutine
abbrev pub row_line : ℕ → Goroutine → StartLine
row_line g x = Row g x

-- no channel's line that may follow so many channels stands here
abbrev pub NoChannel : Limits → ℕ → ℕ → List ℕ → Type 0
NoChannel limits bodies count text =
    (c : ℕ) (x : Channel) (more : List ℕ) → MayFollow limits bodies (behind_channels count) (Chan c x) → text ≢ line_text (Chan c x) ++ more

-- the text begins with the lines of these channels, which may stand there, and goes on so
pub record AreChannels (limits : Limits) (bodies : ℕ) (text : List ℕ) (xs : List Channel) (rest : List ℕ) : Type 0 where
  pub whole : text ≡ lines_text (chan_lines 0 xs) ++ rest
  pub right : AreLines limits bodies (behind_channels 0) (chan_lines 0 xs)
  pub few : length xs ≤ limits.channels

-- no goroutine's line that may follow so many channels and goroutines stands here
abbrev pub NoRow : Limits → (bodies channels count : ℕ) → List ℕ → Type 0
NoRow limits bodies channels count text =
    (g : ℕ) (x : Goroutine) (more : List ℕ) → MayFollow limits bodies (behind_rows channels count) (Row g x) → text ≢ line_text (Row g x) ++ more

-- the text begins with the lines of these goroutines, which may stand behind so many channels, and goes on so
pub record AreRows (limits : Limits) (bodies channels : ℕ) (text : List ℕ) (xs : List Goroutine) (rest : List ℕ) : Type 0 where
  pub whole : text ≡ lines_text (row_lines 0 xs) ++ rest
  pub right : AreLines limits bodies (behind_rows channels 0) (row_lines 0 xs)

-- so many of them stand there, and not the next one
pub record RowsEnd (limits : Limits) (bodies channels : ℕ) (text : List ℕ) (count : ℕ) : Type 0 where
  pub rows : List Goroutine
  pub rest : List ℕ
  pub are : AreRows limits bodies channels text rows rest
  pub many : length rows ≡ count
  pub few : count < bodies
  pub none : NoRow limits bodies channels count rest
