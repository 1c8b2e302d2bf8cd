-- The words and lines of the text of a trace.
use Rattle.std.specs.Prelude.{ℕ, ◌+◌, ◌==◌, Bool, true, false, if◌then◌else◌, List, [], ◌∷◌, ◌++◌, map, codes, decimal, Option, None, Some}
use Rattle.std.specs.List.{flat_map}
use Rattle.gmp_base.specs.declared.ask.Fault.{Fault}
use Rattle.gmp_base.specs.declared.ask.Fault.TheVariants as fault
use Rattle.gmp_base.specs.declared.cases.Case.{Case}
use Rattle.gmp_base.specs.declared.cases.Case.TheVariants as case
use Rattle.gmp_base.specs.declared.number.CNo.{CNo}
use Rattle.gmp_base.specs.declared.number.GNo.{GNo}
use Rattle.gmp_base.specs.declared.number.MNo.{MNo}
use Rattle.gmp_base.specs.declared.number.PNo.{PNo}
use Rattle.gmp_base.specs.declared.number.Readiness.{Readiness}
use Rattle.gmp_base.specs.Numbers.{fault_number}
use Rattle.gmp_seq.specs.declared.call.Call.{Call}
use Rattle.gmp_seq.specs.declared.call.Call.TheVariants as call
use Rattle.gmp_seq.specs.declared.call.Entry.{Entry}
use Rattle.gmp_seq.specs.declared.call.Limits.{Limits}
use Rattle.gmp_seq.specs.declared.call.Relay.{Relay}
use Rattle.gmp_seq.specs.declared.call.Reply.{Reply}
use Rattle.gmp_seq.specs.declared.call.Reply.TheVariants as reply
use Rattle.gmp_seq.specs.declared.call.Taken.{Taken}
use Rattle.gmp_seq.specs.declared.call.Taken.TheVariants as taken
use Rattle.gmp_trace.specs.declared.trace.End.{End}
use Rattle.gmp_trace.specs.declared.trace.End.TheVariants as end_

-- Words of a line

-- One word of a line. A number comes with the bits of its type, and of a pair the first does.
pub data Piece : Type 0 where
  Word : List ℕ → Piece
  Number : (bits n : ℕ) → Piece
  Pair : (bits a b : ℕ) → Piece
  OfChannel : Option CNo → Piece
  OfCase : Case → Piece

abbrev pub channel_text : Option CNo → List ℕ
channel_text None = codes "nil"
channel_text (Some c) = decimal c.0

abbrev pub case_text : Case → List ℕ
case_text (case.Send c v) = codes "send:" ++ channel_text c ++ codes ":" ++ decimal v
case_text (case.Recv c) = codes "recv:" ++ channel_text c

abbrev pub piece_text : Piece → List ℕ
piece_text (Word word) = word
piece_text (Number bits n) = decimal n
piece_text (Pair bits a b) = decimal a ++ codes "." ++ decimal b
piece_text (OfChannel c) = channel_text c
piece_text (OfCase c) = case_text c

-- each piece with a space before it
abbrev pub fields : List Piece → List ℕ
fields pieces = flat_map (λ p. codes " " ++ piece_text p) pieces

-- a value, a moment or a count
abbrev pub number : ℕ → Piece
number n = Number 64 n

abbrev pub goroutine : GNo → Piece
goroutine g = Number 16 g.0

abbrev pub machine : MNo → Piece
machine m = Number 8 m.0

abbrev pub processor : PNo → Piece
processor p = Number 8 p.0

abbrev pub readiness : Readiness → Piece
readiness r = Pair 16 r.g.0 r.epoch

abbrev pub boolean : Bool → Piece
boolean true = Word (codes "true")
boolean false = Word (codes "false")

-- Calls

abbrev pub default_pieces : Bool → List Piece
default_pieces true = Word (codes "default") ∷ []
default_pieces false = []

abbrev pub until_pieces : Option ℕ → List Piece
until_pieces None = []
until_pieces (Some moment) = Word (codes "until") ∷ number moment ∷ []

abbrev pub call_pieces : Call → List Piece
call_pieces call.Acquire = Word (codes "acquire") ∷ []
call_pieces call.Take = Word (codes "take") ∷ []
call_pieces (call.Put r) = Word (codes "put") ∷ readiness r ∷ []
call_pieces (call.Claim r) = Word (codes "claim") ∷ readiness r ∷ []
call_pieces (call.Go g) = Word (codes "go") ∷ goroutine g ∷ []
call_pieces call.Spawn = Word (codes "spawn") ∷ []
call_pieces call.Yield = Word (codes "yield") ∷ []
call_pieces call.Exit = Word (codes "exit") ∷ []
call_pieces (call.Make capacity) = Word (codes "make") ∷ Number 32 capacity ∷ []
call_pieces (call.Send c v) = Word (codes "send") ∷ OfChannel c ∷ number v ∷ []
call_pieces (call.Recv c) = Word (codes "recv") ∷ OfChannel c ∷ []
call_pieces (call.Close c) = Word (codes "close") ∷ OfChannel c ∷ []
call_pieces (call.Len c) = Word (codes "len") ∷ OfChannel c ∷ []
call_pieces (call.Cap c) = Word (codes "cap") ∷ OfChannel c ∷ []
call_pieces (call.Procs n) = Word (codes "procs") ∷ Number 8 n ∷ []
call_pieces (call.Select cases has_default until) = Word (codes "select") ∷ (map OfCase cases ++ default_pieces has_default ++ until_pieces until)
call_pieces (call.Sleep until) = Word (codes "sleep") ∷ number until ∷ []
call_pieces call.Gopark = Word (codes "gopark") ∷ []
call_pieces (call.Ready g) = Word (codes "ready") ∷ goroutine g ∷ []
call_pieces call.Enter = Word (codes "enter") ∷ []
call_pieces (call.Leave n) = Word (codes "leave") ∷ number n ∷ []
call_pieces call.Spin = Word (codes "spin") ∷ []
call_pieces call.Woken = Word (codes "woken") ∷ []
call_pieces call.Keep = Word (codes "keep") ∷ []
call_pieces call.Unspin = Word (codes "unspin") ∷ []
call_pieces call.Poke = Word (codes "poke") ∷ []
call_pieces call.Declare = Word (codes "declare") ∷ []
call_pieces call.Bare = Word (codes "bare") ∷ []
call_pieces call.Park = Word (codes "park") ∷ []
call_pieces (call.Tick moment) = Word (codes "tick") ∷ number moment ∷ []

-- Replies

-- the ticket of the goroutine that was served
abbrev pub served_pieces : Option Readiness → List Piece
served_pieces None = []
served_pieces (Some r) = Word (codes "wakes") ∷ readiness r ∷ []

-- the sender that was served, and its value
abbrev pub moved_pieces : Option Relay → List Piece
moved_pieces None = []
moved_pieces (Some x) = Word (codes "wakes") ∷ readiness x.sender ∷ Word (codes "moves") ∷ number x.value ∷ []

-- the machine that was woken
abbrev pub woken_pieces : Option MNo → List Piece
woken_pieces None = []
woken_pieces (Some m) = Word (codes "wakes") ∷ machine m ∷ []

abbrev pub sent_pieces : Option Readiness → List Piece
sent_pieces to = Word (codes "sent") ∷ served_pieces to

abbrev pub got_pieces : ℕ → Bool → Option Relay → List Piece
got_pieces v sent from = Word (codes "got") ∷ number v ∷ boolean sent ∷ moved_pieces from

abbrev pub fault_pieces : Fault → List Piece
fault_pieces f = Word (codes "fault") ∷ Number 8 (fault_number f) ∷ []

abbrev pub taken_pieces : Taken → List Piece
taken_pieces (taken.Sent to) = sent_pieces to
taken_pieces (taken.Got v sent from) = got_pieces v sent from
taken_pieces taken.Failed = fault_pieces fault.SendOnClosed

abbrev pub reply_pieces : Reply → List Piece
reply_pieces (reply.Proc p) = Word (codes "proc") ∷ processor p ∷ []
reply_pieces reply.Nothing = Word (codes "none") ∷ []
reply_pieces (reply.Ticket r) = Word (codes "ticket") ∷ readiness r ∷ []
reply_pieces reply.Shelf = Word (codes "shelf") ∷ []
reply_pieces reply.Held = Word (codes "held") ∷ []
reply_pieces (reply.Fault f) = fault_pieces f
reply_pieces (reply.Shelved r) = Word (codes "shelf") ∷ readiness r ∷ []
reply_pieces reply.Dead = Word (codes "dead") ∷ []
reply_pieces reply.MainEnded = Word (codes "main") ∷ Word (codes "ended") ∷ []
reply_pieces (reply.Channel c) = Word (codes "chan") ∷ OfChannel (Some c) ∷ []
reply_pieces (reply.Sent to) = sent_pieces to
reply_pieces reply.Waits = Word (codes "waits") ∷ []
reply_pieces (reply.Got v sent from) = got_pieces v sent from
reply_pieces (reply.Closed n) = Word (codes "closed") ∷ number n ∷ []
reply_pieces (reply.Number n) = Word (codes "number") ∷ number n ∷ []
reply_pieces (reply.Chose i told) = Word (codes "chose") ∷ Number 8 i ∷ taken_pieces told
reply_pieces reply.Default = Word (codes "default") ∷ []
reply_pieces (reply.Entered p m) = Word (codes "idle") ∷ processor p ∷ woken_pieces m
reply_pieces (reply.Runs p) = Word (codes "runs") ∷ processor p ∷ []
reply_pieces (reply.Answer b) = boolean b ∷ []
reply_pieces reply.Done = Word (codes "done") ∷ []
reply_pieces (reply.Wakes m) = Word (codes "wakes") ∷ machine m ∷ []
reply_pieces (reply.Idle p) = Word (codes "idle") ∷ processor p ∷ []
reply_pieces reply.Parked = Word (codes "parked") ∷ []
reply_pieces reply.Work = Word (codes "work") ∷ []
reply_pieces reply.LookAgain = Word (codes "look") ∷ Word (codes "again") ∷ []
reply_pieces (reply.Mind until) = Word (codes "mind") ∷ number until ∷ []
reply_pieces reply.AllAsleep = Word (codes "all") ∷ Word (codes "asleep") ∷ []
reply_pieces (reply.Woke n) = Word (codes "woke") ∷ number n ∷ []

-- Lines

-- a line: its first word, the pieces after it, and the line feed
abbrev pub line : List ℕ → List Piece → List ℕ
line first pieces = first ++ fields pieces ++ codes "\n"

-- an entry behind its number: its machine and which of the machine's it is, the call and the reply
abbrev pub entry_pieces : Entry → List Piece
entry_pieces e = Pair 8 e.m.0 e.k ∷ (call_pieces e.call ++ Word (codes "->") ∷ reply_pieces e.reply)

unfoldable pub entry_text : ℕ → Entry → List ℕ
entry_text n e = line (decimal n) (entry_pieces e)

-- entries, numbered from n
abbrev pub entries_text : ℕ → List Entry → List ℕ
entries_text n [] = []
entries_text n (e ∷ es) = entry_text n e ++ entries_text (n + 1) es

-- a limit behind its name
unfoldable pub limit : List ℕ → ℕ → List ℕ
limit name n = codes " " ++ name ++ codes " " ++ decimal n

-- the history is kept whole: it has room for all entries
abbrev pub is_whole : Limits → Bool
is_whole l = l.entries == l.room

-- of a history that is handed out in segments, how many entries it has room for
unfoldable pub room_pieces : Limits → List Piece
room_pieces l = if is_whole l then [] else Word (codes "room") ∷ Number 32 l.room ∷ []

unfoldable pub limits_text : Limits → ℕ → List ℕ
limits_text l bodies =
    codes "limits" ++ limit (codes "procs") l.procs ++ limit (codes "machines") l.machines ++ limit (codes "bodies") bodies
    ++ limit (codes "channels") l.channels ++ limit (codes "entries") l.entries ++ fields (room_pieces l) ++ codes "\n"

abbrev pub capacity_piece : ℕ → Piece
capacity_piece capacity = Number 32 capacity

unfoldable pub capacities_text : List ℕ → List ℕ
capacities_text capacities = line (codes "caps") (map capacity_piece capacities)

abbrev pub end_pieces : End → List Piece
end_pieces end_.MainEnded = Word (codes "main") ∷ Word (codes "ended") ∷ []
end_pieces end_.AllAsleep = Word (codes "all") ∷ Word (codes "asleep") ∷ []
end_pieces end_.BookFull = Word (codes "book") ∷ Word (codes "full") ∷ []
end_pieces end_.Running = Word (codes "running") ∷ []

unfoldable pub end_text : End → List ℕ
end_text end = line (codes "end") (end_pieces end)
