-- The lines of a start: version 2 of the trace has them in place of the capacities.
use Rattle.std.specs.Prelude.{ℕ, ◌+◌, ◌∷◌, ◌++◌, [], Bool, true, false, List, map, codes, decimal, Option, None, Some, if◌then◌else◌}
use Rattle.gmp_base.specs.declared.ask.Woke.{Woke}
use Rattle.gmp_base.specs.declared.ask.Woke.TheVariants as woke
use Rattle.gmp_base.specs.declared.number.MNo.{MNo}
use Rattle.gmp_seq.specs.declared.status.Deal.{Deal}
use Rattle.gmp_seq.specs.declared.status.Deal.TheVariants as deal
use Rattle.gmp_seq.specs.declared.status.Goroutine.{Goroutine}
use Rattle.gmp_seq.specs.declared.status.Kind.{Kind}
use Rattle.gmp_seq.specs.declared.status.Kind.TheVariants as kind
use Rattle.gmp_seq.specs.declared.status.Mode.{Mode}
use Rattle.gmp_seq.specs.declared.status.Mode.TheVariants as mode
use Rattle.gmp_seq.specs.declared.status.Offer.{Offer}
use Rattle.gmp_seq.specs.declared.status.TicketPlace.TheVariants.{Shelf, Out}
use Rattle.gmp_seq.specs.declared.status.Status.{Status}
use Rattle.gmp_seq.specs.declared.status.Status.TheVariants as status
use Rattle.gmp_seq.specs.Channels.{Channel}
use Rattle.gmp_seq.specs.State.{State}
use Rattle.gmp_trace.specs.Pieces.{Piece, boolean, fault_pieces, line, machine, number, until_pieces}
use Rattle.gmp_trace.specs.Pieces.Piece.{Word, Number}

-- Machines

-- how many entries were made, the moment, how many waits began, and how many processors are active
unfoldable pub head_text : (made now arrivals active : ℕ) → List ℕ
head_text made now arrivals active =
    line (codes "start")
    (number made ∷ Word (codes "now") ∷ number now ∷ Word (codes "arrivals") ∷ number arrivals ∷ Word (codes "active") ∷ Number 8 active ∷ [])

-- how many entries each machine made
unfoldable pub counts_text : List ℕ → List ℕ
counts_text counts = line (codes "counts") (map number counts)

-- who holds a processor
abbrev pub holder_piece : Option MNo → Piece
holder_piece None = Word (codes "idle")
holder_piece (Some m) = machine m

-- who holds each processor
unfoldable pub procs_text : List (Option MNo) → List ℕ
procs_text holders = line (codes "procs") (map holder_piece holders)

-- what a machine does
abbrev pub mode_piece : Mode → Piece
mode_piece mode.Awake = Word (codes "awake")
mode_piece mode.Parked = Word (codes "parked")
mode_piece mode.Calling = Word (codes "calling")

-- what each machine does
unfoldable pub machines_text : List Mode → List ℕ
machines_text modes = line (codes "machines") (map mode_piece modes)

-- the numbers, from m on, of those that are set
abbrev pub members : ℕ → List Bool → List ℕ
members m [] = []
members m (x ∷ xs) = (if x then m ∷ [] else []) ++ members (m + 1) xs

-- its number
abbrev pub member_piece : ℕ → Piece
member_piece m = Number 8 m

-- which machines spin, or are marked
unfoldable pub members_text : List ℕ → List Bool → List ℕ
members_text name flags = line name (map member_piece (members 0 flags))

-- Channels

-- whether a channel is closed
abbrev pub closed_piece : Bool → Piece
closed_piece false = Word (codes "open")
closed_piece true = Word (codes "closed")

-- a channel: its number, its capacity, and its values, the first first
unfoldable pub channel_line : ℕ → Channel → List ℕ
channel_line c x = line (codes "chan") (Number 16 c ∷ Number 32 x.capacity ∷ closed_piece x.closed ∷ map number x.items)

-- channels, numbered from c
abbrev pub channels_text : ℕ → List Channel → List ℕ
channels_text c [] = []
channels_text c (x ∷ xs) = channel_line c x ++ channels_text (c + 1) xs

-- Goroutines

-- what one that is ready is to be told; the last three are stored for nobody
abbrev pub woke_pieces : Woke → List Piece
woke_pieces woke.First = Word (codes "first") ∷ []
woke_pieces woke.Done = Word (codes "done") ∷ []
woke_pieces (woke.Got v sent) = Word (codes "got") ∷ number v ∷ boolean sent ∷ []
woke_pieces (woke.Chose i None) = Word (codes "chose") ∷ Number 8 i ∷ []
woke_pieces (woke.Chose i (Some (v, sent))) = Word (codes "chose") ∷ Number 8 i ∷ number v ∷ boolean sent ∷ []
woke_pieces woke.Late = Word (codes "late") ∷ []
woke_pieces (woke.Number n) = Word (codes "number") ∷ number n ∷ []
woke_pieces (woke.Fault f) = fault_pieces f
woke_pieces woke.Default = []
woke_pieces (woke.Made c) = []
woke_pieces woke.NoMemory = []

-- what a goroutine waits by
abbrev pub kind_piece : Kind → Piece
kind_piece kind.Plain = Word (codes "plain")
kind_piece kind.Select = Word (codes "select")
kind_piece kind.Sleep = Word (codes "sleep")
kind_piece kind.Parked = Word (codes "parked")

-- what is done, and on which channel
abbrev pub deal_text : ℕ → Deal → List ℕ
deal_text c (deal.Send v) = codes ":send:" ++ decimal c ++ codes ":" ++ decimal v
deal_text c deal.Receive = codes ":recv:" ++ decimal c

-- an offer: its case, what is done, the channel, and of a send the value
abbrev pub offer_text : Offer → List ℕ
offer_text o = decimal o.case ++ deal_text o.channel.0 o.deal

-- it is one word
abbrev pub offer_piece : Offer → Piece
offer_piece o = Word (offer_text o)

-- what a goroutine does
abbrev pub status_pieces : Status → List Piece
status_pieces status.Dormant = Word (codes "dormant") ∷ []
status_pieces status.Dead = Word (codes "dead") ∷ []
status_pieces (status.Running m) = Word (codes "running") ∷ machine m ∷ []
status_pieces (status.Calling m) = Word (codes "calling") ∷ machine m ∷ []
status_pieces (status.Ready Shelf answer) = Word (codes "shelf") ∷ woke_pieces answer
status_pieces (status.Ready Out answer) = Word (codes "out") ∷ woke_pieces answer
status_pieces (status.Waiting w) = Word (codes "waits") ∷ number w.arrival ∷ kind_piece w.kind ∷ (until_pieces w.until ++ map offer_piece w.offers)

-- a goroutine: its number, its latest epoch, and what it does
unfoldable pub goroutine_line : ℕ → Goroutine → List ℕ
goroutine_line g x = line (codes "g") (Number 16 g ∷ number x.epoch ∷ status_pieces x.status)

-- goroutines, numbered from g
abbrev pub goroutines_text : ℕ → List Goroutine → List ℕ
goroutines_text g [] = []
goroutines_text g (x ∷ xs) = goroutine_line g x ++ goroutines_text (g + 1) xs

-- All lines

-- of a state; the number of entries that line 3 says is to be the sum of the counts
unfoldable pub start_text : (made : ℕ) → State → List ℕ
start_text made s =
    head_text made s.table.clock s.table.arrivals s.machines.active ++ counts_text s.counts ++ procs_text s.machines.holders ++ machines_text s.machines.modes
    ++ members_text (codes "spinning") s.machines.spinning ++ members_text (codes "marked") s.machines.marked
    ++ channels_text 0 s.channels ++ goroutines_text 0 s.table.goroutines ++ codes "begin\n"
