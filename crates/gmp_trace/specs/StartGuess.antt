-- What the words of a start's line are taken for before a reader compares. Nothing is refused.
use Rattle.std.specs.Prelude.{ℕ, ◌==◌, Bool, if◌then◌else◌, List, [], map, codes, drop, take, Option, None, Some}
use Rattle.std.specs.List.{list_any, range_with_len}
use Rattle.std.specs.Str.{bytes_eq}
use Rattle.gmp_base.specs.declared.ask.Fault.TheVariants.{SendOnClosed}
use Rattle.gmp_base.specs.declared.ask.Woke.{Woke}
use Rattle.gmp_base.specs.declared.ask.Woke.TheVariants as woke
use Rattle.gmp_base.specs.declared.number.MNo.{MNo}
use Rattle.gmp_seq.specs.declared.status.Deal.TheVariants as deal
use Rattle.gmp_seq.specs.declared.status.Goroutine.{Goroutine}
use Rattle.gmp_seq.specs.declared.status.Kind.{Kind}
use Rattle.gmp_seq.specs.declared.status.Kind.TheVariants as kind
use Rattle.gmp_seq.specs.declared.status.Mode.{Mode}
use Rattle.gmp_seq.specs.declared.status.Mode.TheVariants as mode
use Rattle.gmp_seq.specs.declared.status.Offer.{Offer}
use Rattle.gmp_seq.specs.declared.status.TicketPlace.TheVariants.{Shelf, Out}
use Rattle.gmp_seq.specs.declared.status.Status.{Status}
use Rattle.gmp_seq.specs.declared.status.Status.TheVariants as status
use Rattle.gmp_seq.specs.Channels.{Channel}
use Rattle.gmp_trace.specs.Guess.{byte_at, letter, letter_at, narrow, number_at, number_read, parted, until_of, word_at}

-- a machine by its number
abbrev pub machine_read : List ℕ → MNo
machine_read word = record { 0 = narrow 8 (number_read word) }

-- who holds a processor
unfoldable pub holder_read : List ℕ → Option MNo
holder_read word = if bytes_eq word (codes "idle") then None else Some (machine_read word)

-- what a machine does
unfoldable pub mode_read : List ℕ → Mode
mode_read word =
    if letter word == letter (codes "awake") then mode.Awake else (if letter word == letter (codes "parked") then mode.Parked else mode.Calling)

-- what one that is ready is to be told; the words behind its place
unfoldable pub woke_read : List (List ℕ) → Woke
woke_read words =
    if letter_at 0 words == letter (codes "done") then woke.Done
    else (if letter_at 0 words == letter (codes "got") then woke.Got (number_at 1 words) (letter_at 2 words == letter (codes "true"))
    else (if letter_at 0 words == letter (codes "chose") then (if bytes_eq (word_at 2 words) [] then woke.Chose (narrow 8 (number_at 1 words)) None else woke.Chose (narrow 8 (number_at 1 words)) (Some (number_at 2 words, letter_at 3 words == letter (codes "true"))))
    else (if letter_at 0 words == letter (codes "late") then woke.Late
    else (if letter_at 0 words == letter (codes "number") then woke.Number (number_at 1 words)
    else (if byte_at 1 (word_at 0 words) == byte_at 1 (codes "first") then woke.First
    else woke.Fault SendOnClosed)))))

-- what a goroutine waits by
unfoldable pub kind_read : List ℕ → Kind
kind_read word =
    if letter word == letter (codes "plain") then (if byte_at 1 word == byte_at 1 (codes "plain") then kind.Plain else kind.Parked)
    else (if byte_at 1 word == byte_at 1 (codes "select") then kind.Select else kind.Sleep)

-- a case, a colon, what is done, a colon, the channel, and of a send a colon and the value
unfoldable pub offer_read : List ℕ → Offer
offer_read word =
    if bytes_eq (parted 58 (parted 58 word).1).0 (codes "send") then record {
      case = narrow 8 (number_read (parted 58 word).0);
      channel = record { 0 = narrow 16 (number_read (parted 58 (parted 58 (parted 58 word).1).1).0) };
      deal = deal.Send (number_read (parted 58 (parted 58 (parted 58 word).1).1).1);
    }
    else record {
      case = narrow 8 (number_read (parted 58 word).0);
      channel = record { 0 = narrow 16 (number_read (parted 58 (parted 58 word).1).1) };
      deal = deal.Receive;
    }

-- at most 8
abbrev pub offers_read : List (List ℕ) → List Offer
offers_read words = map offer_read (take 8 words)

-- the words behind a deadline
abbrev pub behind_until : List (List ℕ) → List (List ℕ)
behind_until words = if bytes_eq (word_at 0 words) (codes "until") then drop 2 words else words

-- the words behind `waits`
unfoldable pub wait_read : List (List ℕ) → Status
wait_read words =
    status.Waiting (record {
      arrival = number_at 0 words;
      kind = kind_read (word_at 1 words);
      offers = offers_read (behind_until (drop 2 words));
      until = until_of (drop 2 words);
    })

-- what a goroutine does; the words behind its epoch
unfoldable pub status_read : List (List ℕ) → Status
status_read words =
    if letter_at 0 words == letter (codes "dormant") then (if byte_at 1 (word_at 0 words) == byte_at 1 (codes "dormant") then status.Dormant else status.Dead)
    else (if letter_at 0 words == letter (codes "running") then status.Running (machine_read (word_at 1 words))
    else (if letter_at 0 words == letter (codes "calling") then status.Calling (machine_read (word_at 1 words))
    else (if letter_at 0 words == letter (codes "shelf") then status.Ready Shelf (woke_read (drop 1 words))
    else (if letter_at 0 words == letter (codes "out") then status.Ready Out (woke_read (drop 1 words))
    else wait_read (drop 1 words)))))

-- the words of the line of a goroutine, its first one too
unfoldable pub row_read : List (List ℕ) → Goroutine
row_read words = record { status = status_read (drop 3 words); epoch = number_at 2 words }

-- does a word say this number
abbrev pub named : List (List ℕ) → ℕ → Bool
named words m = list_any (λ (w : List ℕ). number_read w == m) words

-- of so many machines, those whose number a word says
abbrev pub flags_read : ℕ → List (List ℕ) → List Bool
flags_read machines words = map (named words) (range_with_len 0 machines)

-- whether a channel is closed
unfoldable pub closed_read : List ℕ → Bool
closed_read word = letter word == letter (codes "closed")

-- the words of the line of a channel, its first one too
abbrev pub channel_read : List (List ℕ) → Channel
channel_read words = record { capacity = narrow 32 (number_at 2 words); items = map number_read (drop 4 words); closed = closed_read (word_at 3 words) }
