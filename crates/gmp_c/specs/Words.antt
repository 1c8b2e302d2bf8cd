-- What C's numbers say, and the numbers of what it is told.
use Rattle.std.specs.Prelude.{◌≡◌, ◌⊎◌, ℕ, ◌+◌, ◌==◌, nat_lt, if◌then◌else◌, false, List, ◌++◌, drop, length, map, min, take, Option, None, Some}
use Rattle.gmp_base.specs.declared.ask.Ask.{Ask}
use Rattle.gmp_base.specs.declared.ask.Ask.TheVariants as ask
use Rattle.gmp_base.specs.declared.ask.Woke.{Woke}
use Rattle.gmp_base.specs.declared.ask.Woke.TheVariants as woke
use Rattle.gmp_base.specs.declared.cases.Case.{Case}
use Rattle.gmp_base.specs.declared.cases.Case.TheVariants as case
use Rattle.gmp_base.specs.declared.number.CNo.{CNo}
use Rattle.gmp_base.specs.declared.number.GNo.{GNo}
use Rattle.gmp_base.specs.Numbers.{fault_number}
use Rattle.gmp_seq.specs.declared.call.Limits.{Limits}
use Rattle.gmp_seq.specs.declared.call.Outcome.{Outcome}
use Rattle.gmp_seq.specs.declared.call.Outcome.TheVariants as outcome
use Rattle.gmp_seq.specs.declared.status.Status.{Status}
use Rattle.gmp_seq.specs.declared.status.Status.TheVariants as status
use Rattle.gmp_core.specs.Whole.{Whole}
use Rattle.gmp_parts.specs.declared.error.PartError.{PartError}
use Rattle.gmp_parts.specs.declared.error.PartError.TheVariants as part_error
use Rattle.gmp_stand.specs.declared.event.Event.{Event}
use Rattle.gmp_stand.specs.declared.event.Event.TheVariants as event
use Rattle.gmp_stand.specs.declared.event.Handed.{Handed}
use Rattle.gmp_stand.specs.Turns.{TakesTurn}
use Rattle.gmp_c.specs.declared.words.AskWords.{AskWords}
use Rattle.gmp_c.specs.declared.words.CaseWords.{CaseWords}
use Rattle.gmp_c.specs.declared.words.EventWords.{EventWords}
use Rattle.gmp_c.specs.declared.words.LimitWords.{LimitWords}

-- Asks

-- the channel of a number: nil for the greatest, and none that is there beyond 65,535
abbrev pub channel_of : ℕ → Option CNo
channel_of number = if number == 4294967295 then None else Some (record { 0 = min number 65535 })

-- the deadline of a moment: none for the last of all
abbrev pub until_of : ℕ → Option ℕ
until_of moment = if moment == 18446744073709551615 then None else Some moment

abbrev pub case_of : CaseWords → Case
case_of c = if c.sends then case.Send (channel_of c.channel) c.value else case.Recv (channel_of c.channel)

-- a select of these cases, unless they are too many
abbrev pub select_of : AskWords → List CaseWords → Option Ask
select_of a cases = if nat_lt 8 (length cases) then None else Some (ask.Select (map case_of cases) (a.channel == 1) (until_of a.value))

-- the ask of these words, by its kind, if they are of one; a number too great for its type is the greatest of it
abbrev pub ask_of : AskWords → List CaseWords → Option Ask
ask_of a cases =
    if a.kind == 1 then Some ask.Yield
    else (if a.kind == 2 then Some (ask.Go (record { 0 = min a.value 65535 }))
    else (if a.kind == 3 then Some ask.Spawn
    else (if a.kind == 4 then Some (ask.Make (min a.value 4294967295))
    else (if a.kind == 5 then Some (ask.Send (channel_of a.channel) a.value)
    else (if a.kind == 6 then Some (ask.Recv (channel_of a.channel))
    else (if a.kind == 7 then Some (ask.Close (channel_of a.channel))
    else (if a.kind == 8 then Some (ask.Len (channel_of a.channel))
    else (if a.kind == 9 then Some (ask.Cap (channel_of a.channel))
    else (if a.kind == 10 then select_of a cases
    else (if a.kind == 11 then Some (ask.Sleep a.value)
    else (if a.kind == 12 then Some (ask.Procs (min a.value 255))
    else (if a.kind == 13 then Some ask.Park
    else (if a.kind == 14 then Some (ask.Ready (record { 0 = min a.value 65535 }))
    else (if a.kind == 15 then Some ask.Block
    else (if a.kind == 16 then Some ask.Exit
    else None)))))))))))))))

-- what the blocking call answered, if these words are of that
abbrev pub answer_of : AskWords → Option ℕ
answer_of a = if a.kind == 17 then Some a.value else None

-- what is handed in with a turn
abbrev pub handed_of : AskWords → List CaseWords → ℕ → ℕ → Handed
handed_of a cases moment word = record { ask = ask_of a cases; number = answer_of a; moment = moment; word = word }

-- Events

-- what a goroutine is to be told: a number, a value, and whether that was sent
abbrev pub woke_words : ℕ → Woke → EventWords
woke_words g woke.First = record { kind = 3; goroutine = g; woke = 1; ok = false; value = 0 }
woke_words g woke.Done = record { kind = 3; goroutine = g; woke = 2; ok = false; value = 0 }
woke_words g (woke.Got v sent) = record { kind = 3; goroutine = g; woke = 3; ok = sent; value = v }
woke_words g (woke.Chose i None) = record { kind = 3; goroutine = g; woke = 16 + i; ok = false; value = 0 }
woke_words g (woke.Chose i (Some (v, sent))) = record { kind = 3; goroutine = g; woke = 512 + i; ok = sent; value = v }
woke_words g woke.Default = record { kind = 3; goroutine = g; woke = 4; ok = false; value = 0 }
woke_words g woke.Late = record { kind = 3; goroutine = g; woke = 5; ok = false; value = 0 }
woke_words g (woke.Number n) = record { kind = 3; goroutine = g; woke = 6; ok = false; value = n }
woke_words g (woke.Made c) = record { kind = 3; goroutine = g; woke = 7; ok = false; value = c.0 }
woke_words g (woke.Fault fault) = record { kind = 3; goroutine = g; woke = 8; ok = false; value = fault_number fault }
woke_words g woke.NoMemory = record { kind = 3; goroutine = g; woke = 9; ok = false; value = 0 }

-- an event with nothing but these
abbrev pub plain_words : ℕ → ℕ → ℕ → EventWords
plain_words kind g value = record { kind = kind; goroutine = g; woke = 0; ok = false; value = value }

abbrev pub event_words : Event → EventWords
event_words event.More = plain_words 0 0 0
event_words event.Parked = plain_words 1 0 0
event_words event.Done = plain_words 2 0 0
event_words (event.Resume g told) = woke_words g.0 told
event_words (event.Call g) = plain_words 4 g.0 0
event_words (event.Wait moment) = plain_words 5 0 moment
event_words event.Full = plain_words 6 0 0

-- Machine m has one turn, handed this in, which leads from this to that; and the words tell what it came to.
pub record Turned (m : ℕ) (handed : Handed) (k k' : Whole GNo) (words : EventWords) : Type 0 where
  pub event : Event
  pub takes : TakesTurn (record { 0 = m }) handed event k k'
  pub told : words ≡ event_words event

-- Texts

-- as much of the text as there is room for is written, and how long it is
pub record IsWritten (text old new : List ℕ) (count : ℕ) : Type 0 where
  pub whole : count ≡ length text
  pub written : new ≡ take (min (length text) (length old)) text ++ drop (min (length text) (length old)) old

-- Other numbers

abbrev pub limits_of : LimitWords → Limits
limits_of l = record { procs = l.procs; machines = l.machines; channels = l.channels; entries = l.entries; room = l.room }

-- why nothing was opened, or that it was: limits out of range are told before want of memory
abbrev pub IsOpening : Type 0 → ℕ → Type 0
IsOpening may number = ((number ≡ 0) × may) ⊎ ((number ≡ 28) × may) ⊎ ((number ≡ 29) × (may → ⊥))

abbrev pub outcome_number : Option Outcome → ℕ
outcome_number None = 0
outcome_number (Some outcome.MainEnded) = 1
outcome_number (Some outcome.AllAsleep) = 2
outcome_number (Some outcome.BookFull) = 3

-- what a goroutine does, but for its details
abbrev pub status_number : Status → ℕ
status_number status.Dormant = 0
status_number (status.Ready place answer) = 1
status_number (status.Running m) = 2
status_number (status.Calling m) = 3
status_number (status.Waiting wait) = 4
status_number status.Dead = 5

-- why a part was not written; 0 where it was. A device is memory here.
abbrev pub failed_number : Option PartError → ℕ
failed_number None = 0
failed_number (Some part_error.NoStep) = 33
failed_number (Some part_error.OutOfMemory) = 28
failed_number (Some part_error.Device) = 28
