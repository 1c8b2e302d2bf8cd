-- What words are taken for before a reader compares. Nothing is refused.
use Rattle.std.specs.Prelude.{ℕ, zero, suc, ◌||◌, ◌&&◌, ltb, ◌+◌, ◌*◌, ◌%◌, ◌^◌, ◌==◌, Bool, true, false, if◌then◌else◌, List, [], ◌∷◌, ◌++◌, map, codes, drop, slice_index_or, Option, None, Some}
use Rattle.std.specs.Str.{bytes_eq}
use Rattle.gmp_base.specs.declared.ask.Fault.{Fault}
use Rattle.gmp_base.specs.declared.ask.Fault.TheVariants as fault
use Rattle.gmp_base.specs.declared.cases.Case.{Case}
use Rattle.gmp_base.specs.declared.cases.Case.TheVariants as case
use Rattle.gmp_base.specs.declared.number.CNo.{CNo}
use Rattle.gmp_base.specs.declared.number.MNo.{MNo}
use Rattle.gmp_base.specs.declared.number.PNo.{PNo}
use Rattle.gmp_base.specs.declared.number.Readiness.{Readiness}
use Rattle.gmp_seq.specs.declared.call.Call.{Call}
use Rattle.gmp_seq.specs.declared.call.Call.TheVariants as call
use Rattle.gmp_seq.specs.declared.call.Entry.{Entry}
use Rattle.gmp_seq.specs.declared.call.Limits.{Limits}
use Rattle.gmp_seq.specs.declared.call.Relay.{Relay}
use Rattle.gmp_seq.specs.declared.call.Reply.{Reply}
use Rattle.gmp_seq.specs.declared.call.Reply.TheVariants as reply
use Rattle.gmp_seq.specs.declared.call.Taken.{Taken}
use Rattle.gmp_seq.specs.declared.call.Taken.TheVariants as taken
use Rattle.gmp_trace.specs.declared.trace.End.{End}
use Rattle.gmp_trace.specs.declared.trace.End.TheVariants.{MainEnded, AllAsleep, BookFull, Running}

-- Words

-- the words of the first line, behind the front of a word
abbrev pub words_on : List ℕ → List ℕ → List (List ℕ)
words_on front [] = front ∷ []
words_on front (b ∷ bs) = if b == 10 then front ∷ [] else (if b == 32 then front ∷ words_on [] bs else words_on (front ++ b ∷ []) bs)

-- each byte is above the space
abbrev pub is_plain : List ℕ → Bool
is_plain [] = true
is_plain (b ∷ w) = ltb 32 b && is_plain w

-- a text before the first such byte, and behind it
abbrev pub parted_on : ℕ → List ℕ → List ℕ → List ℕ × List ℕ
parted_on byte front [] = (front, [])
parted_on byte front (b ∷ bs) = if b == byte then (front, bs) else parted_on byte (front ++ b ∷ []) bs

unfoldable pub parted : ℕ → List ℕ → List ℕ × List ℕ
parted byte text = parted_on byte [] text

-- words before the first arrow, and behind it
abbrev pub sides_on : List (List ℕ) → List (List ℕ) → List (List ℕ) × List (List ℕ)
sides_on front [] = (front, [])
sides_on front (w ∷ ws) = if bytes_eq w (codes "->") then (front, ws) else sides_on (front ++ w ∷ []) ws

unfoldable pub sides : List (List ℕ) → List (List ℕ) × List (List ℕ)
sides words = sides_on [] words

-- the number of digits that stand behind a number
abbrev pub number_on : ℕ → List ℕ → ℕ
number_on n [] = n
number_on n (d ∷ ds) = number_on ((n * 10 % 2 ^ 64 + d % 16) % 2 ^ 64) ds

unfoldable pub number_read : List ℕ → ℕ
number_read word = number_on 0 word

unfoldable pub narrow : ℕ → ℕ → ℕ
narrow bits n = n % 2 ^ bits

abbrev pub word_at : ℕ → List (List ℕ) → List ℕ
word_at i words = slice_index_or words i []

abbrev pub byte_at : ℕ → List ℕ → ℕ
byte_at i word = slice_index_or word i 0

-- the first byte of a text, or 0
abbrev pub letter : List ℕ → ℕ
letter text = byte_at 0 text

abbrev pub letter_at : ℕ → List (List ℕ) → ℕ
letter_at i words = letter (word_at i words)

abbrev pub number_at : ℕ → List (List ℕ) → ℕ
number_at i words = number_read (word_at i words)

unfoldable pub readiness_read : List ℕ → Readiness
readiness_read word = record { g = record { 0 = narrow 16 (number_read (parted 46 word).0) }; epoch = number_read (parted 46 word).1 }

unfoldable pub channel_read : List ℕ → Option CNo
channel_read word = if bytes_eq word (codes "nil") then None else Some (record { 0 = narrow 16 (number_read word) })

-- Calls

-- a case before its first colon
unfoldable pub is_case : List ℕ → Bool
is_case word = bytes_eq (parted 58 word).0 (codes "send") || bytes_eq (parted 58 word).0 (codes "recv")

unfoldable pub case_read : List ℕ → Case
case_read word =
    if bytes_eq (parted 58 word).0 (codes "send") then case.Send (channel_read (parted 58 (parted 58 word).1).0) (number_read (parted 58 (parted 58 word).1).1)
    else case.Recv (channel_read (parted 58 word).1)

-- at most n cases, and the words behind them
abbrev pub leading_cases : ℕ → List (List ℕ) → List Case × List (List ℕ)
leading_cases zero words = ([], words)
leading_cases (suc n) [] = ([], [])
leading_cases (suc n) (w ∷ ws) = if is_case w then (case_read w ∷ (leading_cases n ws).0, (leading_cases n ws).1) else ([], w ∷ ws)

abbrev pub default_of : List (List ℕ) → Bool × List (List ℕ)
default_of words = if bytes_eq (word_at 0 words) (codes "default") then (true, drop 1 words) else (false, words)

abbrev pub until_of : List (List ℕ) → Option ℕ
until_of words = if bytes_eq (word_at 0 words) (codes "until") then Some (number_at 1 words) else None

unfoldable pub select_read : List (List ℕ) → Call
select_read words =
    let cases = leading_cases 8 words in
    let default = default_of cases.1 in
    call.Select cases.0 default.0 (until_of default.1)

-- The first and the third letter of a call's name tell it from the others.
unfoldable pub call_named : ℕ → ℕ → List (List ℕ) → Call
call_named first third words =
    if first == letter (codes "acquire") then call.Acquire
    else (if first == letter (codes "bare") then call.Bare
    else (if first == letter (codes "claim") then (if third == byte_at 2 (codes "claim") then call.Claim (readiness_read (word_at 1 words)) else (if third == byte_at 2 (codes "close") then call.Close (channel_read (word_at 1 words)) else call.Cap (channel_read (word_at 1 words))))
    else (if first == letter (codes "declare") then call.Declare
    else (if first == letter (codes "exit") then (if third == byte_at 2 (codes "exit") then call.Exit else call.Enter)
    else (if first == letter (codes "gopark") then (if third == byte_at 2 (codes "gopark") then call.Gopark else call.Go (record { 0 = narrow 16 (number_at 1 words) }))
    else (if first == letter (codes "keep") then call.Keep
    else (if first == letter (codes "leave") then (if third == byte_at 2 (codes "leave") then call.Leave (number_at 1 words) else call.Len (channel_read (word_at 1 words)))
    else (if first == letter (codes "make") then call.Make (narrow 32 (number_at 1 words))
    else (if first == letter (codes "put") then (if third == byte_at 2 (codes "put") then call.Put (readiness_read (word_at 1 words)) else (if third == byte_at 2 (codes "poke") then call.Poke else (if third == byte_at 2 (codes "procs") then call.Procs (narrow 8 (number_at 1 words)) else call.Park)))
    else (if first == letter (codes "ready") then (if third == byte_at 2 (codes "ready") then call.Ready (record { 0 = narrow 16 (number_at 1 words) }) else call.Recv (channel_read (word_at 1 words)))
    else (if first == letter (codes "send") then (if third == byte_at 2 (codes "send") then call.Send (channel_read (word_at 1 words)) (number_at 2 words) else (if third == byte_at 2 (codes "select") then select_read (drop 1 words) else (if third == byte_at 2 (codes "sleep") then call.Sleep (number_at 1 words) else (if third == byte_at 2 (codes "spawn") then call.Spawn else call.Spin))))
    else (if first == letter (codes "take") then (if third == byte_at 2 (codes "take") then call.Take else call.Tick (number_at 1 words))
    else (if first == letter (codes "unspin") then call.Unspin
    else (if first == letter (codes "woken") then call.Woken
    else call.Yield))))))))))))))

abbrev pub call_of : List (List ℕ) → Call
call_of words = call_named (letter_at 0 words) (byte_at 2 (word_at 0 words)) words

-- Replies

unfoldable pub fault_of : ℕ → Fault
fault_of n =
    if n == 1 then fault.NoSuchBody
    else (if n == 2 then fault.AlreadyStarted
    else (if n == 3 then fault.NoSuchChannel
    else (if n == 4 then fault.SendOnClosed
    else (if n == 5 then fault.CloseOfClosed
    else (if n == 6 then fault.CloseOfNil
    else (if n == 7 then fault.NotParked
    else (if n == 8 then fault.BadCapacity
    else (if n == 9 then fault.TooManyChannels
    else fault.BadProcs))))))))

-- of `sent`, who was served
abbrev pub served_of : List (List ℕ) → Option Readiness
served_of words = if letter_at 1 words == letter (codes "wakes") then Some (readiness_read (word_at 2 words)) else None

-- of `got` with its value, who was served
abbrev pub relay_of : List (List ℕ) → Option Relay
relay_of words =
    if letter_at 3 words == letter (codes "wakes") then Some (record { sender = readiness_read (word_at 4 words); value = number_at 6 words }) else None

-- of `idle` with its processor, which machine was woken
abbrev pub woken_of : List (List ℕ) → Option MNo
woken_of words = if letter_at 2 words == letter (codes "wakes") then Some (record { 0 = narrow 8 (number_at 3 words) }) else None

-- what stands behind the case of a select
unfoldable pub taken_of : List (List ℕ) → Taken
taken_of words =
    if letter_at 0 words == letter (codes "sent") then taken.Sent (served_of words)
    else (if letter_at 0 words == letter (codes "got") then taken.Got (number_at 1 words) (letter_at 2 words == letter (codes "true")) (relay_of words)
    else taken.Failed)

-- of a declare, the processor that was given up; of any other call, what an enter is answered
unfoldable pub idle_of : Call → PNo → Option MNo → Reply
idle_of call.Declare p None = reply.Idle p
idle_of _ p woken = reply.Entered p woken

abbrev pub shelf_of : List ℕ → Reply
shelf_of word = if bytes_eq word [] then reply.Shelf else reply.Shelved (readiness_read word)

-- The first three letters of a reply's name tell it from the others.
unfoldable pub reply_named : Call → ℕ → ℕ → ℕ → List (List ℕ) → Reply
reply_named asked first second third words =
    if first == letter (codes "all") then reply.AllAsleep
    else (if first == letter (codes "chan") then (if third == byte_at 2 (codes "chan") then reply.Channel (record { 0 = narrow 16 (number_at 1 words) }) else (if second == byte_at 1 (codes "closed") then reply.Closed (number_at 1 words) else reply.Chose (narrow 8 (number_at 1 words)) (taken_of (drop 2 words))))
    else (if first == letter (codes "dead") then (if third == byte_at 2 (codes "dead") then reply.Dead else (if third == byte_at 2 (codes "default") then reply.Default else reply.Done))
    else (if first == letter (codes "fault") then (if third == byte_at 2 (codes "fault") then reply.Fault (fault_of (number_at 1 words)) else reply.Answer false)
    else (if first == letter (codes "got") then reply.Got (number_at 1 words) (letter_at 2 words == letter (codes "true")) (relay_of words)
    else (if first == letter (codes "held") then reply.Held
    else (if first == letter (codes "idle") then idle_of asked (record { 0 = narrow 8 (number_at 1 words) }) (woken_of words)
    else (if first == letter (codes "look") then reply.LookAgain
    else (if first == letter (codes "main") then (if third == byte_at 2 (codes "main") then reply.MainEnded else reply.Mind (number_at 1 words))
    else (if first == letter (codes "none") then (if third == byte_at 2 (codes "none") then reply.Nothing else reply.Number (number_at 1 words))
    else (if first == letter (codes "proc") then (if third == byte_at 2 (codes "proc") then reply.Proc (record { 0 = narrow 8 (number_at 1 words) }) else reply.Parked)
    else (if first == letter (codes "runs") then reply.Runs (record { 0 = narrow 8 (number_at 1 words) })
    else (if first == letter (codes "shelf") then (if third == byte_at 2 (codes "shelf") then shelf_of (word_at 1 words) else reply.Sent (served_of words))
    else (if first == letter (codes "ticket") then (if third == byte_at 2 (codes "ticket") then reply.Ticket (readiness_read (word_at 1 words)) else reply.Answer true)
    else (if third == byte_at 2 (codes "waits") then reply.Waits
    else (if third == byte_at 2 (codes "work") then reply.Work
    else (if second == byte_at 1 (codes "wakes") then reply.Wakes (record { 0 = narrow 8 (number_at 1 words) })
    else reply.Woke (number_at 1 words)))))))))))))))))

abbrev pub reply_of : Call → List (List ℕ) → Reply
reply_of asked words = reply_named asked (letter_at 0 words) (byte_at 1 (word_at 0 words)) (byte_at 2 (word_at 0 words)) words

-- Lines

unfoldable pub entry_of : List (List ℕ) → Entry
entry_of words =
    let asked = call_of (sides (drop 2 words)).0 in
    record {
      m = record { 0 = narrow 8 (number_read (parted 46 (word_at 1 words)).0) };
      k = number_read (parted 46 (word_at 1 words)).1;
      call = asked;
      reply = reply_of asked (sides (drop 2 words)).1;
    }

unfoldable pub end_in : List (List ℕ) → End
end_in words =
    if bytes_eq (word_at 1 words) (codes "main") then MainEnded
    else (if bytes_eq (word_at 1 words) (codes "all") then AllAsleep
    else (if bytes_eq (word_at 1 words) (codes "book") then BookFull
    else Running))

-- the number behind the word `room`, or else that of the entries
abbrev pub room_at : List (List ℕ) → ℕ
room_at words = if bytes_eq (word_at 11 words) (codes "room") then number_at 12 words else number_at 10 words

unfoldable pub limits_read : List (List ℕ) → Limits
limits_read words = record {
  procs = narrow 8 (number_at 2 words);
  machines = narrow 8 (number_at 4 words);
  channels = narrow 16 (number_at 8 words);
  entries = number_at 10 words;
  room = narrow 32 (room_at words);
}

unfoldable pub bodies_of : List (List ℕ) → ℕ
bodies_of words = narrow 16 (number_at 6 words)

abbrev pub capacity_of : List ℕ → ℕ
capacity_of word = narrow 32 (number_read word)

abbrev pub capacities_of : List (List ℕ) → List ℕ
capacities_of words = map capacity_of (drop 1 words)
