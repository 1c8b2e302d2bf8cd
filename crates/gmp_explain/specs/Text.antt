-- The text of each fact.
use Rattle.std.specs.Prelude.{ℕ, ◌+◌, ◌-◌, ◌==◌, Option, None, Some, List, [], ◌∷◌, ◌++◌, length, if◌then◌else◌, codes, decimal}
use Rattle.std.specs.List.{flat_map, slice_index_or}
use Rattle.std.specs.Str.Lossy.{utf8_valid_len}
use Rattle.gmp_base.specs.declared.number.CNo.{CNo}
use Rattle.gmp_base.specs.declared.number.GNo.{GNo}
use Rattle.gmp_base.specs.declared.number.PNo.{PNo}
use Rattle.gmp_check.specs.declared.state.needs.Need.{Need}
use Rattle.gmp_check.specs.declared.state.needs.Need.TheVariants as need
use Rattle.gmp_seq.specs.declared.status.Mode.{Mode}
use Rattle.gmp_seq.specs.declared.status.Mode.TheVariants as mode
use Rattle.gmp_trace.specs.declared.trace.End.{End}
use Rattle.gmp_trace.specs.declared.trace.End.TheVariants as end_
use Rattle.gmp_trace.specs.Summary.{names}
use Rattle.gmp_explain.specs.declared.fact.Caller.{Caller}
use Rattle.gmp_explain.specs.declared.fact.Caller.TheVariants as caller
use Rattle.gmp_explain.specs.declared.fact.Fact.{Fact}
use Rattle.gmp_explain.specs.declared.fact.Fact.TheVariants as fact
use Rattle.gmp_explain.specs.declared.fact.Help.{Help}
use Rattle.gmp_explain.specs.declared.fact.Help.TheVariants as help
use Rattle.gmp_explain.specs.declared.fact.Role.{Role}
use Rattle.gmp_explain.specs.declared.fact.Role.TheVariants as role
use Rattle.gmp_explain.specs.declared.heard.Lost.{Lost}
use Rattle.gmp_explain.specs.Doing.{goroutine_text}
use Rattle.gmp_waits.specs.Doing.{dealing_text}

-- Words

-- how a run ended
abbrev pub end_words : End → List ℕ
end_words end_.MainEnded = codes "main ended"
end_words end_.AllAsleep = codes "all asleep"
end_words end_.BookFull = codes "book full"
end_words end_.Running = codes "running"

-- what is missing
abbrev pub need_words : Need → List ℕ
need_words need.Awake = codes "the machine is not awake"
need_words need.AwakeOrParked = codes "the machine is neither awake nor parked"
need_words need.Processor = codes "the machine holds no processor"
need_words need.NoProcessor = codes "the machine holds a processor"
need_words need.Goroutine = codes "the machine runs no goroutine"
need_words need.NoGoroutine = codes "the machine runs a goroutine"
need_words need.BlockingCall = codes "the machine makes no blocking call"
need_words need.NoSpin = codes "the machine spins"
need_words need.Ticket = codes "the ticket is not given out"

-- what a machine does
abbrev pub mode_words : Mode → List ℕ
mode_words mode.Awake = codes "awake"
mode_words mode.Parked = codes "parked"
mode_words mode.Calling = codes "in a blocking call"

-- what goroutines have to do with a channel
abbrev pub role_words : Role → List ℕ
role_words role.WaitsToSend = codes "waiting to send"
role_words role.WaitsToReceive = codes "waiting to receive"
role_words role.Sent = codes "sent on in this trace by"
role_words role.Received = codes "received from in this trace by"
role_words role.Closed = codes "closed in this trace by"

-- a call's word, by its place in the table of calls
abbrev pub call_words : ℕ → List ℕ
call_words call = slice_index_or names call []

-- the bytes, where they are text
unfoldable pub text_of : List ℕ → List ℕ
text_of bytes = if utf8_valid_len bytes == length bytes then bytes else []

-- Parts of a fact

-- from which entry on, of a trace that begins at a state
abbrev pub from_text : Option ℕ → List ℕ
from_text None = []
from_text (Some first) = codes ", from entry " ++ (decimal first ++ codes " on")

-- what only one goroutine did
abbrev pub help_text : Help → List ℕ
help_text (help.Sent c) = codes "sent on channel " ++ decimal c.0
help_text (help.Received c) = codes "received from channel " ++ decimal c.0
help_text (help.Filled c) = codes "sent on channel " ++ (decimal c.0 ++ codes ", which is full")
help_text help.Readied = codes "called ready for it"

-- whose calls are counted
abbrev pub caller_text : Caller → List ℕ
caller_text (caller.Machine m) = codes "machine " ++ decimal m.0
caller_text (caller.Processor p) = codes "processor " ++ decimal p.0

-- goroutines, or that there is none
abbrev pub who_text : List GNo → List ℕ
who_text who = if length who == 0 then codes " nobody" else flat_map (λ (g : GNo). codes " " ++ decimal g.0) who

-- values of a channel
abbrev pub numbers_text : List ℕ → List ℕ
numbers_text values = flat_map (λ v. codes " " ++ decimal v) values

-- a call and how often it was made, behind a comma but for the first
abbrev pub times_text : ℕ → ℕ × ℕ → List ℕ
times_text i made = (if i == 0 then [] else codes ",") ++ (codes " " ++ (text_of (call_words made.0) ++ (codes " " ++ decimal made.1)))

-- calls, from this place in their list on
abbrev pub often_from : ℕ → List (ℕ × ℕ) → List ℕ
often_from i [] = []
often_from i (made ∷ calls) = times_text i made ++ often_from (i + 1) calls

abbrev pub often_text : List (ℕ × ℕ) → List ℕ
often_text calls = often_from 0 calls

-- a `ready` that was lost
abbrev pub lost_text : Lost → List ℕ
lost_text lost = codes "a ready by " ++ (decimal lost.by.0 ++ (codes " at entry " ++ (decimal lost.at ++ codes " found it not parked")))

-- which processor a machine holds
abbrev pub holds_text : Option PNo → List ℕ
holds_text (Some p) = codes ", holds processor " ++ decimal p.0
holds_text None = codes ", holds no processor"

-- The facts

-- the values that a channel holds
abbrev pub values_text : CNo → List ℕ → List ℕ
values_text c values = codes "channel " ++ (decimal c.0 ++ (codes ": values" ++ numbers_text values))

-- those that have this to do with a channel
abbrev pub dealers_text : CNo → Role → List GNo → List ℕ
dealers_text c role who = codes "channel " ++ (decimal c.0 ++ (codes ": " ++ (role_words role ++ (codes ":" ++ who_text who))))

-- how often each call was made
abbrev pub calls_text : Caller → List (ℕ × ℕ) → List ℕ
calls_text who calls = caller_text who ++ (codes ":" ++ often_text calls)

-- an entry that is no step
abbrev pub no_step_text : List ℕ → List ℕ
no_step_text line = codes "no step: " ++ text_of line

-- what was counted, and what is said of an entry that is no step
abbrev pub rest_text : Fact → List ℕ
rest_text (fact.Entries who n) = caller_text who ++ (codes ": " ++ (decimal n ++ codes " entries"))
rest_text (fact.Calls who calls) = calls_text who calls.now
rest_text (fact.Longest way) =
    codes "longest from ready to claimed: " ++ (decimal (way.claimed - way.ready) ++ (codes " entries, goroutine "
    ++ (decimal way.g.0 ++ (codes ", from entry " ++ (decimal way.ready ++ (codes " to " ++ decimal way.claimed))))))
rest_text (fact.NoStep line) = no_step_text line.now
rest_text (fact.Machine m mode holds spins) =
    codes "before it: machine " ++ (decimal m.0 ++ (codes " is " ++ (mode_words mode ++ (holds_text holds ++ (if spins then codes ", spins" else [])))))
rest_text (fact.Allowed reply) = codes "allowed: " ++ text_of reply.now
rest_text (fact.Lacks need) = codes "allowed: none, since " ++ need_words need
rest_text fact.Over = codes "allowed: none, since the run was over"
rest_text (fact.Leads end) = codes "the entries lead to: " ++ end_words end
rest_text _ = []

-- what is said of channels and cycles, and the rest
abbrev pub channel_text : Fact → List ℕ
channel_text (fact.Channel c closed room holds) =
    codes "channel " ++ (decimal c.0 ++ (codes ": " ++ ((if closed then codes "closed" else codes "open")
    ++ (codes ", room " ++ (decimal room ++ (codes ", holds " ++ decimal holds))))))
channel_text (fact.Values c values) = values_text c values.now
channel_text (fact.Dealers c role who) = dealers_text c role who.now
channel_text (fact.Link g by help) =
    codes "cycle: " ++ (decimal g.0 ++ (codes " waits for " ++ (decimal by.0 ++ (codes ", in this trace the only one that " ++ help_text help))))
channel_text fact.Cycles = codes "cycle: so it was seen here; it proves nothing of other runs"
channel_text x = rest_text x

-- a fact, on one line
abbrev pub fact_text : Fact → List ℕ
fact_text (fact.End end entries first) = codes "outcome: " ++ (end_words end ++ (codes ", after " ++ (decimal entries ++ (codes " entries" ++ from_text first))))
fact_text (fact.Goroutine told) = goroutine_text told.g told.status.now told.since told.leak
fact_text (fact.Case g offer) =
    codes "goroutine " ++ (decimal g.0 ++ (codes ": case " ++ (decimal offer.now.case ++ (codes " would " ++ dealing_text offer.now))))
fact_text (fact.Lost g lost) = codes "goroutine " ++ (decimal g.0 ++ (codes ": " ++ lost_text lost))
fact_text (fact.Latest r) = codes "goroutine " ++ (decimal r.g.0 ++ (codes ": its latest ticket is " ++ (decimal r.g.0 ++ (codes "." ++ decimal r.epoch))))
fact_text x = channel_text x
