-- What brief calls and replies stand for, with what lies beside them.
use Rattle.std.specs.Prelude.{ℕ, ◌<◌, ◌%◌, ◌^◌, Bool, true, false, Option, None, Some, List, [], ◌∷◌, map, slice_get}
use Rattle.gmp_base.specs.declared.ask.Fault.TheVariants as fault
use Rattle.gmp_base.specs.declared.number.Readiness.{Readiness}
use Rattle.gmp_seq.specs.declared.call.Call.{Call}
use Rattle.gmp_seq.specs.declared.call.Call.TheVariants as call
use Rattle.gmp_seq.specs.declared.call.Entry.{Entry}
use Rattle.gmp_seq.specs.declared.call.Relay.{Relay}
use Rattle.gmp_seq.specs.declared.call.Reply.{Reply}
use Rattle.gmp_seq.specs.declared.call.Reply.TheVariants as reply
use Rattle.gmp_seq.specs.declared.call.Taken.TheVariants as taken
use Rattle.gmp_history.specs.declared.brief.BriefCall.{BriefCall}
use Rattle.gmp_history.specs.declared.brief.BriefReply.{BriefReply}
use Rattle.gmp_history.specs.declared.brief.CallKind.{CallKind}
use Rattle.gmp_history.specs.declared.brief.CallKind.TheVariants as kind
use Rattle.gmp_history.specs.declared.brief.Choosing.{Choosing}
use Rattle.gmp_history.specs.declared.brief.ReplyKind.{ReplyKind}
use Rattle.gmp_history.specs.declared.brief.ReplyKind.TheVariants as short
use Rattle.gmp_history.specs.declared.brief.Row.{Row}
use Rattle.gmp_history.specs.declared.brief.Served.{Served}
use Rattle.gmp_history.specs.declared.heads.Head.{Head}

-- a history's entries, for how many it has room, and for how many once all are let go
pub record HistoryContents : Type 0 where
  pub list : List Entry
  pub room : ℕ
  pub lasting : ℕ

-- the readiness of a goroutine's number and an epoch
abbrev pub ready_of : ℕ → ℕ → Readiness
ready_of number word = record { g = record { 0 = number }; epoch = word }

-- the select of this choosing, where there is one
abbrev pub select_of : Option Choosing → Call
select_of None = call.Select [] false None
select_of (Some x) = call.Select x.cases x.has_default x.until

-- the call of this kind, number and word, with the choosings of selects
abbrev pub call_of : List Choosing → CallKind → ℕ → ℕ → Call
call_of s kind.Acquire number word = call.Acquire
call_of s kind.Take number word = call.Take
call_of s kind.Put number word = call.Put (ready_of number word)
call_of s kind.Claim number word = call.Claim (ready_of number word)
call_of s kind.Go number word = call.Go (record { 0 = number })
call_of s kind.Spawn number word = call.Spawn
call_of s kind.Yield number word = call.Yield
call_of s kind.Exit number word = call.Exit
call_of s kind.Make number word = call.Make (word % 2 ^ 32)
call_of s kind.Send number word = call.Send (Some (record { 0 = number })) word
call_of s kind.SendNil number word = call.Send None word
call_of s kind.Recv number word = call.Recv (Some (record { 0 = number }))
call_of s kind.RecvNil number word = call.Recv None
call_of s kind.Close number word = call.Close (Some (record { 0 = number }))
call_of s kind.CloseNil number word = call.Close None
call_of s kind.Len number word = call.Len (Some (record { 0 = number }))
call_of s kind.LenNil number word = call.Len None
call_of s kind.Cap number word = call.Cap (Some (record { 0 = number }))
call_of s kind.CapNil number word = call.Cap None
call_of s kind.Select number word = select_of (slice_get s word)
call_of s kind.Sleep number word = call.Sleep word
call_of s kind.Procs number word = call.Procs (word % 2 ^ 8)
call_of s kind.Gopark number word = call.Gopark
call_of s kind.Ready number word = call.Ready (record { 0 = number })
call_of s kind.Enter number word = call.Enter
call_of s kind.Leave number word = call.Leave word
call_of s kind.Spin number word = call.Spin
call_of s kind.Woken number word = call.Woken
call_of s kind.Keep number word = call.Keep
call_of s kind.Unspin number word = call.Unspin
call_of s kind.Poke number word = call.Poke
call_of s kind.Declare number word = call.Declare
call_of s kind.Bare number word = call.Bare
call_of s kind.Park number word = call.Park
call_of s kind.Tick number word = call.Tick word

-- what the receive got that served a sender, where there is one
abbrev pub served_of : Option Served → Served
served_of None = record { value = 0; was_sent = false; from = record { sender = ready_of 0 0; value = 0 } }
served_of (Some x) = x

abbrev pub got_of : Served → Reply
got_of x = reply.Got x.value x.was_sent (Some x.from)

abbrev pub chose_of : ℕ → Served → Reply
chose_of small x = reply.Chose small (taken.Got x.value x.was_sent (Some x.from))

-- the reply of this kind, small number, number and word, with what the receives got that served senders
abbrev pub reply_of : List Served → ReplyKind → ℕ → ℕ → ℕ → Reply
reply_of served short.Proc small number word = reply.Proc (record { 0 = small })
reply_of served short.Nothing small number word = reply.Nothing
reply_of served short.Ticket small number word = reply.Ticket (ready_of number word)
reply_of served short.Shelf small number word = reply.Shelf
reply_of served short.Held small number word = reply.Held
reply_of served short.Shelved small number word = reply.Shelved (ready_of number word)
reply_of served short.Dead small number word = reply.Dead
reply_of served short.MainEnded small number word = reply.MainEnded
reply_of served short.Channel small number word = reply.Channel (record { 0 = number })
reply_of served short.Sent small number word = reply.Sent None
reply_of served short.SentTo small number word = reply.Sent (Some (ready_of number word))
reply_of served short.Got small number word = reply.Got word true None
reply_of served short.GotUnsent small number word = reply.Got word false None
reply_of served short.GotFrom small number word = got_of (served_of (slice_get served word))
reply_of served short.Waits small number word = reply.Waits
reply_of served short.Closed small number word = reply.Closed word
reply_of served short.Number small number word = reply.Number word
reply_of served short.ChoseSent small number word = reply.Chose small (taken.Sent None)
reply_of served short.ChoseSentTo small number word = reply.Chose small (taken.Sent (Some (ready_of number word)))
reply_of served short.ChoseGot small number word = reply.Chose small (taken.Got word true None)
reply_of served short.ChoseGotUnsent small number word = reply.Chose small (taken.Got word false None)
reply_of served short.ChoseGotFrom small number word = chose_of small (served_of (slice_get served word))
reply_of served short.ChoseFailed small number word = reply.Chose small taken.Failed
reply_of served short.Default small number word = reply.Default
reply_of served short.Entered small number word = reply.Entered (record { 0 = small }) None
reply_of served short.EnteredWaking small number word = reply.Entered (record { 0 = small }) (Some (record { 0 = number % 2 ^ 8 }))
reply_of served short.Runs small number word = reply.Runs (record { 0 = small })
reply_of served short.Idle small number word = reply.Idle (record { 0 = small })
reply_of served short.Yes small number word = reply.Answer true
reply_of served short.No small number word = reply.Answer false
reply_of served short.Done small number word = reply.Done
reply_of served short.Wakes small number word = reply.Wakes (record { 0 = number % 2 ^ 8 })
reply_of served short.Parked small number word = reply.Parked
reply_of served short.Work small number word = reply.Work
reply_of served short.LookAgain small number word = reply.LookAgain
reply_of served short.Mind small number word = reply.Mind word
reply_of served short.AllAsleep small number word = reply.AllAsleep
reply_of served short.Woke small number word = reply.Woke word
reply_of served short.NoSuchBody small number word = reply.Fault fault.NoSuchBody
reply_of served short.AlreadyStarted small number word = reply.Fault fault.AlreadyStarted
reply_of served short.NoSuchChannel small number word = reply.Fault fault.NoSuchChannel
reply_of served short.SendOnClosed small number word = reply.Fault fault.SendOnClosed
reply_of served short.CloseOfClosed small number word = reply.Fault fault.CloseOfClosed
reply_of served short.CloseOfNil small number word = reply.Fault fault.CloseOfNil
reply_of served short.NotParked small number word = reply.Fault fault.NotParked
reply_of served short.BadCapacity small number word = reply.Fault fault.BadCapacity
reply_of served short.TooManyChannels small number word = reply.Fault fault.TooManyChannels
reply_of served short.BadProcs small number word = reply.Fault fault.BadProcs

-- the call, as a row has it
abbrev pub call_part : Row → BriefCall
call_part x = record { kind = x.call; number = x.call_number; word = x.call_word }

-- the reply, as a row has it
abbrev pub reply_part : Row → BriefReply
reply_part x = record { kind = x.reply; small = x.reply_small; number = x.reply_number; word = x.reply_word }

-- the entry of a row
abbrev pub entry_of : List Choosing → List Served → Row → Entry
entry_of s served x = record { m = x.m; k = x.k; call = call_of s x.call x.call_number x.call_word; reply = reply_of served x.reply x.reply_small x.reply_number x.reply_word }

abbrev pub entries_of : List Choosing → List Served → List Row → List Entry
entries_of s served rows = map (entry_of s served) rows

abbrev pub row_head : Row → Head
row_head x = record { m = x.m; call = x.call }

-- the choosing of a select is there
abbrev pub IsCallIn : ℕ → CallKind → ℕ → Type 0
IsCallIn n kind.Select word = word < n
IsCallIn n _ word = Unit

-- what a receive got that served a sender is there
abbrev pub IsReplyIn : ℕ → ReplyKind → ℕ → Type 0
IsReplyIn n short.GotFrom word = word < n
IsReplyIn n short.ChoseGotFrom word = word < n
IsReplyIn n _ word = Unit

pub record IsIn (choosings served : ℕ) (x : Row) : Type 0 where
  pub call : IsCallIn choosings x.call x.call_word
  pub reply : IsReplyIn served x.reply x.reply_word

-- is the call a select
abbrev pub is_select : Call → Bool
is_select (call.Select cases has_default until) = true
is_select _ = false

-- what a call adds to the choosings
abbrev pub choosing_in : Call → List Choosing
choosing_in (call.Select cases has_default until) = record { cases = cases; has_default = has_default; until = until } ∷ []
choosing_in _ = []

abbrev pub served_list : ℕ → Bool → Option Relay → List Served
served_list v sent None = []
served_list v sent (Some x) = record { value = v; was_sent = sent; from = x } ∷ []

-- what a reply adds to what the receives got that served senders
abbrev pub served_by : Reply → List Served
served_by (reply.Got v sent from) = served_list v sent from
served_by (reply.Chose i (taken.Got v sent from)) = served_list v sent from
served_by _ = []
