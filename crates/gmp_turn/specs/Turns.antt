-- One book call of a machine: what it hands the call, and what becomes of both.
use Rattle.std.specs.declared.alloc.Global.{Global}
use Rattle.std.specs.Prelude.{◌≡◌, ℕ, Bool, true, false, Option, Some, None, IsNone, is_some, if◌then◌else◌, Result, Ok, Err, IfOk, IfErr}
use Rattle.gmp_base.specs.declared.number.MNo.{MNo}
use Rattle.gmp_base.specs.declared.pass.Pass.{Pass}
use Rattle.gmp_base.specs.declared.refusal.Refusal.{Refusal}
use Rattle.gmp_seq.specs.declared.call.Call.{Call}
use Rattle.gmp_seq.specs.declared.call.Call.TheVariants as call
use Rattle.gmp_seq.specs.declared.call.Reply.{Reply}
use Rattle.gmp_seq.specs.declared.call.Reply.TheVariants as reply
use Rattle.gmp_journal.specs.Done.{IsDoneTo}
use Rattle.gmp_seq.specs.Needs.{WantsMemory}
use Rattle.gmp_journal.specs.Grants.{Chooses, NeedsMemory}
use Rattle.gmp_journal.specs.Handed.{goroutine_in, processor_in}
use Rattle.gmp_journal.specs.Log.{Records}
use Rattle.gmp_journal.specs.Refusals.{Says, refusal_in, refusal_of}
use Rattle.gmp_book.specs.declared.values.Values.{Values}
use Rattle.gmp_book.specs.Book.{BookContents}
use Rattle.gmp_book.specs.Hands.{Hands, handed_of, values_back}
use Rattle.gmp_driver.specs.declared.act.Act.{Act}
use Rattle.gmp_driver.specs.declared.act.Act.TheVariants as act
use Rattle.gmp_driver.specs.declared.act.Frequent.{Frequent}
use Rattle.gmp_driver.specs.declared.act.Frequent.TheVariants as frequent
use Rattle.gmp_driver.specs.declared.act.Told.{Told}
use Rattle.gmp_driver.specs.declared.act.Told.TheVariants as told
use Rattle.gmp_driver.specs.declared.load.Load.{Load}
use Rattle.gmp_driver.specs.declared.registers.Registers.{Registers}
use Rattle.gmp_driver.specs.Loads.{load_of, parts_of}
use Rattle.gmp_driver.specs.Machine.{Machine}
use Rattle.gmp_driver.specs.Registers.{first_of, joined, unused, used}
use Rattle.gmp_driver.specs.Table.{after}

-- Memory

-- a make is handed memory, and no other act is
abbrev pub HasMemory : Act → Option Global → Type 0
HasMemory (act.Call asked) memory = NeedsMemory asked memory
HasMemory _ memory = IsNone memory

-- Values between a machine and the book

-- what the book is handed of what a machine hands out, which has one ticket at most
abbrev pub values_in : {T Q : Type 0} → Load T Q → Values T Q
values_in load = record { held = load.held; called = load.called; ticket = first_of load.to_claim load.to_store; proc = load.proc }

-- is the ticket that comes back one to claim: that of a take, and one that was to claim before
abbrev pub is_to_claim : {T Q : Type 0} → Call → Load T Q → Bool
is_to_claim call.Take load = true
is_to_claim asked load = is_some load.to_claim

-- what the machine gets back
abbrev pub load_back : {T Q : Type 0} → Pass → Bool → Values T Q → Load T Q
load_back pass b v = record { pass = pass; held = v.held; called = v.called; to_claim = if b then v.ticket else None; to_store = if b then None else v.ticket; proc = v.proc }

-- what the machine hands out for its call
abbrev pub handed_out : {T Q : Type 0} → Machine T Q → Pass → Call → Load T Q
handed_out x pass asked = load_of x.run pass (used (act.Call asked) x.hand)

-- what it holds once it has these values back
abbrev pub hand_with : {T Q : Type 0} → Call → Registers T Q → Load T Q → Registers T Q
hand_with asked hand back = joined (parts_of back) (unused (act.Call asked) hand)

-- One call

-- what the driver is told of the book's answer
abbrev pub told_to_driver : Result Reply Refusal → Told
told_to_driver (Ok answer) = told.Replied answer
told_to_driver (Err why) = told.Refused why

-- The one call that the machine names was made, or was refused and changed nothing, and the machine was told exactly that.
pub record Turns {T Q : Type 0} (x : Machine T Q) (book : BookContents T Q) (asked : Call) (word : ℕ) (result : Result Reply Refusal) (x' : Machine T Q) (book' : BookContents T Q) : Type 0 where
  -- the pass before and after the call, and the values that came back
  pub before : Pass
  pub behind : Pass
  pub back : Values T Q
  pub pass : x.pass ≡ Some before
  pub refused : Says (WantsMemory book.log.limits asked book.log.state) (refusal_of book.log before asked (handed_of (values_in (handed_out x before asked)))) (refusal_in result)
  pub err : IfErr result (λ why. (book' ≡ book) × (behind ≡ before) × (back ≡ values_back asked why (values_in (handed_out x before asked))))
  pub records : IfOk result (λ answer. Records book.log before asked answer book'.log behind)
  -- where a word is drawn it is this one
  pub choice : IfOk result (λ answer. Chooses asked word answer book.log.state book.log.shelf)
  pub hands : IfOk result (λ answer. Hands asked answer (values_in (handed_out x before asked)) back book book')
  pub done : IfOk result (λ answer. let v = handed_of (values_in (handed_out x before asked)) in IsDoneTo asked before.m (goroutine_in v) (processor_in v) answer book.log.state book'.log.state)
  pub machine : x' ≡ after (record x { pass = Some behind; hand = hand_with asked x.hand (load_back behind (is_to_claim asked (handed_out x before asked)) back) }) (told_to_driver result)

-- what a call is answered whose reply is written in place
abbrev pub replied : Reply → Result Unit Refusal → Result Reply Refusal
replied answer (Ok done) = Ok answer
replied answer (Err why) = Err why

-- the machine that a reply names to wake
abbrev pub woken_in : Reply → Option MNo
woken_in (reply.Wakes m) = Some m
woken_in (reply.Entered p woken) = woken
woken_in _ = None

-- the machine that the book's answer names to wake
abbrev pub woken_by : Result Reply Refusal → Option MNo
woken_by (Ok answer) = woken_in answer
woken_by (Err why) = None

-- the call was made or refused, and this machine is to be woken
abbrev pub Wakes : {T Q : Type 0} → Machine T Q → BookContents T Q → Call → ℕ → Option MNo → Machine T Q → BookContents T Q → Type 0
Wakes x book asked word woken x' book' = (result : Result Reply Refusal) × Turns x book asked word result x' book' × (woken ≡ woken_by result)

-- is it a call of the book
abbrev pub is_call : Frequent → Bool
is_call frequent.Pop = false
is_call frequent.Push = false
is_call frequent.Resume = false
is_call frequent.Other = false
is_call _ = true
