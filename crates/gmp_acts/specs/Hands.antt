-- What a machine holds, without bodies and owners, and what it holds after a call of the book: by the call and its reply, not by the place.
use Rattle.std.specs.Prelude.{ℕ, Option, Some, None}
use Rattle.std.specs.Option.{option_map}
use Rattle.gmp_base.specs.declared.ask.Woke.{Woke}
use Rattle.gmp_base.specs.declared.ask.Woke.TheVariants as woke
use Rattle.gmp_base.specs.declared.number.Readiness.{Readiness}
use Rattle.gmp_seq.specs.declared.call.Call.{Call}
use Rattle.gmp_seq.specs.declared.call.Call.TheVariants as call
use Rattle.gmp_seq.specs.declared.call.Reply.{Reply}
use Rattle.gmp_seq.specs.declared.call.Reply.TheVariants as reply
use Rattle.gmp_seq.specs.Step.{ticket_in, woke_after}
use Rattle.gmp_seq.specs.Table.{Table, stored_at}
use Rattle.gmp_driver.specs.declared.registers.CalledParts.{CalledParts}
use Rattle.gmp_driver.specs.declared.registers.HeldParts.{HeldParts}
use Rattle.gmp_driver.specs.declared.registers.ProcParts.{ProcParts}
use Rattle.gmp_driver.specs.declared.registers.Registers.{Registers}
use Rattle.gmp_driver.specs.Machine.{Machine}
use Rattle.gmp_driver.specs.Registers.{but, put_value}

-- numbers and answers in place of values
abbrev pub PlainHand : Type 0
PlainHand = Registers Unit Unit

abbrev pub PlainMachine : Type 0
PlainMachine = Machine Unit Unit

abbrev pub plain_proc : {Q : Type 0} → ProcParts Q → ProcParts Unit
plain_proc x = record { p = x.p; owner = tt }

abbrev pub plain_held : {T : Type 0} → HeldParts T → HeldParts Unit
plain_held x = record { g = x.g; woke = x.woke; body = tt }

abbrev pub plain_called : {T : Type 0} → CalledParts T → CalledParts Unit
plain_called x = record { g = x.g; body = tt }

abbrev pub plain : {T Q : Type 0} → Registers T Q → PlainHand
plain hand = record {
  processor = option_map plain_proc hand.processor;
  held = option_map plain_held hand.held;
  called = option_map plain_called hand.called;
  to_claim = hand.to_claim;
  to_store = hand.to_store;
}

abbrev pub plain_machine : {T Q : Type 0} → Machine T Q → PlainMachine
plain_machine x = record { run = x.run; procs = x.procs; place = x.place; fresh = x.fresh; turns = x.turns; aside = x.aside; pass = x.pass; hand = plain x.hand }

-- Goroutines in hand

-- the goroutine of a readiness, as the machine that claims it holds it
abbrev pub claimed_parts : Table → Readiness → HeldParts Unit
claimed_parts t r = record { g = r.g; woke = stored_at t r.g; body = tt }

-- the same goroutine, to be told this
abbrev pub retold : {T : Type 0} → Woke → Option (HeldParts T) → Option (HeldParts T)
retold answer None = None
retold answer (Some h) = Some (record h { woke = answer })

-- it goes into its blocking call
abbrev pub called_from : {T : Type 0} → Option (HeldParts T) → Option (CalledParts T)
called_from None = None
called_from (Some h) = Some (record { g = h.g; body = h.body })

-- it comes back with this number
abbrev pub running_again : {T : Type 0} → ℕ → Option (CalledParts T) → Option (HeldParts T)
running_again number None = None
running_again number (Some c) = Some (record { g = c.g; woke = woke.Number number; body = c.body })

-- what the goroutine that asked leaves. If it waits it is in the book again. If it goes on it is told the reply, and the ticket that the
-- reply gives out is to store.
abbrev pub left_by : Reply → PlainHand → PlainHand
left_by reply.Waits hand = record hand { held = None }
left_by answer hand = record hand { held = retold (woke_after answer) hand.held; to_store = ticket_in answer }

-- what the machine holds once its call was answered so, where this was the table before
abbrev pub hand_after : Table → Call → Reply → PlainHand → PlainHand
hand_after t call.Acquire (reply.Proc p) hand = record hand { processor = Some (record { p = p; owner = tt }) }
hand_after t call.Acquire answer hand = hand
hand_after t call.Take (reply.Ticket r) hand = record hand { to_claim = Some r }
hand_after t call.Take answer hand = hand
hand_after t (call.Put r) answer hand = but (put_value hand.to_store) hand
hand_after t (call.Claim r) answer hand = record hand { to_claim = None; held = Some (claimed_parts t r) }
hand_after t call.Yield answer hand = record hand { held = None }
hand_after t call.Exit answer hand = record hand { held = None }
hand_after t call.Enter answer hand = record hand { processor = None; held = None; called = called_from hand.held }
hand_after t (call.Leave number) (reply.Runs p) hand =
    record hand { processor = Some (record { p = p; owner = tt }); held = running_again number hand.called; called = None }
hand_after t (call.Leave number) answer hand = record hand { called = None }
hand_after t call.Declare answer hand = record hand { processor = None }
hand_after t call.Spin answer hand = hand
hand_after t call.Woken answer hand = hand
hand_after t call.Keep answer hand = hand
hand_after t call.Unspin answer hand = hand
hand_after t call.Poke answer hand = hand
hand_after t call.Bare answer hand = hand
hand_after t call.Park answer hand = hand
hand_after t (call.Tick moment) answer hand = hand
-- go, spawn, make, send, recv, close, len, cap, procs, select, sleep, gopark, ready
hand_after t asked answer hand = left_by answer hand

-- what it holds once its make wanted memory: its goroutine is to be told so
abbrev pub hand_unmade : PlainHand → PlainHand
hand_unmade hand = record hand { held = retold woke.NoMemory hand.held }
