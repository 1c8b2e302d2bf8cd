-- What a call is handed of the registers of a machine, and what they hold behind it.
use Rattle.std.specs.Prelude.{◌≡◌, ℕ, Bool, true, false, Option, Some, None, IsNone, List, slice_get, slice_set}
use Rattle.std.specs.Option.{option_map}
use Rattle.gmp_base.specs.declared.ask.Woke.{Woke}
use Rattle.gmp_base.specs.declared.ask.Woke.TheVariants.{NoMemory}
use Rattle.gmp_base.specs.declared.number.GNo.{GNo}
use Rattle.gmp_base.specs.declared.number.PNo.{PNo}
use Rattle.gmp_base.specs.declared.number.Readiness.{Readiness}
use Rattle.gmp_base.specs.declared.refusal.Refusal.{Refusal}
use Rattle.gmp_base.specs.declared.refusal.Refusal.TheVariants.{OutOfMemory}
use Rattle.gmp_base.specs.declared.value.Called.{Called}
use Rattle.gmp_base.specs.declared.value.Held.{Held}
use Rattle.gmp_base.specs.declared.value.Proc.{Proc}
use Rattle.gmp_base.specs.Values.{readiness_of, ticket_by}
use Rattle.gmp_seq.specs.declared.call.Call.{Call}
use Rattle.gmp_seq.specs.declared.call.Call.TheVariants as call
use Rattle.gmp_seq.specs.declared.call.Reply.{Reply}
use Rattle.gmp_seq.specs.declared.call.Reply.TheVariants as reply
use Rattle.gmp_driver.specs.declared.registers.CalledParts.{CalledParts}
use Rattle.gmp_driver.specs.declared.registers.HeldParts.{HeldParts}
use Rattle.gmp_driver.specs.declared.registers.ProcParts.{ProcParts}
use Rattle.gmp_driver.specs.declared.registers.Registers.{Registers}
use Rattle.gmp_driver.specs.Loads.{called_of, called_parts, held_of, held_parts, proc_of, proc_parts}
use Rattle.gmp_driver.specs.Registers.{first_of}
use Rattle.gmp_book.specs.declared.values.Values.{Values}
use Rattle.gmp_book.specs.declared.values.Way.{Way}
use Rattle.gmp_book.specs.declared.values.Way.TheVariants.{OutOfPlace, IntoCall, OutOfCall}
use Rattle.gmp_book.specs.Hands.{HandsBody, HandsOwner}
use Rattle.gmp_book.specs.Slots.{is_filled, is_vacant}
use Rattle.gmp_book.specs.Kinds.{hands_called, hands_held, hands_proc}

-- What a call is handed

-- the goroutine that runs, where it is handed that
abbrev pub held_by : {T : Type 0} → ℕ → Bool → Option (HeldParts T) → Option (Held T)
held_by run true held = option_map (held_of run) held
held_by run false held = None

-- the goroutine in its blocking call, where it is handed that
abbrev pub called_by : {T : Type 0} → ℕ → Bool → Option (CalledParts T) → Option (Called T)
called_by run true called = option_map (called_of run) called
called_by run false called = None

-- the processor, where it is handed that
abbrev pub proc_by : {Q : Type 0} → ℕ → Bool → Option (ProcParts Q) → Option (Proc Q)
proc_by run true processor = option_map (proc_of run) processor
proc_by run false processor = None

-- a put is handed the ticket to store, where there is one, and else the one to claim; a claim the one to claim
abbrev pub ticket_used : Call → Option Readiness → Option Readiness → Option Readiness
ticket_used (call.Put r) to_claim to_store = first_of to_store to_claim
ticket_used (call.Claim r) to_claim to_store = to_claim
ticket_used _ to_claim to_store = None

-- the values of this run that the call is handed
abbrev pub given_by : {T Q : Type 0} → ℕ → Call → Registers T Q → Values T Q
given_by run c hand = record {
  held = held_by run (hands_held c) hand.held;
  called = called_by run (hands_called c) hand.called;
  ticket = option_map (ticket_by run) (ticket_used c hand.to_claim hand.to_store);
  proc = proc_by run (hands_proc c) hand.processor;
}

-- What the registers hold behind it

-- what comes back; where the call was not handed it, what was there stays
abbrev pub back_in : {X : Type 0} → Bool → Option X → Option X → Option X
back_in true came had = came
back_in false came had = first_of came had

-- a take gives out the ticket to claim; a claim spends it, and so does a put where there is none to store
abbrev pub to_claim_after : Call → Option Readiness → Option Readiness → Option Readiness → Option Readiness
to_claim_after call.Take out to_claim to_store = first_of out to_claim
to_claim_after (call.Claim r) out to_claim to_store = None
to_claim_after (call.Put r) out to_claim None = None
to_claim_after _ out to_claim to_store = to_claim

-- every other call gives out the ticket to store; a put spends it
abbrev pub to_store_after : Call → Option Readiness → Option Readiness → Option Readiness
to_store_after call.Take out to_store = to_store
to_store_after (call.Claim r) out to_store = to_store
to_store_after (call.Put r) out to_store = None
to_store_after _ out to_store = first_of out to_store

-- the registers once these values came back of the call
abbrev pub hand_after : {T Q : Type 0} → Call → Values T Q → Registers T Q → Registers T Q
hand_after c back hand = record {
  processor = back_in (hands_proc c) (option_map proc_parts back.proc) hand.processor;
  held = back_in (hands_held c) (option_map held_parts back.held) hand.held;
  called = back_in (hands_called c) (option_map called_parts back.called) hand.called;
  to_claim = to_claim_after c (option_map readiness_of back.ticket) hand.to_claim hand.to_store;
  to_store = to_store_after c (option_map readiness_of back.ticket) hand.to_store;
}

-- the goroutine, if there is one, is to be told this
abbrev pub retold : {T : Type 0} → Woke → Option (HeldParts T) → Option (HeldParts T)
retold told held = option_map (λ (h : HeldParts _). record h { woke = told }) held

-- the registers once the call was refused: as they were, but that the goroutine of a make that had no memory is told so
abbrev pub hand_refused : {T Q : Type 0} → Call → Refusal → Registers T Q → Registers T Q
hand_refused (call.Make capacity) OutOfMemory hand = record hand { held = retold NoMemory hand.held }
hand_refused _ why hand = hand

-- Where bodies and owners go

-- its place is vacant
abbrev pub FitsHeld : {T : Type 0} → Option (HeldParts T) → List (Option T) → Type 0
FitsHeld None bodies = Unit {0}
FitsHeld (Some h) bodies = is_vacant bodies h.g.0 ≡ true

abbrev pub FitsCalled : {T : Type 0} → Option (CalledParts T) → List (Option T) → Type 0
FitsCalled None bodies = Unit {0}
FitsCalled (Some c) bodies = is_vacant bodies c.g.0 ≡ true

abbrev pub FitsProc : {Q : Type 0} → Option (ProcParts Q) → List (Option Q) → Type 0
FitsProc None owners = Unit {0}
FitsProc (Some x) owners = is_vacant owners x.p.0 ≡ true

-- the places once what was in the register is home
abbrev pub with_held_home : {T : Type 0} → Option (HeldParts T) → List (Option T) → List (Option T)
with_held_home None bodies = bodies
with_held_home (Some h) bodies = slice_set bodies h.g.0 (Some h.body)

abbrev pub with_called_home : {T : Type 0} → Option (CalledParts T) → List (Option T) → List (Option T)
with_called_home None bodies = bodies
with_called_home (Some c) bodies = slice_set bodies c.g.0 (Some c.body)

abbrev pub with_owner_home : {Q : Type 0} → Option (ProcParts Q) → List (Option Q) → List (Option Q)
with_owner_home None owners = owners
with_owner_home (Some x) owners = slice_set owners x.p.0 (Some x.owner)

-- into its blocking call, and out of it
abbrev pub gone_into_call : {T : Type 0} → Option (HeldParts T) → Option (CalledParts T)
gone_into_call held = option_map (λ (h : HeldParts _). let c : CalledParts _ = record { g = h.g; body = h.body } in c) held

abbrev pub come_out_of_call : {T : Type 0} → Woke → Option (CalledParts T) → Option (HeldParts T)
come_out_of_call told called = option_map (λ (c : CalledParts _). let h : HeldParts _ = record { g = c.g; woke = told; body = c.body } in h) called

-- the owner comes out of its place
abbrev pub IsFilledAt : {Q : Type 0} → List (Option Q) → PNo → Type 0
IsFilledAt owners p = is_filled owners p.0 ≡ true

abbrev pub ComesOut : {Q : Type 0} → PNo → List (Option Q) → Option (ProcParts Q) → List (Option Q) → Type 0
ComesOut {Q} p old processor new = (owner : Q) × (processor ≡ Some (record { p = p; owner = owner })) × (slice_get old p.0 ≡ Some (Some owner)) × (new ≡ slice_set old p.0 None)

-- a call is handed one goroutine at most
abbrev pub AreApart : Bool → Bool → Type 0
AreApart true true = ⊥
AreApart _ _ = Unit {0}

-- the register is free into which the body comes
abbrev pub IsBodyFree : {T : Type 0} → Way → Option (HeldParts T) → Option (CalledParts T) → Type 0
IsBodyFree OutOfPlace held called = IsNone held
IsBodyFree IntoCall held called = IsNone called
IsBodyFree OutOfCall held called = IsNone held
IsBodyFree _ held called = Unit {0}

abbrev pub IsOwnerFree : {Q : Type 0} → Reply → Option (ProcParts Q) → Type 0
IsOwnerFree (reply.Proc p) processor = IsNone processor
IsOwnerFree (reply.Runs p) processor = IsNone processor
IsOwnerFree _ processor = Unit {0}

-- the body goes this way, between the registers and its place
pub record SettlesBody {T : Type 0} (way : Way) (run : ℕ) (g : GNo) (told : Woke) (is_held is_called : Bool) (held : Option (HeldParts T)) (called : Option (CalledParts T)) (bodies : List (Option T))
    (held' : Option (HeldParts T)) (called' : Option (CalledParts T)) (bodies' : List (Option T)) : Type 0 where
  pub held_back : Option (Held T)
  pub called_back : Option (Called T)
  pub hands : HandsBody way run g told (held_by run is_held held) (called_by run is_called called) held_back called_back bodies bodies'
  pub held_is : held' ≡ back_in is_held (option_map held_parts held_back) held
  pub called_is : called' ≡ back_in is_called (option_map called_parts called_back) called

-- the owner goes as the reply says
pub record SettlesOwner {Q : Type 0} (answer : Reply) (run : ℕ) (is_handed : Bool) (processor : Option (ProcParts Q)) (owners : List (Option Q)) (processor' : Option (ProcParts Q)) (owners' : List (Option Q)) : Type 0 where
  pub back : Option (Proc Q)
  pub hands : HandsOwner answer run (proc_by run is_handed processor) back owners owners'
  pub processor_is : processor' ≡ back_in is_handed (option_map proc_parts back) processor
