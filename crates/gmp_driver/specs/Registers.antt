-- What a machine holds, what an act uses of it, and what it leaves.
use Rattle.std.specs.Prelude.{◌⊎◌, Bool, true, false, Option, Some, None, IsNone}
use Rattle.gmp_base.specs.declared.number.Readiness.{Readiness}
use Rattle.gmp_seq.specs.declared.call.Call.TheVariants as call
use Rattle.gmp_driver.specs.declared.act.Act.{Act}
use Rattle.gmp_driver.specs.declared.act.Act.TheVariants as act
use Rattle.gmp_driver.specs.declared.act.Value.{Value}
use Rattle.gmp_driver.specs.declared.act.Value.TheVariants as value
use Rattle.gmp_driver.specs.declared.registers.Registers.{Registers}

-- no register is filled
abbrev pub nothing : {T Q : Type 0} → Registers T Q
nothing = record { processor = None; held = None; called = None; to_claim = None; to_store = None }

-- the one that is there
abbrev pub first_of : {X : Type 0} → Option X → Option X → Option X
first_of None other = other
first_of (Some x) other = Some x

-- what came, and what was left
abbrev pub joined : {T Q : Type 0} → Registers T Q → Registers T Q → Registers T Q
joined came left = record {
  processor = first_of came.processor left.processor;
  held = first_of came.held left.held;
  called = first_of came.called left.called;
  to_claim = first_of came.to_claim left.to_claim;
  to_store = first_of came.to_store left.to_store;
}

-- no register is filled twice
pub record AreFilledOnce {T Q : Type 0} (left came : Registers T Q) : Type 0 where
  pub processor : IsNone left.processor ⊎ IsNone came.processor
  pub held : IsNone left.held ⊎ IsNone came.held
  pub called : IsNone left.called ⊎ IsNone came.called
  pub to_claim : IsNone left.to_claim ⊎ IsNone came.to_claim
  pub to_store : IsNone left.to_store ⊎ IsNone came.to_store

-- The first value that is there, in the order in which they are given back

abbrev pub first_value : {T Q : Type 0} → Registers T Q → Option Value
first_value hand = by hand.held hand.called hand.to_claim hand.to_store hand.processor where
  by : {A B C D E : Type 0} → Option A → Option B → Option C → Option D → Option E → Option Value
  by (Some h) c t s p = Some value.Held
  by None (Some c) t s p = Some value.Called
  by None None (Some t) s p = Some value.ToClaim
  by None None None (Some s) p = Some value.ToStore
  by None None None None (Some p) = Some value.Proc
  by None None None None None = None

-- that value alone
abbrev pub only : {T Q : Type 0} → Option Value → Registers T Q → Registers T Q
only (Some value.Held) hand = record nothing { held = hand.held }
only (Some value.Called) hand = record nothing { called = hand.called }
only (Some value.ToClaim) hand = record nothing { to_claim = hand.to_claim }
only (Some value.ToStore) hand = record nothing { to_store = hand.to_store }
only (Some value.Proc) hand = record nothing { processor = hand.processor }
only None hand = nothing

-- all but that value
abbrev pub but : {T Q : Type 0} → Option Value → Registers T Q → Registers T Q
but (Some value.Held) hand = record hand { held = None }
but (Some value.Called) hand = record hand { called = None }
but (Some value.ToClaim) hand = record hand { to_claim = None }
but (Some value.ToStore) hand = record hand { to_store = None }
but (Some value.Proc) hand = record hand { processor = None }
but None hand = hand

-- What an act uses

-- a ticket that is put onto the shelf is the one to store, where there is one, and else the one to claim
abbrev pub put_value : Option Readiness → Option Value
put_value (Some s) = Some value.ToStore
put_value None = Some value.ToClaim

-- the values that an act uses are one, or none; but entering a blocking call uses the goroutine and the processor, and pushing the
-- ticket and the processor, whose owner has the queue's end
abbrev pub one_used : {T Q : Type 0} → Act → Registers T Q → Option Value
one_used (act.Call call.Acquire) hand = None
one_used (act.Call call.Take) hand = None
one_used (act.Call (call.Put r)) hand = put_value hand.to_store
one_used (act.Call (call.Claim r)) hand = Some value.ToClaim
one_used (act.Call (call.Leave number)) hand = Some value.Called
one_used (act.Call call.Spin) hand = None
one_used (act.Call call.Woken) hand = None
one_used (act.Call call.Keep) hand = None
one_used (act.Call call.Unspin) hand = None
one_used (act.Call call.Poke) hand = None
one_used (act.Call call.Declare) hand = Some value.Proc
one_used (act.Call call.Bare) hand = None
one_used (act.Call call.Park) hand = None
one_used (act.Call (call.Tick moment)) hand = None
-- all other calls are of the goroutine that runs
one_used (act.Call asked) hand = Some value.Held
one_used act.Pop hand = Some value.Proc
one_used act.Drain hand = Some value.Proc
one_used act.Push hand = Some value.ToStore
one_used act.Resume hand = Some value.Held
one_used act.Block hand = Some value.Called
one_used (act.Surrender which) hand = which
one_used _ hand = None

-- does it use the processor too
abbrev pub uses_processor : Act → Bool
uses_processor (act.Call call.Enter) = true
uses_processor act.Push = true
uses_processor _ = false

abbrev pub with_processor : {T Q : Type 0} → Bool → Registers T Q → Registers T Q → Registers T Q
with_processor true hand taken = record taken { processor = hand.processor }
with_processor false hand taken = taken

abbrev pub without_processor : {T Q : Type 0} → Bool → Registers T Q → Registers T Q
without_processor true left = record left { processor = None }
without_processor false left = left

-- what an act uses
abbrev pub used : {T Q : Type 0} → Act → Registers T Q → Registers T Q
used what hand = with_processor (uses_processor what) hand (only (one_used what hand) hand)

-- what it leaves in the registers
abbrev pub unused : {T Q : Type 0} → Act → Registers T Q → Registers T Q
unused what hand = without_processor (uses_processor what) (but (one_used what hand) hand)
