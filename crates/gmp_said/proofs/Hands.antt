-- What a call leaves of the goroutines in a machine's hand.
use Rattle.std.proofs.Common.{◌≡◌, ◌⊎◌, inl, inr, ℕ, Option, Some, None, refl, ap}
use Rattle.gmp_base.specs.declared.ask.Ask.{Ask}
use Rattle.gmp_base.specs.declared.ask.Ask.TheVariants as ask
use Rattle.gmp_base.specs.declared.ask.Woke.{Woke}
use Rattle.gmp_base.specs.declared.ask.Woke.TheVariants as woke
use Rattle.gmp_base.specs.declared.number.PNo.{PNo}
use Rattle.gmp_base.specs.declared.number.Readiness.{Readiness}
use Rattle.gmp_seq.specs.declared.call.Call.{Call}
use Rattle.gmp_seq.specs.declared.call.Call.TheVariants as call
use Rattle.gmp_seq.specs.declared.call.Reply.{Reply}
use Rattle.gmp_seq.specs.declared.call.Reply.TheVariants as reply
use Rattle.gmp_seq.specs.Step.{woke_after}
use Rattle.gmp_seq.specs.Table.{Table}
use Rattle.gmp_driver.specs.declared.registers.CalledParts.{CalledParts}
use Rattle.gmp_driver.specs.declared.registers.HeldParts.{HeldParts}
use Rattle.gmp_driver.specs.Registers.{but, put_value}
use Rattle.gmp_driver.specs.Table.{call_for}
use Rattle.gmp_acts.specs.Hands.{PlainHand, called_from, hand_after, left_by, retold, running_again}
use Rattle.gmp_said.proofs.Places.{IsOwn}

-- the same goroutines are in hand
abbrev pub KeepsGoroutines : PlainHand → PlainHand → Type 0
KeepsGoroutines hand hand' = (hand'.held ≡ hand.held) × (hand'.called ≡ hand.called)

put_keeps : (o : Option Readiness) (hand : PlainHand) → KeepsGoroutines hand (but (put_value o) hand)
put_keeps None hand = (refl, refl)
put_keeps (Some r) hand = (refl, refl)

-- a call of the machine's own
pub own_keeps : (t : Table) (c : Call) (answer : Reply) (hand : PlainHand) → IsOwn c → ((r : Readiness) → c ≡ call.Claim r → ⊥) → KeepsGoroutines hand (hand_after t c answer hand)
own_keeps t call.Acquire (reply.Proc p) hand own other = (refl, refl)
own_keeps t call.Acquire _ hand own other = (refl, refl)
own_keeps t call.Take (reply.Ticket r) hand own other = (refl, refl)
own_keeps t call.Take _ hand own other = (refl, refl)
own_keeps t (call.Put r) answer hand own other = put_keeps hand.to_store hand
own_keeps t (call.Claim r) answer hand own other = absurd (other r refl)
own_keeps t call.Spin answer hand own other = (refl, refl)
own_keeps t call.Woken answer hand own other = (refl, refl)
own_keeps t call.Keep answer hand own other = (refl, refl)
own_keeps t call.Unspin answer hand own other = (refl, refl)
own_keeps t call.Poke answer hand own other = (refl, refl)
own_keeps t call.Declare answer hand own other = (refl, refl)
own_keeps t call.Bare answer hand own other = (refl, refl)
own_keeps t call.Park answer hand own other = (refl, refl)
own_keeps t (call.Tick moment) answer hand own other = (refl, refl)
own_keeps t _ answer hand own other = absurd own

-- the goroutine that ran runs on, to be told this, or it is in its blocking call, or it is gone
abbrev pub Leaves : HeldParts Unit → Woke → PlainHand → Type 0
Leaves h told hand =
    ((hand.held ≡ None) ⊎ (hand.held ≡ Some (record { g = h.g; woke = told; body = tt })))
    × ((hand.called ≡ None) ⊎ (hand.called ≡ Some (record { g = h.g; body = tt })))

left : (answer : Reply) (hand : PlainHand) (h : HeldParts Unit) → hand.held ≡ Some h → hand.called ≡ None → Leaves h (woke_after answer) (left_by answer hand)
left reply.Waits hand h is none = (inl refl, inl none)
left answer hand h is none = (inr (ap (retold (woke_after answer)) is), inl none)

-- a call that its body asked for
pub asked_leaves : (t : Table) (asked : Ask) (answer : Reply) (hand : PlainHand) (h : HeldParts Unit) → hand.held ≡ Some h → hand.called ≡ None → Leaves h (woke_after answer) (hand_after t (call_for asked) answer hand)
asked_leaves t ask.Yield answer hand h is none = (inl refl, inl none)
asked_leaves t ask.Exit answer hand h is none = (inl refl, inl none)
asked_leaves t ask.Block answer hand h is none = (inl refl, inr (ap called_from is))
asked_leaves t _ answer hand h is none = left answer hand h is none

-- the end of a blocking call: it runs on, to be told the number, or is gone
abbrev pub ComesBack : CalledParts Unit → ℕ → Reply → PlainHand → Type 0
ComesBack k number answer hand =
    ((p : PNo) × (answer ≡ reply.Runs p) × (hand.held ≡ Some (record { g = k.g; woke = woke.Number number; body = tt })) × (hand.called ≡ None))
    ⊎ ((hand.held ≡ None) × (hand.called ≡ None))

pub leave_leaves : (t : Table) (number : ℕ) (answer : Reply) (hand : PlainHand) (k : CalledParts Unit) → hand.called ≡ Some k → hand.held ≡ None → ComesBack k number answer (hand_after t (call.Leave number) answer hand)
leave_leaves t number (reply.Runs p) hand k is none = inl (p, refl, ap (running_again number) is, refl)
leave_leaves t number _ hand k is none = inr (none, refl)
