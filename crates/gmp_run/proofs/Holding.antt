-- A machine holds one goroutine at most, whatever it does.
use Rattle.std.specs.Prelude.{is_some}
use Rattle.std.proofs.Common.{◌≡◌, ◌⊎◌, inl, inr, Bool, true, false, List, [], ◌∷◌, Option, None, Some, IsNone, refl, sym, subst}
use Rattle.std.specs.Option.{option_map}
use Rattle.gmp_base.specs.declared.ask.Woke.{Woke}
use Rattle.gmp_base.specs.declared.number.Readiness.{Readiness}
use Rattle.gmp_base.specs.declared.refusal.Refusal.{Refusal}
use Rattle.gmp_base.specs.declared.refusal.Refusal.TheVariants.{OutOfMemory}
use Rattle.gmp_seq.specs.declared.call.Call.{Call}
use Rattle.gmp_seq.specs.declared.call.Call.TheVariants as call
use Rattle.gmp_seq.specs.declared.call.Reply.{Reply}
use Rattle.gmp_seq.specs.declared.call.Reply.TheVariants as reply
use Rattle.gmp_seq.specs.Table.{Table}
use Rattle.gmp_driver.specs.declared.act.Told.{Told}
use Rattle.gmp_driver.specs.declared.act.Told.TheVariants as told
use Rattle.gmp_driver.specs.declared.act.Tried.TheVariants as tried
use Rattle.gmp_driver.specs.declared.act.Value.{Value}
use Rattle.gmp_driver.specs.declared.act.Value.TheVariants as value
use Rattle.gmp_driver.specs.declared.registers.HeldParts.{HeldParts}
use Rattle.gmp_driver.specs.declared.registers.Registers.{Registers}
use Rattle.gmp_driver.specs.Own.{with_found}
use Rattle.gmp_driver.specs.Registers.{but, put_value}
use Rattle.gmp_driver.specs.Table.{after}
use Rattle.gmp_acts.specs.Acts.{given_back}
use Rattle.gmp_acts.specs.Hands.{PlainHand, PlainMachine, hand_after, left_by, plain, plain_called, plain_held, retold}
use Rattle.gmp_run.specs.Bodies.{HoldsOne}
use Rattle.gmp_said.specs.Standing.{hand_refused}
use Rattle.gmp_run.specs.Trails.{GoesAll, GoesAlone, GoesOn, HoldsThen}

-- In plain parts

mapped_none : {A B : Type 0} (f : A → B) (o : Option A) → IsNone o → IsNone (option_map f o)
mapped_none f None none = refl
mapped_none f (Some x) none = none

none_mapped : {A B : Type 0} (f : A → B) (o : Option A) → IsNone (option_map f o) → IsNone o
none_mapped f None none = refl
none_mapped f (Some x) none = none

module _ {T Q : Type 0} (hand : Registers T Q) where
  pub plain_one : HoldsOne hand → HoldsOne (plain hand)
  plain_one (inl none) = inl (mapped_none plain_held hand.held none)
  plain_one (inr none) = inr (mapped_none plain_called hand.called none)

  pub one_plain : HoldsOne (plain hand) → HoldsOne hand
  one_plain (inl none) = inl (none_mapped plain_held hand.held none)
  one_plain (inr none) = inr (none_mapped plain_called hand.called none)

-- Acts that make no entry

found_one : (r : Readiness) (b : Bool) (hand : PlainHand) → HoldsOne hand → HoldsOne (with_found r b hand)
found_one r true hand one = one
found_one r false hand one = one

retold_none : (w : Woke) (o : Option (HeldParts Unit)) → IsNone o → IsNone (retold w o)
retold_none w None none = refl
retold_none w (Some h) none = none

retold_one : (w : Woke) (hand : PlainHand) → HoldsOne hand → HoldsOne (record hand { held = retold w hand.held })
retold_one w hand (inl none) = inl (retold_none w hand.held none)
retold_one w hand (inr none) = inr none

then_one : (what : Told) (hand hand' : PlainHand) → HoldsThen what hand hand' → HoldsOne hand → HoldsOne hand'
then_one told.Got hand hand' (r, is) one = subst HoldsOne (sym is) (found_one r false hand one)
then_one told.Drained hand hand' (r, is) one = subst HoldsOne (sym is) (found_one r true hand one)
then_one (told.Tried (tried.Got hint)) hand hand' (r, is) one = subst HoldsOne (sym is) (found_one r (is_some hand.to_claim) hand one)
then_one (told.Drew word (tried.Got hint)) hand hand' (r, is) one = subst HoldsOne (sym is) (found_one r (is_some hand.to_claim) hand one)
then_one told.Pushed hand hand' (r, has, is) one = subst HoldsOne (sym is) one
then_one _ hand hand' is one = subst HoldsOne (sym is) one

refused_one : (c : Call) (why : Refusal) (hand : PlainHand) → HoldsOne hand → HoldsOne (hand_refused c why hand)
refused_one (call.Make capacity) OutOfMemory hand one = retold_one _ hand one
refused_one (call.Make capacity) _ hand one = one
refused_one _ why hand one = one

but_one : (which : Value) (hand : PlainHand) → HoldsOne hand → HoldsOne (but (Some which) hand)
but_one value.Held hand one = inl refl
but_one value.Called hand one = inr refl
but_one value.ToClaim hand one = one
but_one value.ToStore hand one = one
but_one value.Proc hand one = one

given_one : (x : PlainMachine) (which : Option Value) → HoldsOne x.hand → HoldsOne (given_back x which).hand
given_one x None one = one
given_one x (Some which) one = but_one which x.hand one

pub goes_one : (x y : PlainMachine) → GoesOn x y → HoldsOne x.hand → HoldsOne y.hand
goes_one x y (inl t) one = subst (λ (z : PlainMachine). HoldsOne z.hand) (sym t.machine) (then_one t.what x.hand t.hand t.holds one)
goes_one x y (inr (inl t)) one = subst (λ (z : PlainMachine). HoldsOne z.hand) (sym t.machine) (refused_one t.asked t.why x.hand one)
goes_one x y (inr (inr t)) one = by t.machine where
  by : (y ≡ given_back x t.which) ⊎ ((why : Refusal) × (y ≡ after x (told.Refused why))) → HoldsOne y.hand
  by (inl is) = subst (λ (z : PlainMachine). HoldsOne z.hand) (sym is) (given_one x t.which one)
  by (inr (why, is)) = subst (λ (z : PlainMachine). HoldsOne z.hand) (sym is) one

all_one : (x y : PlainMachine) (mids : List PlainMachine) → GoesAll x mids y → HoldsOne x.hand → HoldsOne y.hand
all_one x y [] is one = subst (λ (z : PlainMachine). HoldsOne z.hand) (sym is) one
all_one x y (mid ∷ mids) (first, rest) one = all_one mid y mids rest (goes_one x mid first one)

pub alone_one : (x y : PlainMachine) → GoesAlone x y → HoldsOne x.hand → HoldsOne y.hand
alone_one x y (mids, all) one = all_one x y mids all one

-- An entry

put_one : (o : Option Readiness) (hand : PlainHand) → HoldsOne hand → HoldsOne (but (put_value o) hand)
put_one None hand one = one
put_one (Some r) hand one = one

left_one : (answer : Reply) (hand : PlainHand) → HoldsOne hand → HoldsOne (left_by answer hand)
left_one reply.Waits hand one = inl refl
left_one _ hand one = retold_one _ hand one

-- a claim finds no goroutine in its blocking call
pub after_one : (t : Table) (c : Call) (answer : Reply) (hand : PlainHand) → ((r : Readiness) → c ≡ call.Claim r → IsNone hand.called) → HoldsOne hand → HoldsOne (hand_after t c answer hand)
after_one t call.Acquire (reply.Proc p) hand free one = one
after_one t call.Acquire _ hand free one = one
after_one t call.Take (reply.Ticket r) hand free one = one
after_one t call.Take _ hand free one = one
after_one t (call.Put r) answer hand free one = put_one hand.to_store hand one
after_one t (call.Claim r) answer hand free one = inr (free r refl)
after_one t call.Yield answer hand free one = inl refl
after_one t call.Exit answer hand free one = inl refl
after_one t call.Enter answer hand free one = inl refl
after_one t (call.Leave number) (reply.Runs p) hand free one = inr refl
after_one t (call.Leave number) _ hand free one = inr refl
after_one t call.Declare answer hand free one = one
after_one t call.Spin answer hand free one = one
after_one t call.Woken answer hand free one = one
after_one t call.Keep answer hand free one = one
after_one t call.Unspin answer hand free one = one
after_one t call.Poke answer hand free one = one
after_one t call.Bare answer hand free one = one
after_one t call.Park answer hand free one = one
after_one t (call.Tick moment) answer hand free one = one
after_one t _ answer hand free one = left_one answer hand one
