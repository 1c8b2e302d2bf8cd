-- Whose goroutines are in a machine's hand, as machines make calls.
use Rattle.std.proofs.Common.{◌≡◌, ◌≢◌, ◌↔◌, inl, inr, ℕ, ◌<◌, ◌==◌, Bool, true, false, if◌then◌else◌, List, Option, None, Some, refl, ap, subst, arith}
use Rattle.std.proofs.lemmas.Bool.{eqb-true}
use Rattle.std.proofs.lemmas.List.FromFn.{get_or-map-range_with_len}
use Rattle.std.specs.Option.{option_map}
use Rattle.gmp_base.specs.declared.number.GNo.{GNo}
use Rattle.gmp_base.specs.declared.number.MNo.{MNo}
use Rattle.gmp_seq.specs.declared.call.Call.{Call}
use Rattle.gmp_seq.specs.declared.call.Limits.{Limits}
use Rattle.gmp_seq.specs.declared.call.Reply.{Reply}
use Rattle.gmp_seq.specs.Fits.{AreLimits}
use Rattle.gmp_seq.specs.State.{State, opening}
use Rattle.gmp_seq.specs.Step
use Rattle.gmp_seq.specs.Table.{Table, IsCalling, IsRunning}
use Rattle.gmp_driver.specs.declared.registers.CalledParts.{CalledParts}
use Rattle.gmp_driver.specs.declared.registers.HeldParts.{HeldParts}
use Rattle.gmp_driver.specs.declared.registers.Registers.{Registers}
use Rattle.gmp_driver.specs.Registers.{first_of}
use Rattle.gmp_driver.specs.Uses.{Uses}
use Rattle.gmp_acts.specs.Hands.{PlainHand, PlainMachine, hand_after, plain_called, plain_held}
use Rattle.gmp_acts.specs.Headline.{machine_at_start, opening_system}
use Rattle.gmp_acts.specs.System.{called_number, held_number, machine_at, no_machine}
use Rattle.gmp_acts.proofs.Kept.{turn_calls, turn_others_call, turn_others_run, turn_runs}
use Rattle.gmp_acts.proofs.Whole.{opening_sound}
use Rattle.gmp_acts.proofs.Turning.{Turn, effect_turn, number}
use Rattle.gmp_turn.specs.Values.{body_in, called_body, held_body}
use Rattle.gmp_said.specs.Said.{Blocks, IsLast, Resumes, Speaker}
use Rattle.gmp_said.specs.Standing.{HasExactly, HasGoroutines, Owns, StandsLast, held_woke, woke_in}

-- who has them exactly, has them
pub exactly : (over : Bool) (t : Table) (m : MNo) (running calling : Option GNo) → HasExactly t m running calling → Owns over t m running calling
exactly over t m running calling e = ((λ g is. (e.0 g).0 is, λ g is. (e.1 g).0 is), λ goes. e)

module _ (limits : Limits) (m : MNo) (c : Call) (answer : Reply) (old new : State) (hand : PlainHand) (u : Uses c hand) (step : Step.Effect limits m c answer old new) (mine : HasExactly old.table m (held_number hand.held) (called_number hand.called)) where
  turn : Turn m old.table new.table hand (hand_after old.table c answer hand)
  turn = effect_turn limits m c answer old new hand u mine.0 mine.1 step

  -- the machine that makes the call
  pub caller_has : HasExactly new.table m (held_number (hand_after old.table c answer hand).held) (called_number (hand_after old.table c answer hand).called)
  caller_has = (turn_runs m old.table new.table hand (hand_after old.table c answer hand) turn mine.0, turn_calls m old.table new.table hand (hand_after old.table c answer hand) turn mine.1)

  -- another one
  pub bystander_has : (n : MNo) (running calling : Option GNo) → n ≢ m → HasExactly old.table n running calling → HasExactly new.table n running calling
  bystander_has n running calling apart its =
      (turn_others_run m old.table new.table hand (hand_after old.table c answer hand) n running apart turn its.0, turn_others_call m old.table new.table hand (hand_after old.table c answer hand) n calling apart turn its.1)

-- before the first call no machine has any
pub opening_has : (limits : Limits) (bodies : ℕ) (capacities : List ℕ) → AreLimits limits bodies capacities → (m : MNo) → m.0 < limits.machines → HasExactly (opening limits bodies capacities).table m None None
opening_has limits bodies capacities are m inside =
    let sound = opening_sound false 0 limits bodies capacities are in
    let count = sound.count in
    let its : machine_at (opening_system false 0 limits bodies capacities) m ≡ machine_at_start false 0 limits m.0 =
    get_or-map-range_with_len (machine_at_start false 0 limits) 0 limits.machines m.0 m.0 no_machine inside (omega arith) in
    let sees = (sound.each m (omega (arith, count, inside))).sees refl in
    let runs : (x : PlainMachine) → x ≡ machine_at_start false 0 limits m.0 → held_number x.hand.held ≡ None = λ x e. ap (λ (y : PlainMachine). held_number y.hand.held) e in
    let calls : (x : PlainMachine) → x ≡ machine_at_start false 0 limits m.0 → called_number x.hand.called ≡ None = λ x e. ap (λ (y : PlainMachine). called_number y.hand.called) e in (
      λ g. subst (λ (o : Option GNo). (o ≡ Some g) ↔ IsRunning (opening limits bodies capacities).table g m) (runs _ its) (sees.runs g),
      λ g. subst (λ (o : Option GNo). (o ≡ Some g) ↔ IsCalling (opening limits bodies capacities).table g m) (calls _ its) (sees.calls g),
    )

-- In plain parts the numbers are the same

pub plain_running : {T : Type 0} (o : Option (HeldParts T)) → held_number (option_map plain_held o) ≡ held_number o
plain_running None = refl
plain_running (Some h) = refl

pub plain_calling : {T : Type 0} (o : Option (CalledParts T)) → called_number (option_map plain_called o) ≡ called_number o
plain_calling None = refl
plain_calling (Some c) = refl

-- What becomes of a body in hand

module _ {T : Type 0} (resumes : Resumes T) (blocks : Blocks T) (t : Table) (m : MNo) {Q : Type 0} (hand : Registers T Q) (has : HasGoroutines t m (held_number hand.held) (called_number hand.called)) where
  by_number : (g : GNo) (i : ℕ) → (g.0 == i) ≡ true → g ≡ record { 0 = i }
  by_number g i e = ap (λ (n : ℕ). let k : GNo = record { 0 = n } in k) (eqb-true g.0 i e)

  runs_if : (h : HeldParts T) (i : ℕ) (b : Bool) → (h.g.0 == i) ≡ b → held_number hand.held ≡ Some h.g → (s : Speaker T) (body : T) (rest : Option T)
      → first_of (if b then Some h.body else None) rest ≡ Some body → (rest ≡ Some body → StandsLast resumes blocks None s body → IsLast resumes blocks t (record { 0 = i }) s body)
      → StandsLast resumes blocks (if b then Some h.woke else None) s body → IsLast resumes blocks t (record { 0 = i }) s body
  runs_if h i true same number s body rest e later (inl as_was) = inl as_was
  runs_if h i true same number s body rest e later (inr asks) = inr (inl (m, subst (λ (g : GNo). IsRunning t g m) (by_number h.g i same) (has.0 h.g number), asks.0, asks.1))
  runs_if h i false same number s body rest e later last = later e last

  calls_if : (k : CalledParts T) (i : ℕ) (b : Bool) → (k.g.0 == i) ≡ b → called_number hand.called ≡ Some k.g → (s : Speaker T) (body : T)
      → (if b then Some k.body else None) ≡ Some body → StandsLast resumes blocks None s body → IsLast resumes blocks t (record { 0 = i }) s body
  calls_if k i true same number s body e (inl as_was) = inl as_was
  calls_if k i true same number s body e (inr brings) = inr (inr (m, subst (λ (g : GNo). IsCalling t g m) (by_number k.g i same) (has.1 k.g number), brings.0, brings.1))
  calls_if k i false same number s body e last = absurd (let wrong : None ≡ Some body = e in cc)

  called_last : (o : Option (CalledParts T)) → hand.called ≡ o → (i : ℕ) (s : Speaker T) (body : T) → called_body o i ≡ Some body → StandsLast resumes blocks None s body → IsLast resumes blocks t (record { 0 = i }) s body
  called_last None is i s body e last = absurd (let wrong : None ≡ Some body = e in cc)
  called_last (Some k) is i s body e last = calls_if k i (k.g.0 == i) refl (ap called_number is) s body e last

  held_last : (o : Option (HeldParts T)) → hand.held ≡ o → (i : ℕ) (s : Speaker T) (body : T) → first_of (held_body o i) (called_body hand.called i) ≡ Some body → StandsLast resumes blocks (held_woke o i) s body
      → IsLast resumes blocks t (record { 0 = i }) s body
  held_last None is i s body e last = called_last hand.called refl i s body e last
  held_last (Some h) is i s body e last = runs_if h i (h.g.0 == i) refl (ap held_number is) s body (called_body hand.called i) e (λ rest stands. called_last hand.called refl i s body rest stands) last

  pub known_last : (i : ℕ) (s : Speaker T) (body : T) → body_in hand i ≡ Some body → StandsLast resumes blocks (woke_in hand i) s body → IsLast resumes blocks t (record { 0 = i }) s body
  known_last i s body e last = held_last hand.held refl i s body e last
