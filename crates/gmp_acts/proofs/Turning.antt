-- What one call changes of goroutines, and of what the machine that made it holds.
use Rattle.std.proofs.Common.{◌≡◌, ◌≢◌, inl, inr, ℕ, ◌+◌, Bool, true, false, ◌&&◌, ◌==◌, if◌then◌else◌, max, Option, None, Some, is_some, List, set, refl, sym, ap, subst, ◌∙◌, arith}
use Rattle.std.proofs.lemmas.Bool.{eq-eqb, ne_eqb, false≢true, cases_eq}
use Rattle.std.specs.Option.{option_map, option_map_or}
use Rattle.std.specs.List.{slice_get}
use Rattle.gmp_base.specs.declared.ask.Fault.TheVariants as fault
use Rattle.gmp_base.specs.declared.ask.Woke.{Woke}
use Rattle.gmp_base.specs.declared.ask.Woke.TheVariants as woke
use Rattle.gmp_base.specs.declared.cases.Case.{Case}
use Rattle.gmp_base.specs.declared.cases.Case.TheVariants as case
use Rattle.gmp_base.specs.declared.number.CNo.{CNo}
use Rattle.gmp_base.specs.declared.number.GNo.{GNo}
use Rattle.gmp_base.specs.declared.number.MNo.{MNo}
use Rattle.gmp_base.specs.declared.number.Readiness.{Readiness}
use Rattle.gmp_seq.proofs.Changes.{close_waits, due_waits}
use Rattle.gmp_seq.proofs.Epochs.{epoch_of}
use Rattle.gmp_seq.proofs.Manned.{set_at}
use Rattle.gmp_seq.proofs.OneEach.{row_at}
use Rattle.gmp_seq.proofs.Waiting.{first_waits}
use Rattle.gmp_seq.specs.declared.call.Call.{Call}
use Rattle.gmp_seq.specs.declared.call.Call.TheVariants as call
use Rattle.gmp_seq.specs.declared.call.Limits.{Limits}
use Rattle.gmp_seq.specs.declared.call.Reply.{Reply}
use Rattle.gmp_seq.specs.declared.call.Reply.TheVariants as reply
use Rattle.gmp_seq.specs.declared.call.Taken.{Taken}
use Rattle.gmp_seq.specs.declared.status.Direction.TheVariants.{Sending, Receiving}
use Rattle.gmp_seq.specs.declared.status.Goroutine.{Goroutine}
use Rattle.gmp_seq.specs.declared.status.Kind.{Kind}
use Rattle.gmp_seq.specs.declared.status.Offer.{Offer}
use Rattle.gmp_seq.specs.declared.status.TicketPlace.TheVariants.{Shelf, Out}
use Rattle.gmp_seq.specs.declared.status.Status.{Status}
use Rattle.gmp_seq.specs.declared.status.Status.TheVariants as status
use Rattle.gmp_seq.specs.declared.status.Transfer.TheVariants.{Handed, Relayed, Failed, Stored, First, Drained}
use Rattle.gmp_seq.specs.Machines.{Sets}
use Rattle.gmp_seq.specs.State.{State}
use Rattle.gmp_seq.specs.Step
use Rattle.gmp_seq.specs.Table.{Table, IsRunning, IsCalling, status_at, epoch_at, next_of, is_held, is_out, is_parked, is_startable, is_waiting, set_status, made_ready, made_wait, all_woken, due_answer}
use Rattle.gmp_seq.specs.Waits.{close_answer}
use Rattle.gmp_seq.specs.Step.{sender_in, ticket_in, ticket_of}
use Rattle.gmp_driver.specs.declared.registers.CalledParts.{CalledParts}
use Rattle.gmp_driver.specs.declared.registers.HeldParts.{HeldParts}
use Rattle.gmp_driver.specs.declared.registers.ProcParts.{ProcParts}
use Rattle.gmp_driver.specs.Registers.{but, put_value, first_of}
use Rattle.gmp_acts.specs.Hands.{PlainHand}
use Rattle.gmp_driver.specs.Uses.{Uses}
use Rattle.gmp_acts.specs.Hands.{hand_after, left_by, retold, called_from, running_again}
use Rattle.gmp_acts.specs.System.{held_number, called_number, is_ticket, in_hand}
use Rattle.gmp_acts.proofs.Tracks.{Tracks, tracks_apart, tracks_gain, tracks_lose}

-- Who runs what

abbrev pub number : GNo → ℕ
number g = g.0

pub same_goroutine : (a b : GNo) → number a ≡ number b → a ≡ b
same_goroutine a b e = ap (λ (n : ℕ). let g : GNo = record { 0 = n } in g) e

abbrev pub RunsOn : MNo → Option Goroutine → Type 0
RunsOn m o = option_map (λ (x : Goroutine). x.status) o ≡ Some (status.Running m)

abbrev pub CallsOn : MNo → Option Goroutine → Type 0
CallsOn m o = option_map (λ (x : Goroutine). x.status) o ≡ Some (status.Calling m)

-- what one row's change means for the goroutine that the machine runs (h, then h'), and for that of its blocking call (c, then c')
pub data Role (m : MNo) (g : GNo) (a b : Status) (h h' c c' : Option GNo) : Type 0 where
  apart : is_held a ≡ false → is_held b ≡ false → h' ≡ h → c' ≡ c → Role m g a b h h' c c'
  claims : is_held a ≡ false → b ≡ status.Running m → h ≡ None → h' ≡ Some g → c' ≡ c → Role m g a b h h' c c'
  leaves : a ≡ status.Running m → is_held b ≡ false → h' ≡ None → c' ≡ c → Role m g a b h h' c c'
  enters : a ≡ status.Running m → b ≡ status.Calling m → h' ≡ None → c ≡ None → c' ≡ Some g → Role m g a b h h' c c'
  returns : a ≡ status.Calling m → b ≡ status.Running m → h ≡ None → h' ≡ Some g → c' ≡ None → Role m g a b h h' c c'
  shelves : a ≡ status.Calling m → is_held b ≡ false → h' ≡ h → c' ≡ None → Role m g a b h h' c c'

not_running : (s : Status) (m : MNo) → is_held s ≡ false → Some s ≡ Some (status.Running m) → ⊥
not_running s m h e = let is : s ≡ status.Running m = cc in false≢true (sym h ∙ ap is_held is)

not_calling : (s : Status) (m : MNo) → is_held s ≡ false → Some s ≡ Some (status.Calling m) → ⊥
not_calling s m h e = let is : s ≡ status.Calling m = cc in false≢true (sym h ∙ ap is_held is)

calls_not_runs : (s : Status) (m n : MNo) → s ≡ status.Calling m → Some s ≡ Some (status.Running n) → ⊥
calls_not_runs s m n h e = cc

runs_not_calls : (s : Status) (m n : MNo) → s ≡ status.Running m → Some s ≡ Some (status.Calling n) → ⊥
runs_not_calls s m n h e = cc

other_run : (s : Status) (m n : MNo) → n ≢ m → s ≡ status.Running m → Some s ≡ Some (status.Running n) → ⊥
other_run s m n ne h e = ne (let same : n ≡ m = cc in same)

other_call : (s : Status) (m n : MNo) → n ≢ m → s ≡ status.Calling m → Some s ≡ Some (status.Calling n) → ⊥
other_call s m n ne h e = ne (let same : n ≡ m = cc in same)

-- neither status is another machine's
abbrev NotOf : MNo → Status → Type 0
NotOf n s = (Some s ≡ Some (status.Running n) → ⊥) × (Some s ≡ Some (status.Calling n) → ⊥)

free_not : (s : Status) (n : MNo) → is_held s ≡ false → NotOf n s
free_not s n h = (not_running s n h, not_calling s n h)

run_not : (s : Status) (m n : MNo) → n ≢ m → s ≡ status.Running m → NotOf n s
run_not s m n ne h = (other_run s m n ne h, runs_not_calls s m n h)

call_not : (s : Status) (m n : MNo) → n ≢ m → s ≡ status.Calling m → NotOf n s
call_not s m n ne h = (calls_not_runs s m n h, other_call s m n ne h)

role_not : (m n : MNo) (g : GNo) (a b : Status) (h h' c c' : Option GNo) → n ≢ m → Role m g a b h h' c c' → NotOf n a × NotOf n b
role_not m n g a b h h' c c' ne (apart na nb eh ec) = (free_not a n na, free_not b n nb)
role_not m n g a b h h' c c' ne (claims na is none eh ec) = (free_not a n na, run_not b m n ne is)
role_not m n g a b h h' c c' ne (leaves was nb eh ec) = (run_not a m n ne was, free_not b n nb)
role_not m n g a b h h' c c' ne (enters was is eh none ec) = (run_not a m n ne was, call_not b m n ne is)
role_not m n g a b h h' c c' ne (returns was is none eh ec) = (call_not a m n ne was, run_not b m n ne is)
role_not m n g a b h h' c c' ne (shelves was nb eh ec) = (call_not a m n ne was, free_not b n nb)

module _ (gs : List Goroutine) (m : MNo) (g : GNo) (x y : Goroutine) (at : slice_get gs g.0 ≡ Some x) (h h' c c' : Option GNo) where
  pub runs_after : Role m g x.status y.status h h' c c' → Tracks number (RunsOn m) gs h → Tracks number (RunsOn m) (set gs g.0 y) h'
  runs_after (apart na nb eh ec) tr =
      subst (Tracks number (RunsOn m) (set gs g.0 y)) (sym eh) (tracks_apart number same_goroutine (RunsOn m) gs g x y at h (not_running x.status m na) (not_running y.status m nb) tr)
  runs_after (claims na is none eh ec) tr =
      subst (Tracks number (RunsOn m) (set gs g.0 y)) (sym eh) (tracks_gain number same_goroutine (RunsOn m) gs g x y at (ap Some is) (subst (Tracks number (RunsOn m) gs) none tr))
  runs_after (leaves was nb eh ec) tr =
      subst (Tracks number (RunsOn m) (set gs g.0 y)) (sym eh) (tracks_lose number same_goroutine (RunsOn m) gs g x y at h (ap Some was) (not_running y.status m nb) tr)
  runs_after (enters was is eh none ec) tr =
      subst (Tracks number (RunsOn m) (set gs g.0 y)) (sym eh) (tracks_lose number same_goroutine (RunsOn m) gs g x y at h (ap Some was) (calls_not_runs y.status m m is) tr)
  runs_after (returns was is none eh ec) tr =
      subst (Tracks number (RunsOn m) (set gs g.0 y)) (sym eh) (tracks_gain number same_goroutine (RunsOn m) gs g x y at (ap Some is) (subst (Tracks number (RunsOn m) gs) none tr))
  runs_after (shelves was nb eh ec) tr =
      subst (Tracks number (RunsOn m) (set gs g.0 y)) (sym eh) (tracks_apart number same_goroutine (RunsOn m) gs g x y at h (calls_not_runs x.status m m was) (not_running y.status m nb) tr)

  pub calls_after : Role m g x.status y.status h h' c c' → Tracks number (CallsOn m) gs c → Tracks number (CallsOn m) (set gs g.0 y) c'
  calls_after (apart na nb eh ec) tr =
      subst (Tracks number (CallsOn m) (set gs g.0 y)) (sym ec) (tracks_apart number same_goroutine (CallsOn m) gs g x y at c (not_calling x.status m na) (not_calling y.status m nb) tr)
  calls_after (claims na is none eh ec) tr =
      subst (Tracks number (CallsOn m) (set gs g.0 y)) (sym ec) (tracks_apart number same_goroutine (CallsOn m) gs g x y at c (not_calling x.status m na) (runs_not_calls y.status m m is) tr)
  calls_after (leaves was nb eh ec) tr =
      subst (Tracks number (CallsOn m) (set gs g.0 y)) (sym ec) (tracks_apart number same_goroutine (CallsOn m) gs g x y at c (runs_not_calls x.status m m was) (not_calling y.status m nb) tr)
  calls_after (enters was is eh none ec) tr =
      subst (Tracks number (CallsOn m) (set gs g.0 y)) (sym ec) (tracks_gain number same_goroutine (CallsOn m) gs g x y at (ap Some is) (subst (Tracks number (CallsOn m) gs) none tr))
  calls_after (returns was is none eh ec) tr =
      subst (Tracks number (CallsOn m) (set gs g.0 y)) (sym ec) (tracks_lose number same_goroutine (CallsOn m) gs g x y at c (ap Some was) (runs_not_calls y.status m m is) tr)
  calls_after (shelves was nb eh ec) tr =
      subst (Tracks number (CallsOn m) (set gs g.0 y)) (sym ec) (tracks_lose number same_goroutine (CallsOn m) gs g x y at c (ap Some was) (not_calling y.status m nb) tr)

  pub others_run : (n : MNo) (o : Option GNo) → n ≢ m → Role m g x.status y.status h h' c c' → Tracks number (RunsOn n) gs o → Tracks number (RunsOn n) (set gs g.0 y) o
  others_run n o ne role tr =
      let not = role_not m n g x.status y.status h h' c c' ne role in
      tracks_apart number same_goroutine (RunsOn n) gs g x y at o not.0.0 not.1.0 tr

  pub others_call : (n : MNo) (o : Option GNo) → n ≢ m → Role m g x.status y.status h h' c c' → Tracks number (CallsOn n) gs o → Tracks number (CallsOn n) (set gs g.0 y) o
  others_call n o ne role tr =
      let not = role_not m n g x.status y.status h h' c c' ne role in
      tracks_apart number same_goroutine (CallsOn n) gs g x y at o not.0.1 not.1.1 tr

-- Tickets that are out

-- 1 where the row is out by r
abbrev pub out_of : Readiness → Option Goroutine → ℕ
out_of r o = if option_map_or (λ (x : Goroutine). is_out x.status && (x.epoch == r.epoch)) o false then 1 else 0

-- 1 where r is of goroutine g, whose row this is
abbrev pub tick : Readiness → GNo → Goroutine → ℕ
tick r g x = if (r.g.0 == g.0) && (is_out x.status && (x.epoch == r.epoch)) then 1 else 0

pub out_turn : (gs : List Goroutine) (g : GNo) (x y : Goroutine) (r : Readiness) → slice_get gs g.0 ≡ Some x
    → out_of r (slice_get (set gs g.0 y) r.g.0) + tick r g x ≡ out_of r (slice_get gs r.g.0) + tick r g y
out_turn gs g x y r at =
    elim (set_at gs g.0 x y r.g.0 at) [
      | inl here ↦
          let same : (r.g.0 == g.0) ≡ true = eq-eqb r.g.0 g.0 here.0 in
          let now : out_of r (slice_get (set gs g.0 y) r.g.0) ≡ out_of r (Some y) = ap (out_of r) here.1 in
          let was : out_of r (slice_get gs r.g.0) ≡ out_of r (Some x) = ap (λ (n : ℕ). out_of r (slice_get gs n)) here.0 ∙ ap (out_of r) at in
          let tx : tick r g x ≡ out_of r (Some x) = ap (λ (b : Bool). if b && (is_out x.status && (x.epoch == r.epoch)) then 1 else 0) same in
          let ty : tick r g y ≡ out_of r (Some y) = ap (λ (b : Bool). if b && (is_out y.status && (y.epoch == r.epoch)) then 1 else 0) same in
          omega (arith, now, was, tx, ty)
      | inr there ↦
          let other : (r.g.0 == g.0) ≡ false = ne_eqb r.g.0 g.0 there.0 in
          let now : out_of r (slice_get (set gs g.0 y) r.g.0) ≡ out_of r (slice_get gs r.g.0) = ap (out_of r) there.1 in
          let tx : tick r g x ≡ 0 = ap (λ (b : Bool). if b && (is_out x.status && (x.epoch == r.epoch)) then 1 else 0) other in
          let ty : tick r g y ≡ 0 = ap (λ (b : Bool). if b && (is_out y.status && (y.epoch == r.epoch)) then 1 else 0) other in
          omega (arith, now, tx, ty)
    ]

and_none : (a : Bool) → ◌≡◌ {A = ℕ} (if a && false then 1 else 0) 0
and_none true = refl
and_none false = refl

tick_in : (r : Readiness) (g : GNo) (x : Goroutine) → is_out x.status ≡ false → tick r g x ≡ 0
tick_in r g x h = ap (λ (b : Bool). if (r.g.0 == g.0) && (b && (x.epoch == r.epoch)) then 1 else 0) h ∙ and_none (r.g.0 == g.0)

tick_row : (r : Readiness) (g : GNo) (s : Status) (epoch : ℕ) → is_out s ≡ false → tick r g (record { status = s; epoch = epoch }) ≡ 0
tick_row r g s epoch h = tick_in r g (record { status = s; epoch = epoch }) h

eqb_turned : (a b : ℕ) → (a == b) ≡ (b == a)
eqb_turned a b = elim (cases_eq a b) [
  | inl same ↦ eq-eqb a b same ∙ sym (eq-eqb b a (sym same))
  | inr other ↦ ne_eqb a b other ∙ sym (ne_eqb b a (λ e. other (sym e)))
]

tick_out : (r : Readiness) (g : GNo) (a : Woke) (epoch : ℕ) → tick r g (record { status = status.Ready Out a; epoch = epoch }) ≡ is_ticket r (Some (record { g = g; epoch = epoch }))
tick_out r g a epoch = ap (λ (b : Bool). if (r.g.0 == g.0) && b then 1 else 0) (eqb_turned epoch r.epoch)

-- The turn of a call

-- the machine has the same goroutines and tickets
pub record SameHand (hand hand' : PlainHand) : Type 0 where
  pub held : held_number hand'.held ≡ held_number hand.held
  pub called : called_number hand'.called ≡ called_number hand.called
  pub tickets : (r : Readiness) → in_hand r hand' ≡ in_hand r hand

pub data Turn (m : MNo) (old new : Table) (hand hand' : PlainHand) : Type 0 where
  stays : new.goroutines ≡ old.goroutines → SameHand hand hand' → Turn m old new hand hand'
  woken : (answer : Status → Option Woke) → ((s : Status) → is_some (answer s) ≡ true → is_waiting s ≡ true)
      → new.goroutines ≡ (all_woken answer old).goroutines → SameHand hand hand' → Turn m old new hand hand'
  turns : (g : GNo) (x y : Goroutine) → slice_get old.goroutines g.0 ≡ Some x → new.goroutines ≡ set old.goroutines g.0 y
      → Role m g x.status y.status (held_number hand.held) (held_number hand'.held) (called_number hand.called) (called_number hand'.called)
      → ((r : Readiness) → in_hand r hand' + tick r g x ≡ in_hand r hand + tick r g y) → Turn m old new hand hand'

abbrev rows : Table → List Goroutine
rows t = t.goroutines

-- Hands

pub retold_number : (w : Woke) (o : Option (HeldParts Unit)) → held_number (retold w o) ≡ held_number o
retold_number w None = refl
retold_number w (Some h) = refl

pub gone_number : (o : Option (HeldParts Unit)) → called_number (called_from o) ≡ held_number o
gone_number None = refl
gone_number (Some h) = refl

pub returned_number : (number : ℕ) (o : Option (CalledParts Unit)) → held_number (running_again number o) ≡ called_number o
returned_number number None = refl
returned_number number (Some c) = refl

-- it goes on, and no ticket comes
on_same : (w : Woke) (hand : PlainHand) (o : Option Readiness) → hand.to_store ≡ None → o ≡ None → SameHand hand (record hand { held = retold w hand.held; to_store = o })
on_same w hand o free none = record {
  held = retold_number w hand.held;
  called = refl;
  tickets = λ r. (let a : is_ticket r hand.to_store ≡ 0 = ap (is_ticket r) free in let b : is_ticket r o ≡ 0 = ap (is_ticket r) none in omega (arith, a, b));
}

pub acquired_same : (t : Table) (answer : Reply) (hand : PlainHand) → SameHand hand (hand_after t call.Acquire answer hand)
acquired_same t (reply.Proc p) hand = record { held = refl; called = refl; tickets = λ r. refl }
acquired_same t _ hand = record { held = refl; called = refl; tickets = λ r. refl }

put_hand : (r : Readiness) (p : Option (ProcParts Unit)) (h : Option (HeldParts Unit)) (c : Option (CalledParts Unit)) (t s : Option Readiness) → first_of s t ≡ Some r
    → (let hand : PlainHand = record { processor = p; held = h; called = c; to_claim = t; to_store = s } in
    (held_number (but (put_value s) hand).held ≡ held_number h) × (called_number (but (put_value s) hand).called ≡ called_number c)
    × ((q : Readiness) → in_hand q (but (put_value s) hand) + is_ticket q (Some r) ≡ in_hand q hand))
put_hand r p h c t None e = (refl, refl, λ q. let same : is_ticket q t ≡ is_ticket q (Some r) = ap (is_ticket q) e in omega (arith, same))
put_hand r p h c t (Some s) e = (refl, refl, λ q. let same : is_ticket q (Some s) ≡ is_ticket q (Some r) = ap (is_ticket q) e in omega (arith, same))

module _ (m : MNo) (old new : Table) (hand : PlainHand) where
  takes_turn : (answer : Reply) → hand.to_claim ≡ None → Step.Takes answer old new → Turn m old new hand (hand_after old call.Take answer hand)
  takes_turn (reply.Ticket r) free (a, ready, is) =
      let epoch : epoch_at old r.g ≡ r.epoch = ap epoch_of ready in
      turns r.g _ _ ready (ap rows is) (apart refl refl refl refl)
      (λ q.
      let none : is_ticket q hand.to_claim ≡ 0 = ap (is_ticket q) free in
      let was : tick q r.g (record { status = status.Ready Shelf a; epoch = r.epoch }) ≡ 0 = tick_row q r.g (status.Ready Shelf a) (r.epoch) refl in
      let now : tick q r.g (record { status = status.Ready Out a; epoch = epoch_at old r.g }) ≡ is_ticket q (Some r) =
      tick_out q r.g a (epoch_at old r.g) ∙ ap (λ (n : ℕ). is_ticket q (Some (record { g = r.g; epoch = n }))) epoch in
      omega (arith, none, was, now))
  takes_turn reply.Nothing free (none, is) = stays (ap rows is) (record { held = refl; called = refl; tickets = λ r. refl })
  takes_turn _ free h = absurd h

  puts_turn : (r : Readiness) (answer : Reply) → first_of hand.to_store hand.to_claim ≡ Some r → Step.Puts r answer old new → Turn m old new hand (hand_after old (call.Put r) answer hand)
  puts_turn r reply.Shelf has (a, ready, is) =
      let parts = put_hand r hand.processor hand.held hand.called hand.to_claim hand.to_store has in
      turns r.g _ _ ready (ap rows is) (apart refl refl parts.0 parts.1)
      (λ q.
      let less = parts.2 q in
      let was : tick q r.g (record { status = status.Ready Out a; epoch = r.epoch }) ≡ is_ticket q (Some r) = tick_out q r.g a r.epoch in
      let now : tick q r.g (record { status = status.Ready Shelf a; epoch = epoch_at old r.g }) ≡ 0 = tick_row q r.g (status.Ready Shelf a) (epoch_at old r.g) refl in
      omega (arith, less, was, now))
  puts_turn r _ has h = absurd h

  claims_turn : (r : Readiness) (answer : Reply) → hand.to_claim ≡ Some r → hand.held ≡ None → Step.Claims m r answer old new → Turn m old new hand (hand_after old (call.Claim r) answer hand)
  claims_turn r reply.Held has free (a, ready, is) =
      turns r.g _ _ ready (ap rows is) (claims refl refl (ap held_number free) refl refl)
      (λ q.
      let had : is_ticket q hand.to_claim ≡ is_ticket q (Some r) = ap (is_ticket q) has in
      let was : tick q r.g (record { status = status.Ready Out a; epoch = r.epoch }) ≡ is_ticket q (Some r) = tick_out q r.g a r.epoch in
      let now : tick q r.g (record { status = status.Running m; epoch = epoch_at old r.g }) ≡ 0 = tick_row q r.g (status.Running m) (epoch_at old r.g) refl in
      omega (arith, had, was, now))
  claims_turn r _ has free h = absurd h

  -- a goroutine becomes ready, and its ticket is to store
  readies_turn : (w a : Woke) (h : GNo) (s : Status) (o : Option Readiness) → status_at old h ≡ Some s → is_held s ≡ false → is_out s ≡ false → o ≡ Some (next_of old h)
      → new.goroutines ≡ (made_ready old h Out a).goroutines → hand.to_store ≡ None → Turn m old new hand (record hand { held = retold w hand.held; to_store = o })
  readies_turn w a h s o does free unout next is store =
      let row = row_at old h s does in
      turns h row.0 _ row.1 is (apart (ap is_held row.2 ∙ free) refl (retold_number w hand.held) refl)
      (λ q.
      let none : is_ticket q hand.to_store ≡ 0 = ap (is_ticket q) store in
      let comes : is_ticket q o ≡ is_ticket q (Some (next_of old h)) = ap (is_ticket q) next in
      let was : tick q h row.0 ≡ 0 = tick_in q h row.0 (ap is_out row.2 ∙ unout) in
      let now : tick q h (record { status = status.Ready Out a; epoch = epoch_at old h + 1 }) ≡ is_ticket q (Some (next_of old h)) = tick_out q h a (epoch_at old h + 1) in
      omega (arith, none, comes, was, now))

  -- the goroutine that the machine runs stops
  leaves_turn : (g : GNo) (s : Status) (epoch : ℕ) → IsRunning old g m → is_held s ≡ false → is_out s ≡ false → new.goroutines ≡ set old.goroutines g.0 (record { status = s; epoch = epoch })
      → Turn m old new hand (record hand { held = None })
  leaves_turn g s epoch running free unout is =
      let row = row_at old g (status.Running m) running in
      turns g row.0 _ row.1 is (leaves row.2 free refl refl)
      (λ q.
      let was : tick q g row.0 ≡ 0 = tick_in q g row.0 (ap is_out row.2) in
      let now : tick q g (record { status = s; epoch = epoch }) ≡ 0 = tick_row q g (s) (epoch) unout in
      omega (arith, was, now))

  starts_turn : (h : GNo) (answer : Reply) → hand.to_store ≡ None → Step.Starts h answer old new → Turn m old new hand (left_by answer hand)
  starts_turn h (reply.Ticket r) store (dormant, next, is) = readies_turn _ _ h status.Dormant (Some r) dormant refl refl (ap Some next) (ap rows is) store
  starts_turn h (reply.Fault fault.NoSuchBody) store (none, is) = stays (ap rows is) (on_same _ hand None store refl)
  starts_turn h (reply.Fault fault.AlreadyStarted) store (none, is) = stays (ap rows is) (on_same _ hand None store refl)
  starts_turn h _ store k = absurd k

  -- one whose status passes the test, and so is neither in hand nor out
  free_at : (test : Status → Bool) → ((s : Status) → test s ≡ true → (is_held s ≡ false) × (is_out s ≡ false)) → (h : GNo) → option_map test (status_at old h) ≡ Some true
      → (s : Status) × (status_at old h ≡ Some s) × (is_held s ≡ false) × (is_out s ≡ false)
  free_at test free h e = by_status (status_at old h) refl e where
    by_status : (o : Option Status) → status_at old h ≡ o → option_map test o ≡ Some true → (s : Status) × (status_at old h ≡ Some s) × (is_held s ≡ false) × (is_out s ≡ false)
    by_status None is k = absurd cc
    by_status (Some s) is k = let parts = free s (let same : test s ≡ true = cc in same) in (s, is, parts.0, parts.1)

  startable_free : (s : Status) → is_startable s ≡ true → (is_held s ≡ false) × (is_out s ≡ false)
  startable_free status.Dormant k = (refl, refl)
  startable_free status.Dead k = (refl, refl)
  startable_free _ k = absurd (false≢true k)

  spawns_turn : (answer : Reply) → hand.to_store ≡ None → Step.Spawns answer old new → Turn m old new hand (left_by answer hand)
  spawns_turn (reply.Ticket r) store (startable, next, is) =
      let s = free_at is_startable startable_free r.g startable in readies_turn _ _ r.g s.0 (Some r) s.1 s.2 s.3 (ap Some next) (ap rows is) store
  spawns_turn (reply.Fault fault.NoSuchBody) store (none, is) = stays (ap rows is) (on_same _ hand None store refl)
  spawns_turn _ store k = absurd k

  parked_free : (s : Status) → is_parked s ≡ true → (is_held s ≡ false) × (is_out s ≡ false)
  parked_free (status.Waiting w) k = (refl, refl)
  parked_free _ k = absurd (false≢true k)

  wakes_turn : (h : GNo) (answer : Reply) → hand.to_store ≡ None → Step.Readies h answer old new → Turn m old new hand (left_by answer hand)
  wakes_turn h (reply.Ticket r) store (parked, next, is) =
      let p = free_at is_parked parked_free h parked in readies_turn _ _ h p.0 (Some r) p.1 p.2 p.3 (ap Some next) (ap rows is) store
  wakes_turn h (reply.Fault fault.NoSuchBody) store (none, is) = stays (ap rows is) (on_same _ hand None store refl)
  wakes_turn h (reply.Fault fault.NotParked) store (none, is) = stays (ap rows is) (on_same _ hand None store refl)
  wakes_turn h _ store k = absurd k

  yields_turn : (g : GNo) (answer : Reply) → IsRunning old g m → Step.Yields g answer old new → Turn m old new hand (hand_after old call.Yield answer hand)
  yields_turn g (reply.Shelved r) running (next, is) = leaves_turn g _ _ running refl refl (ap rows is)
  yields_turn g _ running h = absurd h

  exits_turn : (g : GNo) (answer : Reply) → IsRunning old g m → Step.Exits g answer old new → Turn m old new hand (hand_after old call.Exit answer hand)
  exits_turn g reply.Dead running (main, is) = leaves_turn g _ _ running refl refl (ap rows is)
  exits_turn g reply.MainEnded running (main, is) = leaves_turn g _ _ running refl refl (ap rows is)
  exits_turn g _ running h = absurd h

  waits_turn : (g : GNo) (why : Kind) (offers : List Offer) (until : Option ℕ) → IsRunning old g m → new ≡ made_wait old g why offers until → Turn m old new hand (record hand { held = None })
  waits_turn g why offers until running is = leaves_turn g _ _ running refl refl (ap rows is)

  sleeps_turn : (g : GNo) (until : ℕ) (answer : Reply) → IsRunning old g m → Step.Sleeps g until answer old new → Turn m old new hand (left_by answer hand)
  sleeps_turn g until reply.Waits running is = waits_turn g _ _ _ running is
  sleeps_turn g until _ running h = absurd h

  goparks_turn : (g : GNo) (answer : Reply) → IsRunning old g m → Step.Goparks g answer old new → Turn m old new hand (left_by answer hand)
  goparks_turn g reply.Waits running is = waits_turn g _ _ _ running is
  goparks_turn g _ running h = absurd h

  enters_turn : (g : GNo) (answer : Reply) → IsRunning old g m → held_number hand.held ≡ Some g → hand.called ≡ None → new ≡ set_status old g (status.Calling m)
      → Turn m old new hand (hand_after old call.Enter answer hand)
  enters_turn g answer running holds free is =
      let row = row_at old g (status.Running m) running in
      turns g row.0 _ row.1 (ap rows is) (enters row.2 refl refl (ap called_number free) (gone_number hand.held ∙ holds))
      (λ q.
      let was : tick q g row.0 ≡ 0 = tick_in q g row.0 (ap is_out row.2) in
      let now : tick q g (record { status = status.Calling m; epoch = epoch_at old g }) ≡ 0 = tick_row q g (status.Calling m) (epoch_at old g) refl in
      omega (arith, was, now))

  resumes_turn : (g : GNo) (k : ℕ) (answer : Reply) → IsCalling old g m → called_number hand.called ≡ Some g → hand.held ≡ None → Step.Resumes g m k answer old new
      → Turn m old new hand (hand_after old (call.Leave k) answer hand)
  resumes_turn g k (reply.Runs p) calling has free is =
      let row = row_at old g (status.Calling m) calling in
      turns g row.0 _ row.1 (ap rows is) (returns row.2 refl (ap held_number free) (returned_number k hand.called ∙ has) refl)
      (λ q.
      let was : tick q g row.0 ≡ 0 = tick_in q g row.0 (ap is_out row.2) in
      let now : tick q g (record { status = status.Running m; epoch = epoch_at old g }) ≡ 0 = tick_row q g (status.Running m) (epoch_at old g) refl in
      omega (arith, was, now))
  resumes_turn g k (reply.Shelved r) calling has free (next, is) =
      let row = row_at old g (status.Calling m) calling in
      turns g row.0 _ row.1 (ap rows is) (shelves row.2 refl refl refl)
      (λ q.
      let was : tick q g row.0 ≡ 0 = tick_in q g row.0 (ap is_out row.2) in
      let now : tick q g (record { status = status.Ready Shelf (woke.Number k); epoch = epoch_at old g + 1 }) ≡ 0 = tick_row q g (status.Ready Shelf (woke.Number k)) (epoch_at old g + 1) refl in
      omega (arith, was, now))
  resumes_turn g k _ calling has free h = absurd h

  ticks_turn : (moment : ℕ) (answer : Reply) → Step.Ticks moment answer old new → Turn m old new hand hand
  ticks_turn moment (reply.Woke n) (is, count) =
      woken (due_answer (max old.clock moment)) (due_waits (max old.clock moment)) (ap rows is) (record { held = refl; called = refl; tickets = λ r. refl })
  ticks_turn moment _ h = absurd h

module _ (m : MNo) (old new : State) (hand : PlainHand) (store : hand.to_store ≡ None) where
  communicates_turn : (w : Woke) (c : Case) (told : Taken) → Step.Communicates c told old new → Turn m old.table new.table hand (record hand { held = retold w hand.held; to_store = ticket_of told })
  communicates_turn w (case.Send (Some c) v) told (Handed from, how, told_is, is, rest) =
      readies_turn m old.table new.table hand w _ from.g _ (ticket_of told) (first_waits old.table c Receiving from how.1).0.status refl refl (ap ticket_of told_is) (ap rows is) store
  communicates_turn w (case.Recv (Some c)) told (Relayed v from, how, told_is, is, rest) =
      readies_turn m old.table new.table hand w _ from.g _ (ticket_of told) (first_waits old.table c Sending from how.1).0.status refl refl (ap ticket_of told_is) (ap rows is) store
  communicates_turn w (case.Send None v) told (how, never, told_is, is, rest) = absurd never
  communicates_turn w (case.Recv None) told (how, never, told_is, is, rest) = absurd never
  communicates_turn w (case.Send (Some c) v) told (Failed, how, told_is, is, rest) = stays (ap rows is) (on_same w hand (ticket_of told) store (ap ticket_of told_is))
  communicates_turn w (case.Send (Some c) v) told (Stored, how, told_is, is, rest) = stays (ap rows is) (on_same w hand (ticket_of told) store (ap ticket_of told_is))
  communicates_turn w (case.Recv (Some c)) told (First v, how, told_is, is, rest) = stays (ap rows is) (on_same w hand (ticket_of told) store (ap ticket_of told_is))
  communicates_turn w (case.Recv (Some c)) told (Drained, how, told_is, is, rest) = stays (ap rows is) (on_same w hand (ticket_of told) store (ap ticket_of told_is))
  communicates_turn w (case.Send (Some c) v) told (_, never, told_is, is, rest) = absurd never
  communicates_turn w (case.Recv (Some c)) told (_, never, told_is, is, rest) = absurd never

  deals_turn : (g : GNo) (c : Case) (answer : Reply) → IsRunning old.table g m → Step.Deals g c answer old new → Turn m old.table new.table hand (left_by answer hand)
  deals_turn g c (reply.Sent to) running (made, h) = communicates_turn _ c _ h
  deals_turn g c (reply.Got v sent from) running (made, h) = communicates_turn _ c _ h
  deals_turn g c (reply.Fault fault.SendOnClosed) running (made, h) = communicates_turn _ c _ h
  deals_turn g c reply.Waits running (made, (blocked, is, rest, more)) = waits_turn m old.table new.table hand g _ _ _ running is
  deals_turn g c (reply.Fault fault.NoSuchChannel) running (made, (is, rest, more)) = stays (ap rows is) (on_same _ hand None store refl)
  deals_turn g c _ running h = absurd h

  selects_turn : (g : GNo) (cases : List Case) (has_default : Bool) (until : Option ℕ) (answer : Reply) → IsRunning old.table g m
      → Step.Selects g cases has_default until answer old new → Turn m old.table new.table hand (left_by answer hand)
  selects_turn g cases has_default until (reply.Chose i told) running (made, c, at, h) = communicates_turn _ c told h
  selects_turn g cases has_default until reply.Default running (made, allowed, none, (is, rest, more)) = stays (ap rows is) (on_same _ hand None store refl)
  selects_turn g cases has_default until reply.Waits running (made, no_default, (blocked, is, rest, more)) = waits_turn m old.table new.table hand g _ _ _ running is
  selects_turn g cases has_default until (reply.Fault fault.NoSuchChannel) running (made, (is, rest, more)) = stays (ap rows is) (on_same _ hand None store refl)
  selects_turn g cases has_default until _ running h = absurd h

  closes_turn : (c : Option CNo) (answer : Reply) → Step.Closes c answer old new → Turn m old.table new.table hand (left_by answer hand)
  closes_turn (Some c) (reply.Closed n) (made, open_, channels, is, rest, more) = woken (close_answer c) (close_waits c) (ap rows is) (on_same _ hand None store refl)
  closes_turn (Some c) (reply.Fault fault.CloseOfClosed) (made, closed, (is, rest, more)) = stays (ap rows is) (on_same _ hand None store refl)
  closes_turn (Some c) (reply.Fault fault.NoSuchChannel) (made, (is, rest, more)) = stays (ap rows is) (on_same _ hand None store refl)
  closes_turn None (reply.Fault fault.CloseOfNil) (is, rest, more) = stays (ap rows is) (on_same _ hand None store refl)
  closes_turn _ _ h = absurd h

  makes_turn : (limits : Limits) (capacity : ℕ) (answer : Reply) → Step.OnChannels (Step.Makes limits capacity answer) old new → Turn m old.table new.table hand (left_by answer hand)
  makes_turn limits capacity (reply.Channel c) (h, is, more) = stays (ap rows is) (on_same _ hand None store refl)
  makes_turn limits capacity (reply.Fault fault.BadCapacity) (h, is, more) = stays (ap rows is) (on_same _ hand None store refl)
  makes_turn limits capacity (reply.Fault fault.TooManyChannels) (h, is, more) = stays (ap rows is) (on_same _ hand None store refl)
  makes_turn limits capacity _ (h, is, more) = absurd h

  tells_turn : (number : CNo → ℕ) (c : Option CNo) (answer : Reply) → Step.OnChannels (Step.Tells number c answer) old new → Turn m old.table new.table hand (left_by answer hand)
  tells_turn number c (reply.Number n) (h, is, more) = stays (ap rows is) (on_same _ hand None store refl)
  tells_turn number c (reply.Fault fault.NoSuchChannel) (h, is, more) = stays (ap rows is) (on_same _ hand None store refl)
  tells_turn number c _ (h, is, more) = absurd h

  sets_turn : (n : ℕ) (answer : Reply) → Step.OnMachines (Sets n answer) old new → Turn m old.table new.table hand (left_by answer hand)
  sets_turn n (reply.Number before) (h, is, rest) = stays (ap rows is) (on_same _ hand None store refl)
  sets_turn n (reply.Fault fault.BadProcs) (h, is, rest) = stays (ap rows is) (on_same _ hand None store refl)
  sets_turn n _ (h, is, rest) = absurd h

same_hand : (hand : PlainHand) → SameHand hand hand
same_hand hand = record { held = refl; called = refl; tickets = λ r. refl }

parks_turn : (m : MNo) (answer : Reply) (old new : State) (hand : PlainHand) → Step.Parks m answer old new → Turn m old.table new.table hand hand
parks_turn m reply.Work old new hand (work, (is, rest, more)) = stays (ap rows is) (same_hand hand)
parks_turn m reply.AllAsleep old new hand (work, asleep, (is, rest, more)) = stays (ap rows is) (same_hand hand)
parks_turn m (reply.Mind until) old new hand (work, astir, minds, (is, rest, more)) = stays (ap rows is) (same_hand hand)
parks_turn m reply.LookAgain old new hand (work, astir, minds, marked, (is, rest, more)) = stays (ap rows is) (same_hand hand)
parks_turn m reply.Parked old new hand (work, astir, minds, unmarked, is, rest, more) = stays (ap rows is) (same_hand hand)
parks_turn m _ old new hand h = absurd h

-- each call, by a machine whose registers are as the call finds them
pub effect_turn : (limits : Limits) (m : MNo) (c : Call) (answer : Reply) (old new : State) (hand : PlainHand) → Uses c hand
    → Tracks number (RunsOn m) old.table.goroutines (held_number hand.held) → Tracks number (CallsOn m) old.table.goroutines (called_number hand.called)
    → Step.Effect limits m c answer old new → Turn m old.table new.table hand (hand_after old.table c answer hand)
effect_turn limits m call.Acquire answer old new hand u runs calls (h, is, rest) = stays (ap rows is) (acquired_same old.table answer hand)
effect_turn limits m call.Take answer old new hand u runs calls (awake, (h, rest, more)) = takes_turn m _ _ hand answer u h
effect_turn limits m (call.Put r) answer old new hand u runs calls (awake, (h, rest, more)) = puts_turn m _ _ hand r answer u h
effect_turn limits m (call.Claim r) answer old new hand u runs calls (free, holds, (h, rest, more)) = claims_turn m _ _ hand r answer u.0 u.1 h
effect_turn limits m (call.Go k) answer old new hand u runs calls (g, running, (h, rest, more)) = starts_turn m _ _ hand k answer u.2 h
effect_turn limits m call.Spawn answer old new hand u runs calls (g, running, (h, rest, more)) = spawns_turn m _ _ hand answer u.2 h
effect_turn limits m call.Yield answer old new hand u runs calls (g, running, (h, rest, more)) = yields_turn m _ _ hand g answer running h
effect_turn limits m call.Exit answer old new hand u runs calls (g, running, (h, rest, more)) = exits_turn m _ _ hand g answer running h
effect_turn limits m (call.Make capacity) answer old new hand u runs calls (g, running, h) = makes_turn m old new hand u.2 limits capacity answer h
effect_turn limits m (call.Send c v) answer old new hand u runs calls (g, running, h) = deals_turn m old new hand u.2 g (case.Send c v) answer running h
effect_turn limits m (call.Recv c) answer old new hand u runs calls (g, running, h) = deals_turn m old new hand u.2 g (case.Recv c) answer running h
effect_turn limits m (call.Close c) answer old new hand u runs calls (g, running, h) = closes_turn m old new hand u.2 c answer h
effect_turn limits m (call.Len c) answer old new hand u runs calls (g, running, h) = tells_turn m old new hand u.2 _ c answer h
effect_turn limits m (call.Cap c) answer old new hand u runs calls (g, running, h) = tells_turn m old new hand u.2 _ c answer h
effect_turn limits m (call.Procs n) answer old new hand u runs calls (g, running, h) = sets_turn m old new hand u.2 n answer h
effect_turn limits m (call.Select cases has_default until) answer old new hand u runs calls (few, (g, running, h)) = selects_turn m old new hand u.2 g cases has_default until answer running h
effect_turn limits m (call.Sleep until) answer old new hand u runs calls (g, running, (h, rest, more)) = sleeps_turn m _ _ hand g until answer running h
effect_turn limits m call.Gopark answer old new hand u runs calls (g, running, (h, rest, more)) = goparks_turn m _ _ hand g answer running h
effect_turn limits m (call.Ready k) answer old new hand u runs calls (g, running, (h, rest, more)) = wakes_turn m _ _ hand k answer u.2 h
effect_turn limits m call.Enter answer old new hand u runs calls (g, running, (is, rest, more)) = enters_turn m _ _ hand g answer running ((runs g).1 running) u.2 is
effect_turn limits m (call.Leave number) answer old new hand u runs calls (g, calling, (h, rest, more)) = resumes_turn m _ _ hand g number answer calling ((calls g).1 calling) u.1 h
effect_turn limits m call.Spin answer old new hand u runs calls (free, (h, is, rest)) = stays (ap rows is) (same_hand hand)
effect_turn limits m call.Woken answer old new hand u runs calls (h, is, rest) = stays (ap rows is) (same_hand hand)
effect_turn limits m call.Keep answer old new hand u runs calls (h, is, rest) = stays (ap rows is) (same_hand hand)
effect_turn limits m call.Unspin answer old new hand u runs calls (h, is, rest) = stays (ap rows is) (same_hand hand)
effect_turn limits m call.Poke answer old new hand u runs calls (h, is, rest) = stays (ap rows is) (same_hand hand)
effect_turn limits m call.Declare answer old new hand u runs calls (free, (h, is, rest)) = stays (ap rows is) (record { held = refl; called = refl; tickets = λ r. refl })
effect_turn limits m call.Bare answer old new hand u runs calls (h, is, rest) = stays (ap rows is) (same_hand hand)
effect_turn limits m call.Park answer old new hand u runs calls (bare, h) = parks_turn m answer old new hand h
effect_turn limits m (call.Tick moment) answer old new hand u runs calls (awake, (h, rest, more)) = ticks_turn m _ _ hand moment answer h
