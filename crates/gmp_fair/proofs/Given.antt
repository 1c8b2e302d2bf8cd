-- Tickets that a call gives out are new, and no other comes into a hand by a call but one that is taken from the shelf.
use Rattle.std.proofs.Common.{◌≡◌, ◌⊎◌, inl, inr, ℕ, ◌+◌, ◌≤◌, ◌==◌, ◌&&◌, Bool, true, false, if◌then◌else◌, refl, sym, ap, subst, ◌∙◌, arith, Option, None, Some, List}
use Rattle.std.proofs.lemmas.Bool.{cases_lt, eqb-true}
use Rattle.std.specs.List.{slice_get}
use Rattle.std.specs.Option.{option_map_or}
use Rattle.gmp_base.specs.declared.ask.Fault.TheVariants as fault
use Rattle.gmp_base.specs.declared.cases.Case.{Case}
use Rattle.gmp_base.specs.declared.cases.Case.TheVariants as case
use Rattle.gmp_base.specs.declared.number.CNo.{CNo}
use Rattle.gmp_base.specs.declared.number.GNo.{GNo}
use Rattle.gmp_base.specs.declared.number.MNo.{MNo}
use Rattle.gmp_base.specs.declared.number.Readiness.{Readiness}
use Rattle.gmp_seq.specs.declared.call.Call.{Call}
use Rattle.gmp_seq.specs.declared.call.Call.TheVariants as call
use Rattle.gmp_seq.specs.declared.call.Limits.{Limits}
use Rattle.gmp_seq.specs.declared.call.Reply.{Reply}
use Rattle.gmp_seq.specs.declared.call.Reply.TheVariants as reply
use Rattle.gmp_seq.specs.declared.call.Taken.{Taken}
use Rattle.gmp_seq.specs.declared.status.Goroutine.{Goroutine}
use Rattle.gmp_seq.specs.declared.status.Status.TheVariants as status
use Rattle.gmp_seq.specs.declared.status.Transfer.{Transfer}
use Rattle.gmp_seq.specs.declared.status.Transfer.TheVariants as transfer
use Rattle.gmp_seq.specs.Laws.{is_ready}
use Rattle.gmp_seq.specs.Machines.{Machines, Sets}
use Rattle.gmp_seq.specs.State.{State}
use Rattle.gmp_seq.specs.Step as Step
use Rattle.gmp_seq.specs.Step.{ticket_in, ticket_of}
use Rattle.gmp_seq.specs.Table.{Table, epoch_at, is_shelved, next_of}
use Rattle.gmp_seq.specs.Waits.{Channel}
use Rattle.gmp_seq.proofs.Epochs.{slice_get-set_same}
use Rattle.gmp_driver.specs.Registers.{but, put_value}
use Rattle.gmp_acts.specs.Hands.{PlainHand, hand_after, left_by}
use Rattle.gmp_acts.specs.System.{in_hand, is_same, is_ticket, on_shelf, readied}
use Rattle.gmp_fair.proofs.Where.{same_ticket, split_and}

-- the ticket is of the next epoch of its goroutine
abbrev pub IsNew : Table → Readiness → Type 0
IsNew t r = r.epoch ≡ epoch_at t r.g + 1

new_one : (old : Table) (h : GNo) (r t : Readiness) → r ≡ next_of old h → Some r ≡ Some t → IsNew old t
new_one old h r t next e = (let same : t ≡ next_of old h = (let it : t ≡ r = cc in it ∙ next) in subst (IsNew old) (sym same) refl)

not_some : (t : Readiness) → None ≡ Some t → ⊥
not_some t e = cc

starts_new : (h : GNo) (answer : Reply) (old new : Table) (t : Readiness) → Step.Starts h answer old new → ticket_in answer ≡ Some t → IsNew old t
starts_new h (reply.Ticket r) old new t (dormant, next, is) e = new_one old h r t next e
starts_new h (reply.Fault fault.NoSuchBody) old new t k e = absurd (not_some t e)
starts_new h (reply.Fault fault.AlreadyStarted) old new t k e = absurd (not_some t e)
starts_new h _ old new t k e = absurd k

spawns_new : (answer : Reply) (old new : Table) (t : Readiness) → Step.Spawns answer old new → ticket_in answer ≡ Some t → IsNew old t
spawns_new (reply.Ticket r) old new t (startable, next, is) e = new_one old r.g r t next e
spawns_new (reply.Fault fault.NoSuchBody) old new t k e = absurd (not_some t e)
spawns_new _ old new t k e = absurd k

readies_new : (h : GNo) (answer : Reply) (old new : Table) (t : Readiness) → Step.Readies h answer old new → ticket_in answer ≡ Some t → IsNew old t
readies_new h (reply.Ticket r) old new t (parked, next, is) e = new_one old h r t next e
readies_new h (reply.Fault fault.NoSuchBody) old new t k e = absurd (not_some t e)
readies_new h (reply.Fault fault.NotParked) old new t k e = absurd (not_some t e)
readies_new h _ old new t k e = absurd k

communicates_new : (c : Case) (told : Taken) (old new : State) (t : Readiness) → Step.Communicates c told old new → ticket_of told ≡ Some t → IsNew old.table t
communicates_new c told old new t (how, proceeds, is, rest, more) e = by how (sym (ap ticket_of is) ∙ e) where
  by : (how : Transfer) → ticket_of (Step.told_of old.table how) ≡ Some t → IsNew old.table t
  by transfer.Failed f = absurd (not_some t f)
  by (transfer.Handed w) f = new_one old.table w.g (next_of old.table w.g) t refl f
  by transfer.Stored f = absurd (not_some t f)
  by (transfer.First v) f = absurd (not_some t f)
  by (transfer.Relayed v w) f = new_one old.table w.g (next_of old.table w.g) t refl f
  by transfer.Drained f = absurd (not_some t f)

deals_new : (g : GNo) (c : Case) (answer : Reply) (old new : State) (t : Readiness) → Step.Deals g c answer old new → ticket_in answer ≡ Some t → IsNew old.table t
deals_new g c (reply.Sent to) old new t (made, how) e = communicates_new c _ old new t how e
deals_new g c (reply.Got v sent from) old new t (made, how) e = communicates_new c _ old new t how e
deals_new g c (reply.Fault fault.SendOnClosed) old new t k e = absurd (not_some t e)
deals_new g c reply.Waits old new t k e = absurd (not_some t e)
deals_new g c (reply.Fault fault.NoSuchChannel) old new t k e = absurd (not_some t e)
deals_new g c _ old new t k e = absurd k

-- answers that give out no ticket
abbrev NoTicket : Reply → Type 0
NoTicket answer = (t : Readiness) → ticket_in answer ≡ Some t → ⊥

makes_none : (limits : Limits) (capacity : ℕ) (answer : Reply) (old new : List Channel) → Step.Makes limits capacity answer old new → NoTicket answer
makes_none limits capacity (reply.Channel c) old new k t e = not_some t e
makes_none limits capacity (reply.Fault f) old new k t e = not_some t e
makes_none limits capacity _ old new k t e = k

tells_none : (number : CNo → ℕ) (c : Option CNo) (answer : Reply) (old new : List Channel) → Step.Tells number c answer old new → NoTicket answer
tells_none number c (reply.Number n) old new k t e = not_some t e
tells_none number c (reply.Fault f) old new k t e = not_some t e
tells_none number c _ old new k t e = k

sets_none : (n : ℕ) (answer : Reply) (old new : Machines) → Sets n answer old new → NoTicket answer
sets_none n (reply.Number before) old new k t e = not_some t e
sets_none n (reply.Fault f) old new k t e = not_some t e
sets_none n _ old new k t e = k

sleeps_none : (g : GNo) (until : ℕ) (answer : Reply) (old new : Table) → Step.Sleeps g until answer old new → NoTicket answer
sleeps_none g until reply.Waits old new k t e = not_some t e
sleeps_none g until _ old new k t e = k

goparks_none : (g : GNo) (answer : Reply) (old new : Table) → Step.Goparks g answer old new → NoTicket answer
goparks_none g reply.Waits old new k t e = not_some t e
goparks_none g _ old new k t e = k

closes_none : (c : Option CNo) (answer : Reply) (old new : State) → Step.Closes c answer old new → NoTicket answer
closes_none (Some c) (reply.Closed n) old new k t e = not_some t e
closes_none (Some c) (reply.Fault f) old new k t e = not_some t e
closes_none None (reply.Fault f) old new k t e = not_some t e
closes_none (Some c) _ old new k t e = k
closes_none None _ old new k t e = k

selects_new : (g : GNo) (cases : List Case) (has_default : Bool) (until : Option ℕ) (answer : Reply) (old new : State) (t : Readiness) → Step.Selects g cases has_default until answer old new
    → ticket_in answer ≡ Some t → IsNew old.table t
selects_new g cases has_default until (reply.Chose i told) old new t (made, c, at, how) e = communicates_new c told old new t how e
selects_new g cases has_default until reply.Default old new t k e = absurd (not_some t e)
selects_new g cases has_default until reply.Waits old new t k e = absurd (not_some t e)
selects_new g cases has_default until (reply.Fault f) old new t k e = absurd (not_some t e)
selects_new g cases has_default until _ old new t k e = absurd k

module _ (r : Readiness) where
  pub ticket_is : (o : Option Readiness) → 1 ≤ is_ticket r o → o ≡ Some r
  ticket_is None h = absurd (omega arith)
  ticket_is (Some t) h = by (is_same r t) refl where
    by : (b : Bool) → is_same r t ≡ b → Some t ≡ Some r
    by true e = ap Some (same_ticket r t e)
    by false e = absurd (let none : is_ticket r (Some t) ≡ 0 = ap (λ (b : Bool). if b then 1 else 0) e in omega (arith, none, h))

  put_count : (o : Option Readiness) (hand : PlainHand) → in_hand r (but (put_value o) hand) ≤ in_hand r hand
  put_count None hand = omega arith
  put_count (Some s) hand = omega arith

  -- whoever asked goes on with the ticket that came
  left_gain : (answer : Reply) (hand : PlainHand) → 1 ≤ in_hand r (left_by answer hand) → (1 ≤ in_hand r hand) ⊎ (ticket_in answer ≡ Some r)
  left_gain reply.Waits hand h = inl h
  left_gain answer hand h = elim (cases_lt (is_ticket r hand.to_claim) 1) [
    | inl none ↦ inr (ticket_is (ticket_in answer) (omega (arith, h, none)))
    | inr some ↦ inl (omega (arith, some))
  ]

  -- where a call left a ticket in hand, it was there, or was taken from the shelf, or is new
  abbrev pub Gained : Call → Table → PlainHand → Type 0
  Gained c t hand = (1 ≤ in_hand r hand) ⊎ ((c ≡ call.Take) ⊎ IsNew t r)

  asked_gain : (c : Call) (answer : Reply) (t : Table) (hand : PlainHand) → (ticket_in answer ≡ Some r → IsNew t r) → 1 ≤ in_hand r (left_by answer hand) → Gained c t hand
  asked_gain c answer t hand new h = elim (left_gain answer hand h) [ inl had ↦ inl had | inr came ↦ inr (inr (new came)) ]

  pub gained : (limits : Limits) (m : MNo) (c : Call) (answer : Reply) (old new : State) (hand : PlainHand) → Step.Effect limits m c answer old new → 1 ≤ in_hand r (hand_after old.table c answer hand) → Gained c old.table hand
  gained limits m call.Acquire (reply.Proc p) old new hand e h = inl h
  gained limits m call.Acquire _ old new hand e h = inl h
  gained limits m call.Take answer old new hand e h = inr (inl refl)
  gained limits m (call.Put t) answer old new hand e h = inl (let c = put_count hand.to_store hand in omega (arith, c, h))
  gained limits m (call.Claim t) answer old new hand e h = inl (omega (arith, h))
  gained limits m (call.Go k) answer old new hand (g, running, (h', rest, more)) h = asked_gain (call.Go k) answer old.table hand (λ e. starts_new k answer old.table new.table r h' e) h
  gained limits m call.Spawn answer old new hand (g, running, (h', rest, more)) h = asked_gain call.Spawn answer old.table hand (λ e. spawns_new answer old.table new.table r h' e) h
  gained limits m call.Yield answer old new hand e h = inl h
  gained limits m call.Exit answer old new hand e h = inl h
  gained limits m (call.Make capacity) answer old new hand (g, running, (h', rest, more)) h = asked_gain (call.Make capacity) answer old.table hand (λ e. absurd (makes_none limits capacity answer old.channels new.channels h' r e)) h
  gained limits m (call.Send c v) answer old new hand (g, running, h') h = asked_gain (call.Send c v) answer old.table hand (λ e. deals_new g (case.Send c v) answer old new r h' e) h
  gained limits m (call.Recv c) answer old new hand (g, running, h') h = asked_gain (call.Recv c) answer old.table hand (λ e. deals_new g (case.Recv c) answer old new r h' e) h
  gained limits m (call.Close c) answer old new hand (g, running, h') h = asked_gain (call.Close c) answer old.table hand (λ e. absurd (closes_none c answer old new h' r e)) h
  gained limits m (call.Len c) answer old new hand (g, running, (h', rest, more)) h = asked_gain (call.Len c) answer old.table hand (λ e. absurd (tells_none _ c answer old.channels new.channels h' r e)) h
  gained limits m (call.Cap c) answer old new hand (g, running, (h', rest, more)) h = asked_gain (call.Cap c) answer old.table hand (λ e. absurd (tells_none _ c answer old.channels new.channels h' r e)) h
  gained limits m (call.Procs n) answer old new hand (g, running, (h', rest, more)) h = asked_gain (call.Procs n) answer old.table hand (λ e. absurd (sets_none n answer old.machines new.machines h' r e)) h
  gained limits m (call.Select cases has_default until) answer old new hand (few, (g, running, h')) h =
      asked_gain (call.Select cases has_default until) answer old.table hand (λ e. selects_new g cases has_default until answer old new r h' e) h
  gained limits m (call.Sleep until) answer old new hand (g, running, (h', rest, more)) h = asked_gain (call.Sleep until) answer old.table hand (λ e. absurd (sleeps_none g until answer old.table new.table h' r e)) h
  gained limits m call.Gopark answer old new hand (g, running, (h', rest, more)) h = asked_gain call.Gopark answer old.table hand (λ e. absurd (goparks_none g answer old.table new.table h' r e)) h
  gained limits m (call.Ready k) answer old new hand (g, running, (h', rest, more)) h = asked_gain (call.Ready k) answer old.table hand (λ e. readies_new k answer old.table new.table r h' e) h
  gained limits m call.Enter answer old new hand e h = inl h
  gained limits m (call.Leave number) (reply.Runs p) old new hand e h = inl h
  gained limits m (call.Leave number) _ old new hand e h = inl h
  gained limits m call.Spin answer old new hand e h = inl h
  gained limits m call.Woken answer old new hand e h = inl h
  gained limits m call.Keep answer old new hand e h = inl h
  gained limits m call.Unspin answer old new hand e h = inl h
  gained limits m call.Poke answer old new hand e h = inl h
  gained limits m call.Declare answer old new hand e h = inl h
  gained limits m call.Bare answer old new hand e h = inl h
  gained limits m call.Park answer old new hand e h = inl h
  gained limits m (call.Tick moment) answer old new hand e h = inl h

  -- Tables

  -- a ticket on the shelf is not new
  pub shelved_is_old : (t : Table) → on_shelf r t ≡ 1 → IsNew t r → ⊥
  shelved_is_old t on new = by (slice_get t.goroutines r.g.0) refl where
    by : (o : Option Goroutine) → slice_get t.goroutines r.g.0 ≡ o → ⊥
    by None at = (let none : on_shelf r t ≡ 0 = ap (λ (o : Option Goroutine). if option_map_or (λ (x : Goroutine). is_shelved x.status && (x.epoch == r.epoch)) o false then 1 else 0) at in omega (arith, none, on))
    by (Some x) at = by_test (is_shelved x.status && (x.epoch == r.epoch)) refl where
      by_test : (b : Bool) → (is_shelved x.status && (x.epoch == r.epoch)) ≡ b → ⊥
      by_test true e =
          let epoch : x.epoch ≡ r.epoch = eqb-true x.epoch r.epoch (split_and (is_shelved x.status) (x.epoch == r.epoch) e).1 in
          let here : epoch_at t r.g ≡ x.epoch = ap (λ (o : Option Goroutine). option_map_or (λ (y : Goroutine). y.epoch) o 0) at in
          omega (arith, epoch, here, new)
      by_test false e = (
          let none : on_shelf r t ≡ 0 = ap (λ (o : Option Goroutine). if option_map_or (λ (y : Goroutine). is_shelved y.status && (y.epoch == r.epoch)) o false then 1 else 0) at ∙ ap (λ (b : Bool). if b then 1 else 0) e in
          omega (arith, none, on))

  -- a ticket that was claimed is none of a ready goroutine
  pub claimed_is_spent : (m : MNo) (answer : Reply) (old new : Table) → Step.Claims m r answer old new → readied r new ≡ 0
  claimed_is_spent m reply.Held old new (a, ready, is) =
      let row : slice_get new.goroutines r.g.0 ≡ Some (record { status = status.Running m; epoch = epoch_at old r.g }) =
      ap (λ (t : Table). slice_get t.goroutines r.g.0) is ∙ slice_get-set_same old.goroutines r.g.0 _ _ ready in
      ap (λ (o : Option Goroutine). if option_map_or (λ (x : Goroutine). is_ready x.status && (x.epoch == r.epoch)) o false then 1 else 0) row
  claimed_is_spent m _ old new h = absurd h
