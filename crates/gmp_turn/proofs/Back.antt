-- What comes back of a call, by the call and its reply: of the machine's run, apart from what it holds, and which registers are filled then.
use Rattle.std.proofs.Common.{◌≡◌, inl, inr, ℕ, Bool, true, false, is_some, Option, None, Some, refl}
use Rattle.std.specs.Option.{option_map}
use Rattle.gmp_base.specs.declared.ask.Woke.{Woke}
use Rattle.gmp_base.specs.declared.ask.Woke.TheVariants as woke
use Rattle.gmp_base.specs.declared.number.GNo.{GNo}
use Rattle.gmp_base.specs.declared.number.Readiness.{Readiness}
use Rattle.gmp_base.specs.declared.pass.Pass.{Pass}
use Rattle.gmp_base.specs.declared.value.Called.{Called}
use Rattle.gmp_base.specs.declared.value.Held.{Held}
use Rattle.gmp_base.specs.declared.value.Proc.{Proc}
use Rattle.gmp_base.specs.declared.value.Ticket.{Ticket}
use Rattle.gmp_seq.specs.declared.call.Call.{Call}
use Rattle.gmp_seq.specs.declared.call.Call.TheVariants as call
use Rattle.gmp_seq.specs.declared.call.Reply.{Reply}
use Rattle.gmp_seq.specs.declared.call.Reply.TheVariants as reply
use Rattle.gmp_base.specs.Values.{readiness_of, ticket_by}
use Rattle.gmp_seq.specs.Step.{ticket_in, woke_after}
use Rattle.gmp_book.specs.declared.values.Values.{Values}
use Rattle.gmp_book.specs.Book.{BookContents}
use Rattle.gmp_book.specs.Hands.{Hands, HandsBody, HandsOwner, way_of}
use Rattle.gmp_driver.specs.declared.act.Act.TheVariants as act
use Rattle.gmp_driver.specs.declared.registers.CalledParts.{CalledParts}
use Rattle.gmp_driver.specs.declared.registers.HeldParts.{HeldParts}
use Rattle.gmp_driver.specs.declared.registers.ProcParts.{ProcParts}
use Rattle.gmp_driver.specs.declared.registers.Registers.{Registers}
use Rattle.gmp_driver.specs.Loads.{called_of, held_of, held_parts, load_of, parts_of}
use Rattle.gmp_driver.specs.Registers.{AreFilledOnce, first_of, joined, unused, used}
use Rattle.gmp_driver.specs.Uses.{Uses}
use Rattle.gmp_turn.specs.Turns.{is_to_claim, load_back, values_in}
use Rattle.gmp_turn.proofs.Given.{some_of}
use Rattle.gmp_acts.proofs.Replies.{CanReply, Goes}
use Rattle.gmp_acts.specs.Hands.{PlainHand, called_from, hand_after, plain, plain_called, plain_held, retold, running_again}

-- Which registers are filled

pub record Filled : Type 0 where
  pub processor : Bool
  pub held : Bool
  pub called : Bool
  pub to_claim : Bool
  pub to_store : Bool

abbrev pub filled : {T Q : Type 0} → Registers T Q → Filled
filled hand = record { processor = is_some hand.processor; held = is_some hand.held; called = is_some hand.called; to_claim = is_some hand.to_claim; to_store = is_some hand.to_store }

-- what came is apart from what was left, and together they are this, in plain parts
abbrev pub Comes : {T Q : Type 0} → PlainHand → Registers T Q → Registers T Q → Type 0
Comes after left came = (plain (joined came left) ≡ after) × AreFilledOnce left came

module _ {T Q : Type 0} (behind : Pass) (back : Values T Q) where
  abbrev came : Bool → Registers T Q
  came b = parts_of (load_back behind b back)

  idle : (b : Bool) (hand : Registers T Q) → back.held ≡ None → back.called ≡ None → back.ticket ≡ None → back.proc ≡ None → Comes (plain hand) hand (came b)
  idle true hand h c t p = (rw (h, c, t, p) refl, record { processor = inr (rw p refl); held = inr (rw h refl); called = inr (rw c refl); to_claim = inr (rw t refl); to_store = inr refl })
  idle false hand h c t p = (rw (h, c, t, p) refl, record { processor = inr (rw p refl); held = inr (rw h refl); called = inr (rw c refl); to_claim = inr refl; to_store = inr (rw t refl) })

  acquired : (hand : Registers T Q) (x : Proc Q) → hand.processor ≡ None → back.held ≡ None → back.called ≡ None → back.ticket ≡ None → back.proc ≡ Some x
      → Comes (record (plain hand) { processor = Some (record { p = x.p; owner = tt }) }) hand (came false)
  acquired hand x free h c t p = (rw (h, c, t, p) refl, record { processor = inl (rw free refl); held = inr (rw h refl); called = inr (rw c refl); to_claim = inr refl; to_store = inr (rw t refl) })

  took : (hand : Registers T Q) (x : Ticket) → hand.to_claim ≡ None → back.held ≡ None → back.called ≡ None → back.ticket ≡ Some x → back.proc ≡ None
      → Comes (record (plain hand) { to_claim = Some (readiness_of x) }) hand (came true)
  took hand x free h c t p = (rw (h, c, t, p) refl, record { processor = inr (rw p refl); held = inr (rw h refl); called = inr (rw c refl); to_claim = inl (rw free refl); to_store = inr refl })

  claimed : (b : Bool) (hand : Registers T Q) (x : Held T) → hand.held ≡ None → back.held ≡ Some x → back.called ≡ None → back.ticket ≡ None → back.proc ≡ None
      → Comes (record (plain hand) { to_claim = None; held = Some (plain_held (held_parts x)) }) (record hand { to_claim = None }) (came b)
  claimed true hand x free h c t p = (rw (h, c, t, p) refl, record { processor = inr (rw p refl); held = inl (rw free refl); called = inr (rw c refl); to_claim = inl refl; to_store = inr refl })
  claimed false hand x free h c t p = (rw (h, c, t, p) refl, record { processor = inr (rw p refl); held = inl (rw free refl); called = inr (rw c refl); to_claim = inl refl; to_store = inr (rw t refl) })

  -- it goes on
  stays : (hand : Registers T Q) (run n : ℕ) (told : Woke) (o : Option Readiness) → Uses call.Gopark hand → back.ticket ≡ option_map (ticket_by n) o
      → back.held ≡ option_map (λ (h : Held T). record h { woke = told }) (option_map (held_of run) hand.held) → back.called ≡ None → back.proc ≡ None
      → Comes (record (plain hand) { held = retold told (option_map plain_held hand.held); to_store = o }) (record hand { held = None }) (came false)
  stays hand run n told None u t h c p = (let w = some_of hand.held u.0 in (rw (h, c, t, p, w.1, u.2) refl, record { processor = inr (rw p refl); held = inl refl; called = inr (rw c refl); to_claim = inr refl; to_store = inr (rw t refl) }))
  stays hand run n told (Some r) u t h c p = (let w = some_of hand.held u.0 in (rw (h, c, t, p, w.1) refl, record { processor = inr (rw p refl); held = inl refl; called = inr (rw c refl); to_claim = inr refl; to_store = inl (rw u.2 refl) }))

  -- it is back in the book
  home : (hand : Registers T Q) → back.held ≡ None → back.called ≡ None → back.ticket ≡ None → back.proc ≡ None
      → Comes (record (plain hand) { held = None }) (record hand { held = None }) (came false)
  home hand h c t p = (rw (h, c, t, p) refl, record { processor = inr (rw p refl); held = inl refl; called = inr (rw c refl); to_claim = inr refl; to_store = inr (rw t refl) })

  entered : (hand : Registers T Q) (run : ℕ) → Uses call.Enter hand → back.held ≡ None
      → back.called ≡ option_map (λ (h : Held T). let c : Called T = record { run = h.run; g = h.g; body = h.body } in c) (option_map (held_of run) hand.held)
      → back.ticket ≡ None → back.proc ≡ None
      → Comes (record (plain hand) { processor = None; held = None; called = called_from (option_map plain_held hand.held) }) (record hand { processor = None; held = None }) (came false)
  entered hand run u h c t p = (let w = some_of hand.held u.0 in (rw (h, c, t, p, w.1) refl, record { processor = inl refl; held = inl refl; called = inl (rw u.2 refl); to_claim = inr refl; to_store = inr (rw t refl) }))

  returned : (hand : Registers T Q) (run number : ℕ) (x : Proc Q) → Uses (call.Leave 0) hand
      → back.held ≡ option_map (λ (c : Called T). let h : Held T = record { run = c.run; g = c.g; woke = woke.Number number; body = c.body } in h) (option_map (called_of run) hand.called)
      → back.called ≡ None → back.ticket ≡ None → back.proc ≡ Some x
      → Comes (record (plain hand) { processor = Some (record { p = x.p; owner = tt }); held = running_again number (option_map plain_called hand.called); called = None }) (record hand { called = None }) (came false)
  returned hand run number x u h c t p = (let w = some_of hand.called u.0 in (rw (h, c, t, p, w.1) refl, record { processor = inl (rw u.2 refl); held = inl (rw u.1 refl); called = inl refl; to_claim = inr refl; to_store = inr (rw t refl) }))

  left : (hand : Registers T Q) → back.held ≡ None → back.called ≡ None → back.ticket ≡ None → back.proc ≡ None
      → Comes (record (plain hand) { called = None }) (record hand { called = None }) (came false)
  left hand h c t p = (rw (h, c, t, p) refl, record { processor = inr (rw p refl); held = inr (rw h refl); called = inl refl; to_claim = inr refl; to_store = inr (rw t refl) })

  declared : (hand : Registers T Q) → back.held ≡ None → back.called ≡ None → back.ticket ≡ None → back.proc ≡ None
      → Comes (record (plain hand) { processor = None }) (record hand { processor = None }) (came false)
  declared hand h c t p = (rw (h, c, t, p) refl, record { processor = inl refl; held = inr (rw h refl); called = inr (rw c refl); to_claim = inr refl; to_store = inr (rw t refl) })

module _ {T Q : Type 0} (run : ℕ) (pass behind : Pass) (back : Values T Q) (old now : BookContents T Q) where
  abbrev Backs : Call → Reply → Registers T Q → Type 0
  Backs c answer hand = Comes (hand_after old.log.state.table c answer (plain hand)) (unused (act.Call c) hand) (parts_of (load_back behind (is_to_claim c (load_of run pass (used (act.Call c) hand))) back))

  abbrev By : Call → Reply → Registers T Q → Type 0
  By c answer hand = Hands c answer (values_in (load_of run pass (used (act.Call c) hand))) back old now

  puts : (p : Option (ProcParts Q)) (h : Option (HeldParts T)) (c : Option (CalledParts T)) (t s : Option Readiness) (r : Readiness) → first_of s t ≡ Some r
      → By (call.Put r) reply.Shelf (record { processor = p; held = h; called = c; to_claim = t; to_store = s })
      → Backs (call.Put r) reply.Shelf (record { processor = p; held = h; called = c; to_claim = t; to_store = s })
  puts p h c t (Some x) r e k = idle behind back false (record { processor = p; held = h; called = c; to_claim = t; to_store = None }) k.body.0 k.body.1 k.ticket k.owner.0
  puts p h c (Some x) None r e k = idle behind back true (record { processor = p; held = h; called = c; to_claim = None; to_store = None }) k.body.0 k.body.1 k.ticket k.owner.0
  puts p h c None None r e k = absurd cc

  -- Park stands for each call of the goroutine that runs
  asks : (answer : Reply) (hand : Registers T Q) (n : ℕ) (g : GNo) → Uses call.Gopark hand → Goes answer → back.ticket ≡ option_map (ticket_by n) (ticket_in answer)
      → HandsBody (way_of answer) n g (woke_after answer) (option_map (held_of run) hand.held) None back.held back.called old.bodies now.bodies → HandsOwner answer n None back.proc old.owners now.owners
      → Backs call.Gopark answer hand
  asks (reply.Ticket r) hand n g u can t h p = stays behind back hand run n (woke_after (reply.Ticket r)) (Some r) u t h.0 h.1 p.0
  asks (reply.Channel c) hand n g u can t h p = stays behind back hand run n (woke_after (reply.Channel c)) None u t h.0 h.1 p.0
  asks (reply.Sent to) hand n g u can t h p = stays behind back hand run n (woke_after (reply.Sent to)) to u t h.0 h.1 p.0
  asks (reply.Got v sent from) hand n g u can t h p = stays behind back hand run n (woke_after (reply.Got v sent from)) (ticket_in (reply.Got v sent from)) u t h.0 h.1 p.0
  asks reply.Waits hand n g u can t h p = home behind back hand h.0 h.1 t p.0
  asks (reply.Closed count) hand n g u can t h p = stays behind back hand run n (woke_after (reply.Closed count)) None u t h.0 h.1 p.0
  asks (reply.Number count) hand n g u can t h p = stays behind back hand run n (woke_after (reply.Number count)) None u t h.0 h.1 p.0
  asks (reply.Chose i how) hand n g u can t h p = stays behind back hand run n (woke_after (reply.Chose i how)) (ticket_in (reply.Chose i how)) u t h.0 h.1 p.0
  asks reply.Default hand n g u can t h p = stays behind back hand run n (woke_after reply.Default) None u t h.0 h.1 p.0
  asks (reply.Fault f) hand n g u can t h p = stays behind back hand run n (woke_after (reply.Fault f)) None u t h.0 h.1 p.0
  asks _ hand n g u can t h p = absurd can

  pub backs : (c : Call) (answer : Reply) (hand : Registers T Q) → Uses c hand → CanReply c answer → By c answer hand → Backs c answer hand
  backs call.Acquire (reply.Proc p) hand u can k = acquired behind back hand _ u k.body.0 k.body.1 k.ticket k.owner.1
  backs call.Acquire reply.Nothing hand u can k = idle behind back false hand k.body.0 k.body.1 k.ticket k.owner.0
  backs call.Acquire _ hand u can k = absurd can
  backs call.Take (reply.Ticket r) hand u can k = took behind back hand _ u k.body.0 k.body.1 k.ticket k.owner.0
  backs call.Take reply.Nothing hand u can k = idle behind back true hand k.body.0 k.body.1 k.ticket k.owner.0
  backs call.Take _ hand u can k = absurd can
  backs (call.Put r) reply.Shelf hand u can k = puts hand.processor hand.held hand.called hand.to_claim hand.to_store r u k
  backs (call.Put r) _ hand u can k = absurd can
  backs (call.Claim r) reply.Held hand u can k = claimed behind back _ hand _ u.1 k.body.1 k.body.2 k.ticket k.owner.0
  backs (call.Claim r) _ hand u can k = absurd can
  backs call.Yield (reply.Shelved r) hand u can k = home behind back hand k.body.0 k.body.1 k.ticket k.owner.0
  backs call.Yield _ hand u can k = absurd can
  backs call.Exit reply.Dead hand u can k = home behind back hand k.body.0 k.body.1 k.ticket k.owner.0
  backs call.Exit reply.MainEnded hand u can k = home behind back hand k.body.0 k.body.1 k.ticket k.owner.0
  backs call.Exit _ hand u can k = absurd can
  backs call.Enter (reply.Entered p n) hand u can k = entered behind back hand run u k.body.0 k.body.1 k.ticket k.owner.0
  backs call.Enter _ hand u can k = absurd can
  backs (call.Leave number) (reply.Runs p) hand u can k = returned behind back hand run number _ u k.body.0 k.body.1 k.ticket k.owner.1
  backs (call.Leave number) (reply.Shelved r) hand u can k = left behind back hand k.body.0 k.body.1 k.ticket k.owner.0
  backs (call.Leave number) _ hand u can k = absurd can
  backs call.Spin (reply.Answer b) hand u can k = idle behind back false hand k.body.0 k.body.1 k.ticket k.owner.0
  backs call.Spin _ hand u can k = absurd can
  backs call.Woken (reply.Answer b) hand u can k = idle behind back false hand k.body.0 k.body.1 k.ticket k.owner.0
  backs call.Woken _ hand u can k = absurd can
  backs call.Keep (reply.Answer b) hand u can k = idle behind back false hand k.body.0 k.body.1 k.ticket k.owner.0
  backs call.Keep _ hand u can k = absurd can
  backs call.Unspin reply.Done hand u can k = idle behind back false hand k.body.0 k.body.1 k.ticket k.owner.0
  backs call.Unspin _ hand u can k = absurd can
  backs call.Poke (reply.Wakes n) hand u can k = idle behind back false hand k.body.0 k.body.1 k.ticket k.owner.0
  backs call.Poke reply.Nothing hand u can k = idle behind back false hand k.body.0 k.body.1 k.ticket k.owner.0
  backs call.Poke _ hand u can k = absurd can
  backs call.Declare (reply.Idle p) hand u can k = declared behind back hand k.body.0 k.body.1 k.ticket k.owner.0
  backs call.Declare _ hand u can k = absurd can
  backs call.Bare reply.Done hand u can k = idle behind back false hand k.body.0 k.body.1 k.ticket k.owner.0
  backs call.Bare _ hand u can k = absurd can
  backs call.Park reply.Parked hand u can k = idle behind back false hand k.body.0 k.body.1 k.ticket k.owner.0
  backs call.Park reply.Work hand u can k = idle behind back false hand k.body.0 k.body.1 k.ticket k.owner.0
  backs call.Park reply.LookAgain hand u can k = idle behind back false hand k.body.0 k.body.1 k.ticket k.owner.0
  backs call.Park (reply.Mind until) hand u can k = idle behind back false hand k.body.0 k.body.1 k.ticket k.owner.0
  backs call.Park reply.AllAsleep hand u can k = idle behind back false hand k.body.0 k.body.1 k.ticket k.owner.0
  backs call.Park _ hand u can k = absurd can
  backs (call.Tick moment) (reply.Woke n) hand u can k = idle behind back false hand k.body.0 k.body.1 k.ticket k.owner.0
  backs (call.Tick moment) _ hand u can k = absurd can
  -- each other call hands in a goroutine that runs
  backs _ answer hand u can k = asks answer hand _ _ u can k.ticket k.body k.owner
