-- Where bodies and owners go between the registers of a machine and their places.
use Rattle.std.proofs.Common.{◌≡◌, ℕ, Bool, true, false, Option, None, Some, List, slice_get, slice_set, refl, sym, ◌∙◌, ◌⊎◌, inl, inr}
use Rattle.std.specs.Prelude.{IsNone, IsSome}
use Rattle.std.specs.Option.{option_map}
use Rattle.std.proofs.lemmas.Bool.{false≢true}
use Rattle.gmp_base.specs.declared.ask.Woke.{Woke}
use Rattle.gmp_base.specs.declared.number.GNo.{GNo}
use Rattle.gmp_base.specs.declared.number.MNo.{MNo}
use Rattle.gmp_base.specs.declared.number.PNo.{PNo}
use Rattle.gmp_base.specs.declared.value.Called.{Called}
use Rattle.gmp_base.specs.declared.value.Held.{Held}
use Rattle.gmp_base.specs.declared.number.Readiness.{Readiness}
use Rattle.gmp_base.specs.declared.value.Proc.{Proc}
use Rattle.gmp_base.specs.declared.value.Ticket.{Ticket}
use Rattle.gmp_base.specs.Values.{readiness_of, ticket_by}
use Rattle.gmp_journal.specs.declared.handed.Handed.{Handed}
use Rattle.gmp_journal.specs.Grants.{Suits}
use Rattle.gmp_journal.specs.Handed.{ticket_handed}
use Rattle.gmp_book.specs.declared.values.Values.{Values}
use Rattle.gmp_book.specs.Hands.{handed_of}
use Rattle.gmp_seq.specs.declared.call.Call.{Call}
use Rattle.gmp_seq.specs.declared.call.Call.TheVariants as call
use Rattle.gmp_seq.specs.declared.call.Reply.{Reply}
use Rattle.gmp_seq.specs.declared.call.Reply.TheVariants as reply
use Rattle.gmp_driver.specs.declared.registers.CalledParts.{CalledParts}
use Rattle.gmp_driver.specs.declared.registers.HeldParts.{HeldParts}
use Rattle.gmp_driver.specs.declared.registers.ProcParts.{ProcParts}
use Rattle.gmp_driver.specs.declared.registers.Registers.{Registers}
use Rattle.gmp_driver.specs.Loads.{called_parts, held_parts, proc_parts}
use Rattle.gmp_driver.specs.Registers.{first_of}
use Rattle.gmp_driver.specs.Uses.{Uses}
use Rattle.gmp_book.specs.declared.values.Way.TheVariants as way
use Rattle.gmp_book.specs.InHand.{ComesOut, SettlesBody, SettlesOwner, back_in, called_by, come_out_of_call, given_by, gone_into_call, hand_after, held_by, proc_by, retold, to_claim_after, to_store_after}
use Rattle.gmp_book.specs.Kinds.{hands_called, hands_held, hands_proc}

free : {X : Type 0} (b : Bool) (o : Option X) → IsNone o → o ≡ back_in b None o
free true None e = refl
free true (Some x) e = absurd (false≢true (sym e))
free false o e = refl

-- Bodies

module _ {T : Type 0} (run : ℕ) (g : GNo) (told : Woke) where
  held_same : (b : Bool) (held : Option (HeldParts T)) → held ≡ back_in b (option_map held_parts (held_by run b held)) held
  held_same true None = refl
  held_same true (Some h) = refl
  held_same false held = refl

  called_same : (b : Bool) (called : Option (CalledParts T)) → called ≡ back_in b (option_map called_parts (called_by run b called)) called
  called_same true None = refl
  called_same true (Some c) = refl
  called_same false called = refl

  retold_is : (held : Option (HeldParts T)) → retold told held ≡ back_in true (option_map held_parts (option_map (λ (h : Held T). record h { woke = told }) (held_by run true held))) held
  retold_is None = refl
  retold_is (Some h) = refl

  pub stays : (c : Bool) (held held' : Option (HeldParts T)) (called : Option (CalledParts T)) (bodies : List (Option T)) → held' ≡ retold told held
      → SettlesBody way.Stays run g told true c held called bodies held' called bodies
  stays c held held' called bodies e = record {
    held_back = option_map (λ (h : Held T). record h { woke = told }) (held_by run true held);
    called_back = called_by run c called;
    hands = (refl, refl, refl);
    held_is = e ∙ retold_is held;
    called_is = called_same c called;
  }

  pub stays_away : (c : Bool) (held : Option (HeldParts T)) (called : Option (CalledParts T)) (bodies : List (Option T)) → SettlesBody way.Stays run g told false c held called bodies held called bodies
  stays_away c held called bodies = record { held_back = None; called_back = called_by run c called; hands = (refl, refl, refl); held_is = refl; called_is = called_same c called }

  some_back : (b : Bool) (h : HeldParts T) (held : Option (HeldParts T)) → Some h ≡ back_in b (Some h) held
  some_back true h held = refl
  some_back false h held = refl

  pub comes_out : (b c : Bool) (held held' : Option (HeldParts T)) (called : Option (CalledParts T)) (bodies bodies' : List (Option T)) (body : T) → slice_get bodies g.0 ≡ Some (Some body)
      → bodies' ≡ slice_set bodies g.0 None → held' ≡ Some (record { g = g; woke = told; body = body }) → SettlesBody way.OutOfPlace run g told b c held called bodies held' called bodies'
  comes_out b c held held' called bodies bodies' body at is e = record {
    held_back = Some (record { run = run; g = g; woke = told; body = body });
    called_back = called_by run c called;
    hands = (body, refl, refl, at, is);
    held_is = e ∙ some_back b (record { g = g; woke = told; body = body }) held;
    called_is = called_same c called;
  }

  abbrev called_of_held : Option (Held T) → Option (Called T)
  called_of_held held = option_map (λ (h : Held T). let c : Called T = record { run = h.run; g = h.g; body = h.body } in c) held

  goes_in : (c : Bool) (held : Option (HeldParts T)) (called : Option (CalledParts T)) → IsNone called → gone_into_call held ≡ back_in c (option_map called_parts (called_of_held (held_by run true held))) called
  goes_in true None called e = refl
  goes_in true (Some h) called e = refl
  goes_in false None None e = refl
  goes_in false None (Some x) e = absurd (false≢true (sym e))
  goes_in false (Some h) called e = refl

  pub into_call : (c : Bool) (held held' : Option (HeldParts T)) (called called' : Option (CalledParts T)) (bodies : List (Option T)) → IsNone called → held' ≡ None → called' ≡ gone_into_call held
      → SettlesBody way.IntoCall run g told true c held called bodies held' called' bodies
  into_call c held held' called called' bodies empty e is = record {
    held_back = None;
    called_back = called_of_held (held_by run true held);
    hands = (refl, refl, refl);
    held_is = e;
    called_is = is ∙ goes_in c held called empty;
  }

  abbrev held_of_called : Option (Called T) → Option (Held T)
  held_of_called called = option_map (λ (c : Called T). let h : Held T = record { run = c.run; g = c.g; woke = told; body = c.body } in h) called

  goes_on : (b : Bool) (held : Option (HeldParts T)) (called : Option (CalledParts T)) → IsNone held → come_out_of_call told called ≡ back_in b (option_map held_parts (held_of_called (called_by run true called))) held
  goes_on true held None e = refl
  goes_on true held (Some c) e = refl
  goes_on false None None e = refl
  goes_on false (Some x) None e = absurd (false≢true (sym e))
  goes_on false held (Some c) e = refl

  pub out_of_call : (b : Bool) (held held' : Option (HeldParts T)) (called called' : Option (CalledParts T)) (bodies : List (Option T)) → IsNone held → called' ≡ None → held' ≡ come_out_of_call told called
      → SettlesBody way.OutOfCall run g told b true held called bodies held' called' bodies
  out_of_call b held held' called called' bodies empty e is = record {
    held_back = held_of_called (called_by run true called);
    called_back = None;
    hands = (refl, refl, refl);
    held_is = is ∙ goes_on b held called empty;
    called_is = e;
  }

-- Owners

module _ {Q : Type 0} (run : ℕ) where
  proc_some : (b : Bool) (x : ProcParts Q) (o : Option (ProcParts Q)) → Some x ≡ back_in b (Some x) o
  proc_some true x o = refl
  proc_some false x o = refl

  owner_proc : (b : Bool) (p : PNo) (x x' : Option (ProcParts Q)) (owners owners' : List (Option Q)) → ComesOut p owners x' owners' → SettlesOwner (reply.Proc p) run b x owners x' owners'
  owner_proc b p x x' owners owners' (owner, e, at, is) = record {
    back = Some (record { run = run; p = p; owner = owner });
    hands = (owner, refl, at, is);
    processor_is = e ∙ proc_some b (record { p = p; owner = owner }) x;
  }

  owner_runs : (b : Bool) (p : PNo) (x x' : Option (ProcParts Q)) (owners owners' : List (Option Q)) → ComesOut p owners x' owners' → SettlesOwner (reply.Runs p) run b x owners x' owners'
  owner_runs b p x x' owners owners' (owner, e, at, is) = record {
    back = Some (record { run = run; p = p; owner = owner });
    hands = (owner, refl, at, is);
    processor_is = e ∙ proc_some b (record { p = p; owner = owner }) x;
  }

  pub owner_out : (answer : Reply) (b : Bool) (p : PNo) (x x' : Option (ProcParts Q)) (owners owners' : List (Option Q)) → (answer ≡ reply.Proc p) ⊎ (answer ≡ reply.Runs p) → ComesOut p owners x' owners'
      → SettlesOwner answer run b x owners x' owners'
  owner_out answer b p x x' owners owners' (inl is) out = rw is (owner_proc b p x x' owners owners' out)
  owner_out answer b p x x' owners owners' (inr is) out = rw is (owner_runs b p x x' owners owners' out)

  proc_same : (b : Bool) (x : Option (ProcParts Q)) → x ≡ back_in b (option_map proc_parts (proc_by run b x)) x
  proc_same true None = refl
  proc_same true (Some x) = refl
  proc_same false x = refl

  pub owner_stays : (answer : Reply) (b : Bool) (x : Option (ProcParts Q)) (owners : List (Option Q)) → ((p : PNo) → answer ≡ reply.Proc p → ⊥) → ((p : PNo) → answer ≡ reply.Runs p → ⊥)
      → ((p : PNo) (n : Option MNo) → answer ≡ reply.Entered p n → ⊥) → ((p : PNo) → answer ≡ reply.Idle p → ⊥) → SettlesOwner answer run b x owners x owners
  owner_stays (reply.Proc p) b x owners proc runs entered idle = absurd (proc p refl)
  owner_stays (reply.Runs p) b x owners proc runs entered idle = absurd (runs p refl)
  owner_stays (reply.Entered p n) b x owners proc runs entered idle = absurd (entered p n refl)
  owner_stays (reply.Idle p) b x owners proc runs entered idle = absurd (idle p refl)
  owner_stays _ b x owners proc runs entered idle = record { back = proc_by run b x; hands = (refl, refl); processor_is = proc_same b x }

-- What it is handed suits the call

a_some : {A : Type 0} (o : Option A) → IsSome o → (x : A) × (o ≡ Some x)
a_some None h = absurd (false≢true h)
a_some (Some x) h = (x, refl)

module _ (run : ℕ) where
  spends : (r : Readiness) (o : Option Readiness) → o ≡ Some r → (let h : Handed = record { ticket = option_map (λ (t : Ticket). (t.run, readiness_of t)) (option_map (ticket_by run) o); held = None; called = None; proc = None } in h) ≡ ticket_handed run r
  spends r o e = rw e refl

  opened : (o : Option Readiness) → option_map readiness_of (option_map (ticket_by run) o) ≡ o
  opened None = refl
  opened (Some r) = refl

module _ {T Q : Type 0} (run : ℕ) where
  abbrev Given : Call → Registers T Q → Type 0
  Given c hand = Suits c (handed_of (given_by run c hand))

  asks : (hand : Registers T Q) (h : HeldParts T) → hand.held ≡ Some h → Given call.Yield hand
  asks hand h e = (run, h.g, rw e refl)

  enters : (hand : Registers T Q) (h : HeldParts T) (p : ProcParts Q) → hand.held ≡ Some h → hand.processor ≡ Some p → Given call.Enter hand
  enters hand h p e of = (run, h.g, run, p.p, rw (e, of) refl)

  leaves : (number : ℕ) (hand : Registers T Q) (c : CalledParts T) → hand.called ≡ Some c → Given (call.Leave number) hand
  leaves number hand c e = (run, c.g, rw e refl)

  declares : (hand : Registers T Q) (p : ProcParts Q) → hand.processor ≡ Some p → Given call.Declare hand
  declares hand p e = (run, p.p, rw e refl)

  pub suits : (c : Call) (hand : Registers T Q) → Uses c hand → Given c hand
  suits call.Acquire hand u = refl
  suits call.Take hand u = refl
  suits (call.Put r) hand u = (run, spends run r (first_of hand.to_store hand.to_claim) u)
  suits (call.Claim r) hand u = (run, spends run r hand.to_claim u.0)
  suits call.Enter hand u = (let h = a_some hand.held u.0 in let p = a_some hand.processor u.1 in enters hand h.0 p.0 h.1 p.1)
  suits (call.Leave number) hand u = (let w = a_some hand.called u.0 in leaves number hand w.0 w.1)
  suits call.Declare hand u = (let w = a_some hand.processor u.2 in declares hand w.0 w.1)
  suits call.Spin hand u = refl
  suits call.Woken hand u = refl
  suits call.Keep hand u = refl
  suits call.Unspin hand u = refl
  suits call.Poke hand u = refl
  suits call.Bare hand u = refl
  suits call.Park hand u = refl
  suits (call.Tick moment) hand u = refl
  suits _ hand u = (let w = a_some hand.held u.0 in asks hand w.0 w.1)

  -- the registers behind the call
  pub held_behind : (c : Call) (hand : Registers T Q) (p : Option (ProcParts Q)) (h : Option (HeldParts T)) (l : Option (CalledParts T)) (t s o : Option Readiness) (proc : Option (Proc Q)) (held : Option (Held T))
      (called : Option (Called T)) → p ≡ back_in (hands_proc c) (option_map proc_parts proc) hand.processor → h ≡ back_in (hands_held c) (option_map held_parts held) hand.held
      → l ≡ back_in (hands_called c) (option_map called_parts called) hand.called → t ≡ to_claim_after c o hand.to_claim hand.to_store → s ≡ to_store_after c o hand.to_store
      → (let now : Registers T Q = record { processor = p; held = h; called = l; to_claim = t; to_store = s } in now)
      ≡ hand_after c (let v : Values T Q = record { held = held; called = called; ticket = option_map (ticket_by run) o; proc = proc } in v) hand
  held_behind c hand p h l t s o proc held called ep eh el et es = rw (ep, eh, el, et, es, opened run o) refl
