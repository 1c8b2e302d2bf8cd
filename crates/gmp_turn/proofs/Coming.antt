-- What comes back of a call that is answered or refused: of the machine's run, apart from what it holds, and it fits the next place.
use Rattle.std.proofs.Common.{◌≡◌, inl, inr, ℕ, Bool, true, false, List, Option, None, Some, Result, Ok, Err, refl, sym, ap, subst, ◌∙◌}
use Rattle.std.specs.Option.{option_map}
use Rattle.std.specs.Prelude.{IfErr, IfOk, IfSome, OnErr}
use Rattle.gmp_base.specs.declared.ask.Woke.{Woke}
use Rattle.gmp_base.specs.declared.ask.Woke.TheVariants as woke
use Rattle.gmp_base.specs.declared.number.GNo.{GNo}
use Rattle.gmp_base.specs.declared.number.Readiness.{Readiness}
use Rattle.gmp_base.specs.declared.pass.Pass.{Pass}
use Rattle.gmp_base.specs.declared.refusal.Refusal.{Refusal}
use Rattle.gmp_base.specs.declared.refusal.Refusal.TheVariants.{OutOfMemory}
use Rattle.gmp_base.specs.declared.value.Called.{Called}
use Rattle.gmp_base.specs.declared.value.Held.{Held}
use Rattle.gmp_base.specs.declared.value.Proc.{Proc}
use Rattle.gmp_base.specs.Values.{ticket_by}
use Rattle.gmp_seq.specs.declared.call.Call.{Call}
use Rattle.gmp_seq.specs.declared.call.Call.TheVariants as call
use Rattle.gmp_seq.specs.declared.call.Reply.{Reply}
use Rattle.gmp_seq.specs.declared.call.Reply.TheVariants as reply
use Rattle.gmp_seq.specs.Step.{ticket_in}
use Rattle.gmp_journal.specs.Log.{Log, Records}
use Rattle.gmp_book.specs.declared.values.Values.{Values}
use Rattle.gmp_book.specs.declared.values.Way.{Way}
use Rattle.gmp_book.specs.declared.values.Way.TheVariants.{Stays, Home, OutOfPlace, IntoCall, OutOfCall}
use Rattle.gmp_book.specs.Book.{BookContents}
use Rattle.gmp_book.specs.Hands.{Hands, HandsBody, HandsOwner, back_where, handed_back, is_make, values_back, way_of}
use Rattle.gmp_driver.specs.declared.act.Act.TheVariants as act
use Rattle.gmp_driver.specs.declared.registers.CalledParts.{CalledParts}
use Rattle.gmp_driver.specs.declared.registers.HeldParts.{HeldParts}
use Rattle.gmp_driver.specs.declared.registers.ProcParts.{ProcParts}
use Rattle.gmp_driver.specs.declared.registers.Registers.{Registers}
use Rattle.gmp_driver.specs.Fits.{SuitsPlace}
use Rattle.gmp_driver.specs.Loads.{IsOfRun, called_of, held_of, load_of, parts_of, proc_of}
use Rattle.gmp_driver.specs.Machine.{Machine}
use Rattle.gmp_driver.specs.declared.act.Told.TheVariants as told
use Rattle.gmp_driver.specs.declared.seen.Seen.{Seen}
use Rattle.gmp_driver.specs.Registers.{AreFilledOnce, first_of, joined, unused, used}
use Rattle.gmp_driver.specs.Seen.{seen, seen_of}
use Rattle.gmp_driver.specs.Table.{act_at, after, next_act, next_place}
use Rattle.gmp_driver.proofs.Uses.{uses}
use Rattle.gmp_turn.specs.Turns.{hand_with, handed_out, is_to_claim, load_back, told_to_driver, values_in}
use Rattle.gmp_acts.specs.Hands.{PlainHand, hand_after, hand_unmade, plain, plain_called, plain_held, plain_proc}
use Rattle.gmp_acts.proofs.Lands.{lands, retold_some}
use Rattle.gmp_acts.proofs.Replies.{CanReply, replies}
use Rattle.gmp_turn.proofs.Back.{backs, filled}
use Rattle.gmp_turn.proofs.Landing.{awoke_for, mode_for, refused, suits_mode}
use Rattle.gmp_acts.proofs.Plain.{fits_plain, mapped, plain_fits, seen_plain}

-- Of one run

pub record AreOf {T Q : Type 0} (run : ℕ) (v : Values T Q) : Type 0 where
  pub held : IfSome v.held (λ x. x.run ≡ run)
  pub called : IfSome v.called (λ x. x.run ≡ run)
  pub ticket : IfSome v.ticket (λ x. x.run ≡ run)
  pub proc : IfSome v.proc (λ x. x.run ≡ run)

module _ {T Q : Type 0} (run : ℕ) where
  loaded : (b : Bool) (pass : Pass) (v : Values T Q) → pass.run ≡ run → AreOf run v → IsOfRun run (load_back pass b v)
  loaded true pass v e of = record { pass = e; held = of.held; called = of.called; to_claim = of.ticket; to_store = tt; proc = of.proc }
  loaded false pass v e of = record { pass = e; held = of.held; called = of.called; to_claim = tt; to_store = of.ticket; proc = of.proc }

module _ {T : Type 0} (run : ℕ) where
  of_held : (o : Option (HeldParts T)) → IfSome (option_map (held_of run) o) (λ x. x.run ≡ run)
  of_held None = tt
  of_held (Some x) = refl

  of_called : (o : Option (CalledParts T)) → IfSome (option_map (called_of run) o) (λ x. x.run ≡ run)
  of_called None = tt
  of_called (Some x) = refl

  of_proc : (o : Option (ProcParts T)) → IfSome (option_map (proc_of run) o) (λ x. x.run ≡ run)
  of_proc None = tt
  of_proc (Some x) = refl

of_tickets : (run : ℕ) (t s : Option Readiness) → IfSome (first_of (option_map (ticket_by run) t) (option_map (ticket_by run) s)) (λ x. x.run ≡ run)
of_tickets run (Some x) s = refl
of_tickets run None (Some x) = refl
of_tickets run None None = tt

given_of : {T Q : Type 0} (run : ℕ) (pass : Pass) (hand : Registers T Q) → AreOf run (values_in (load_of run pass hand))
given_of run pass hand = record { held = of_held run hand.held; called = of_called run hand.called; ticket = of_tickets run hand.to_claim hand.to_store; proc = of_proc run hand.processor }

told_back : {T : Type 0} (run : ℕ) (why : Refusal) (o : Option (Held T)) → IfSome o (λ x. x.run ≡ run) → IfSome (option_map (handed_back why) o) (λ x. x.run ≡ run)
told_back run why None of = tt
told_back run OutOfMemory (Some x) of = of
told_back run _ (Some x) of = of

back_of : {T Q : Type 0} (run : ℕ) (b : Bool) (why : Refusal) (v : Values T Q) → AreOf run v → AreOf run (back_where b why v)
back_of run true why v of = record { held = told_back run why v.held of.held; called = of.called; ticket = of.ticket; proc = of.proc }
back_of run false why v of = of

body_of : {T : Type 0} (w : Way) (run n : ℕ) (g : GNo) (told : Woke) (held : Option (Held T)) (called : Option (Called T)) (held' : Option (Held T)) (called' : Option (Called T)) (old new : List (Option T))
    → n ≡ run → IfSome held (λ x. x.run ≡ run) → IfSome called (λ x. x.run ≡ run) → HandsBody w n g told held called held' called' old new
    → IfSome held' (λ x. x.run ≡ run) × IfSome called' (λ x. x.run ≡ run)
body_of Stays run n g told (Some h) called held' called' old new e r s k = (rw k.0 r, rw k.1 s)
body_of Stays run n g told None called held' called' old new e r s k = (rw k.0 tt, rw k.1 s)
body_of Home run n g told held called held' called' old new e r s k = (rw k.0 tt, rw k.1 tt)
body_of OutOfPlace run n g told held called held' called' old new e r s k = (rw k.1 e, rw k.2 s)
body_of IntoCall run n g told (Some h) called held' called' old new e r s k = (rw k.0 tt, rw k.1 r)
body_of IntoCall run n g told None called held' called' old new e r s k = (rw k.0 tt, rw k.1 tt)
body_of OutOfCall run n g told held (Some c) held' called' old new e r s k = (rw k.0 s, rw k.1 tt)
body_of OutOfCall run n g told held None held' called' old new e r s k = (rw k.0 tt, rw k.1 tt)

owner_of : {Q : Type 0} (answer : Reply) (run n : ℕ) (given back : Option (Proc Q)) (old new : List (Option Q)) → n ≡ run → IfSome given (λ x. x.run ≡ run)
    → HandsOwner answer n given back old new → IfSome back (λ x. x.run ≡ run)
owner_of (reply.Proc p) run n given back old new e r k = rw k.1 e
owner_of (reply.Runs p) run n given back old new e r k = rw k.1 e
owner_of (reply.Entered p woken) run n given back old new e r k = rw k.0 tt
owner_of (reply.Idle p) run n given back old new e r k = rw k.0 tt
owner_of _ run n given back old new e r k = rw k.0 r

ticket_is : (run n : ℕ) (o : Option Readiness) → n ≡ run → IfSome (option_map (ticket_by n) o) (λ x. x.run ≡ run)
ticket_is run n None e = tt
ticket_is run n (Some r) e = e

hands_of : {T Q : Type 0} (run : ℕ) (c : Call) (answer : Reply) (given back : Values T Q) (old now : BookContents T Q) → old.log.run ≡ run → AreOf run given → Hands c answer given back old now → AreOf run back
hands_of run c answer given back old now e of k =
    let body = body_of (way_of answer) run old.log.run _ _ given.held given.called back.held back.called old.bodies now.bodies e of.held of.called k.body in
    record {
      held = body.0;
      called = body.1;
      ticket = rw k.ticket (ticket_is run old.log.run (ticket_in answer) e);
      proc = owner_of answer run old.log.run given.proc back.proc old.owners now.owners e of.proc k.owner;
    }

-- Refused: what was handed in comes back

-- in plain parts
abbrev pub plain_back : Call → Refusal → PlainHand → PlainHand
plain_back (call.Make capacity) OutOfMemory hand = hand_unmade hand
plain_back c why hand = hand

module _ {T Q : Type 0} (run : ℕ) (pass : Pass) where
  abbrev pub Again : Call → Refusal → Registers T Q → Type 0
  Again c why hand =
      (let left = unused (act.Call c) hand in
      let came = parts_of (load_back pass (is_to_claim c (load_of run pass (used (act.Call c) hand))) (values_back c why (values_in (load_of run pass (used (act.Call c) hand))))) in
      (plain (joined came left) ≡ plain_back c why (plain hand)) × AreFilledOnce left came)

  abbrev pub parts : Option (ProcParts Q) → Option (HeldParts T) → Option (CalledParts T) → Option Readiness → Option Readiness → Registers T Q
  parts p h c t s = record { processor = p; held = h; called = c; to_claim = t; to_store = s }

  pub by_parts : (c : Call) (why : Refusal) (p : Option (ProcParts Q)) (h : Option (HeldParts T)) (l : Option (CalledParts T)) (t s : Option Readiness) → Again c why (parts p h l t s)
  by_parts (call.Put r) why p h l t (Some x) = (refl, record { processor = inr refl; held = inr refl; called = inr refl; to_claim = inr refl; to_store = inl refl })
  by_parts (call.Put r) why p h l (Some x) None = (refl, record { processor = inr refl; held = inr refl; called = inr refl; to_claim = inl refl; to_store = inr refl })
  by_parts (call.Put r) why p h l None None = (refl, record { processor = inr refl; held = inr refl; called = inr refl; to_claim = inl refl; to_store = inr refl })
  by_parts (call.Claim r) why p h l (Some x) s = (refl, record { processor = inr refl; held = inr refl; called = inr refl; to_claim = inl refl; to_store = inr refl })
  by_parts (call.Claim r) why p h l None s = (refl, record { processor = inr refl; held = inr refl; called = inr refl; to_claim = inl refl; to_store = inr refl })
  by_parts call.Enter why (Some x) (Some y) l t s = (refl, record { processor = inl refl; held = inl refl; called = inr refl; to_claim = inr refl; to_store = inr refl })
  by_parts call.Enter why (Some x) None l t s = (refl, record { processor = inl refl; held = inl refl; called = inr refl; to_claim = inr refl; to_store = inr refl })
  by_parts call.Enter why None (Some y) l t s = (refl, record { processor = inl refl; held = inl refl; called = inr refl; to_claim = inr refl; to_store = inr refl })
  by_parts call.Enter why None None l t s = (refl, record { processor = inl refl; held = inl refl; called = inr refl; to_claim = inr refl; to_store = inr refl })
  by_parts (call.Leave number) why p h (Some x) t s = (refl, record { processor = inr refl; held = inr refl; called = inl refl; to_claim = inr refl; to_store = inr refl })
  by_parts (call.Leave number) why p h None t s = (refl, record { processor = inr refl; held = inr refl; called = inl refl; to_claim = inr refl; to_store = inr refl })
  by_parts call.Declare why (Some x) h l t s = (refl, record { processor = inl refl; held = inr refl; called = inr refl; to_claim = inr refl; to_store = inr refl })
  by_parts call.Declare why None h l t s = (refl, record { processor = inl refl; held = inr refl; called = inr refl; to_claim = inr refl; to_store = inr refl })
  by_parts call.Acquire why p h l t s = (refl, record { processor = inr refl; held = inr refl; called = inr refl; to_claim = inr refl; to_store = inr refl })
  by_parts call.Take why p h l t s = (refl, record { processor = inr refl; held = inr refl; called = inr refl; to_claim = inr refl; to_store = inr refl })
  by_parts call.Spin why p h l t s = (refl, record { processor = inr refl; held = inr refl; called = inr refl; to_claim = inr refl; to_store = inr refl })
  by_parts call.Woken why p h l t s = (refl, record { processor = inr refl; held = inr refl; called = inr refl; to_claim = inr refl; to_store = inr refl })
  by_parts call.Keep why p h l t s = (refl, record { processor = inr refl; held = inr refl; called = inr refl; to_claim = inr refl; to_store = inr refl })
  by_parts call.Unspin why p h l t s = (refl, record { processor = inr refl; held = inr refl; called = inr refl; to_claim = inr refl; to_store = inr refl })
  by_parts call.Poke why p h l t s = (refl, record { processor = inr refl; held = inr refl; called = inr refl; to_claim = inr refl; to_store = inr refl })
  by_parts call.Bare why p h l t s = (refl, record { processor = inr refl; held = inr refl; called = inr refl; to_claim = inr refl; to_store = inr refl })
  by_parts call.Park why p h l t s = (refl, record { processor = inr refl; held = inr refl; called = inr refl; to_claim = inr refl; to_store = inr refl })
  by_parts (call.Tick moment) why p h l t s = (refl, record { processor = inr refl; held = inr refl; called = inr refl; to_claim = inr refl; to_store = inr refl })
  by_parts (call.Make capacity) OutOfMemory p (Some x) l t s = (refl, record { processor = inr refl; held = inl refl; called = inr refl; to_claim = inr refl; to_store = inr refl })
  by_parts (call.Make capacity) _ p (Some x) l t s = (refl, record { processor = inr refl; held = inl refl; called = inr refl; to_claim = inr refl; to_store = inr refl })
  by_parts _ why p (Some x) l t s = (refl, record { processor = inr refl; held = inl refl; called = inr refl; to_claim = inr refl; to_store = inr refl })
  by_parts (call.Make capacity) OutOfMemory p None l t s = (refl, record { processor = inr refl; held = inl refl; called = inr refl; to_claim = inr refl; to_store = inr refl })
  by_parts (call.Make capacity) _ p None l t s = (refl, record { processor = inr refl; held = inl refl; called = inr refl; to_claim = inr refl; to_store = inr refl })
  by_parts _ why p None l t s = (refl, record { processor = inr refl; held = inl refl; called = inr refl; to_claim = inr refl; to_store = inr refl })

filled_plain : {T Q : Type 0} (hand : Registers T Q) → filled (plain hand) ≡ filled hand
filled_plain hand = rw (mapped plain_proc hand.processor, mapped plain_held hand.held, mapped plain_called hand.called) refl

filled_back : (c : Call) (why : Refusal) (hand : PlainHand) → filled (plain_back c why hand) ≡ filled hand
filled_back (call.Make capacity) OutOfMemory hand = rw (retold_some woke.NoMemory hand.held) refl
filled_back (call.Make capacity) _ hand = refl
filled_back _ why hand = refl

same_filled : {T Q : Type 0} (c : Call) (why : Refusal) (hand hand' : Registers T Q) → plain hand' ≡ plain_back c why (plain hand) → filled hand' ≡ filled hand
same_filled c why hand hand' e = sym (filled_plain hand') ∙ ap filled e ∙ filled_back c why (plain hand) ∙ filled_plain hand

-- Both

pub record Came {T Q : Type 0} (x : Machine T Q) (asked : Call) (before behind : Pass) (back : Values T Q) (result : Result Reply Refusal) : Type 0 where
  pub run : IsOfRun x.run (load_back behind (is_to_claim asked (handed_out x before asked)) back)
  pub apart : AreFilledOnce (unused (act.Call asked) x.hand) (parts_of (load_back behind (is_to_claim asked (handed_out x before asked)) back))
  pub fits :
      (let hand = hand_with asked x.hand (load_back behind (is_to_claim asked (handed_out x before asked)) back) in
      SuitsPlace (after (record x { hand = hand }) (told_to_driver result)).place hand)

module _ {T Q : Type 0} (x : Machine T Q) (asked : Call) (before : Pass) (book book' : BookContents T Q) (is : next_act x ≡ act.Call asked) (fits : SuitsPlace x.place x.hand) (run : x.run ≡ book.log.run)
    (pass : before.run ≡ x.run) where
  abbrev given : Values T Q
  given = values_in (handed_out x before asked)

  -- what it holds fits, since it does so in plain parts
  fits_after : (answer : Reply) (hand : Registers T Q) → CanReply asked answer → plain hand ≡ hand_after book.log.state.table asked answer (plain x.hand) → SuitsPlace (after (record x { hand = hand }) (told.Replied answer)).place hand
  fits_after answer hand can is_so =
      let next : act_at (seen_of x.procs x.fresh x.turns x.aside (plain x.hand)) x.place ≡ act.Call asked = ap (λ (s : Seen). act_at s x.place) (seen_plain x.procs x.fresh x.turns x.aside x.hand) ∙ is in
      let there = lands x.procs x.fresh x.turns x.aside book.log.state.table (plain x.hand) (mode_for x.place) x.place asked answer next (fits_plain x.hand x.place fits) (suits_mode x.place) can
      (awoke_for (seen_of x.procs x.fresh x.turns x.aside x.hand) x.place asked answer is) in
      let plainly : SuitsPlace (next_place (seen_of x.procs x.fresh x.turns x.aside (plain hand)) x.place (told.Replied answer)) (plain hand) =
      subst (λ (h : PlainHand). SuitsPlace (next_place (seen_of x.procs x.fresh x.turns x.aside h) x.place (told.Replied answer)) h) (sym is_so) there.fits in
      plain_fits hand _ (subst (λ (s : Seen). SuitsPlace (next_place s x.place (told.Replied answer)) (plain hand)) (seen_plain x.procs x.fresh x.turns x.aside hand) plainly)

  pub came : (behind : Pass) (back : Values T Q) (result : Result Reply Refusal) → IfErr result (λ why. back ≡ values_back asked why given) → OnErr result ((book' ≡ book) × (behind ≡ before))
      → IfOk result (λ answer. Records book.log before asked answer book'.log behind) → IfOk result (λ answer. Hands asked answer given back book book') → Came x asked before behind back result
  came behind back (Ok answer) same stays records hands =
      let can = replies book.log.limits before.m asked answer book.log.state book'.log.state records.step.1 in
      let comes = backs x.run before behind back book book' asked answer x.hand (uses x asked is fits) can hands in
      record {
        run = loaded x.run _ behind back (rw records.pass pass) (hands_of x.run asked answer given back book book' (sym run) (given_of x.run before (used (act.Call asked) x.hand)) hands);
        apart = comes.1;
        fits = fits_after answer (hand_with asked x.hand (load_back behind (is_to_claim asked (handed_out x before asked)) back)) can comes.0;
      }
  came behind back (Err why) same stays records hands =
      let comes = by_parts x.run before asked why x.hand.processor x.hand.held x.hand.called x.hand.to_claim x.hand.to_store in
      let hand = hand_with asked x.hand (load_back before (is_to_claim asked (handed_out x before asked)) (values_back asked why given)) in
      rw (same, stays.1) (record {
        run = loaded x.run _ before (values_back asked why given) pass (back_of x.run (is_make asked) why given (given_of x.run before (used (act.Call asked) x.hand)));
        apart = comes.1;
        fits = refused x.procs x.fresh x.turns x.aside x.hand hand (seen (record x { hand = hand })) x.place why fits (same_filled asked why x.hand hand comes.0);
      })

pub all_of : (A B : Type 0) (C : Refusal → Type 0) (result : Result Reply Refusal) → OnErr result (A × B) → IfErr result C → IfErr result (λ why. A × B × C why)
all_of A B C (Ok answer) same back = tt
all_of A B C (Err why) same back = (same.0, same.1, back)

-- the book's run stays
pub same_run : {T Q : Type 0} (book book' : BookContents T Q) (asked : Call) (before behind : Pass) (result : Result Reply Refusal) → OnErr result ((book' ≡ book) × (behind ≡ before))
    → IfOk result (λ answer. Records book.log before asked answer book'.log behind) → book.log.run ≡ book'.log.run
same_run book book' asked before behind (Ok answer) same records = ap (λ (l : Log). l.run) (sym records.opened)
same_run book book' asked before behind (Err why) same records = ap (λ (b : BookContents _ _). b.log.run) (sym same.0)
