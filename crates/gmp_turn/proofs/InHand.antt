-- A call with what is in hand, in its place, is a turn: what is handed out and what is held after it, by these equations, is what a turn by
-- values hands out and holds.
use Rattle.std.proofs.Common.{◌≡◌, ℕ, Option, None, Some, Result, Ok, Err, refl, sym, ap, subst, ◌∙◌}
use Rattle.std.specs.Option.{option_map}
use Rattle.std.specs.Prelude.{IfErr, IfOk, OnErr}
use Rattle.gmp_base.specs.declared.number.Readiness.{Readiness}
use Rattle.gmp_base.specs.declared.pass.Pass.{Pass}
use Rattle.gmp_base.specs.declared.refusal.Refusal.{Refusal}
use Rattle.gmp_base.specs.declared.refusal.Refusal.TheVariants.{OutOfMemory}
use Rattle.gmp_base.specs.declared.value.Called.{Called}
use Rattle.gmp_base.specs.declared.value.Held.{Held}
use Rattle.gmp_base.specs.declared.value.Proc.{Proc}
use Rattle.gmp_base.specs.declared.value.Ticket.{Ticket}
use Rattle.gmp_base.specs.Values.{ticket_by}
use Rattle.gmp_seq.specs.declared.call.Call.{Call}
use Rattle.gmp_seq.specs.declared.call.Call.TheVariants as call
use Rattle.gmp_seq.specs.declared.call.Reply.{Reply}
use Rattle.gmp_seq.specs.declared.call.Reply.TheVariants as reply
use Rattle.gmp_seq.specs.Needs.{WantsMemory}
use Rattle.gmp_seq.specs.Step.{ticket_in}
use Rattle.gmp_journal.specs.Done.{IsDoneTo}
use Rattle.gmp_journal.specs.Grants.{Chooses}
use Rattle.gmp_journal.specs.Handed.{goroutine_in, processor_in}
use Rattle.gmp_journal.specs.Log.{Records}
use Rattle.gmp_journal.specs.Refusals.{Says, refusal_in, refusal_of}
use Rattle.gmp_book.specs.declared.values.Values.{Values}
use Rattle.gmp_book.specs.Book.{BookContents}
use Rattle.gmp_book.specs.Hands.{Hands, handed_of, values_back}
use Rattle.gmp_book.specs.InHand.{given_by, hand_refused}
use Rattle.gmp_book.specs.InHand as in_hand
use Rattle.gmp_driver.specs.declared.act.Act.TheVariants as act
use Rattle.gmp_driver.specs.declared.act.Told.{Told}
use Rattle.gmp_driver.specs.declared.act.Told.TheVariants as told
use Rattle.gmp_driver.specs.declared.registers.CalledParts.{CalledParts}
use Rattle.gmp_driver.specs.declared.registers.HeldParts.{HeldParts}
use Rattle.gmp_driver.specs.declared.registers.ProcParts.{ProcParts}
use Rattle.gmp_driver.specs.declared.registers.Registers.{Registers}
use Rattle.gmp_driver.specs.Fits.{SuitsPlace}
use Rattle.gmp_driver.specs.Loads.{load_of}
use Rattle.gmp_driver.specs.Machine.{Machine}
use Rattle.gmp_driver.specs.Registers.{first_of, used}
use Rattle.gmp_driver.specs.Table.{after, next_act}
use Rattle.gmp_driver.specs.Uses.{Uses}
use Rattle.gmp_turn.specs.Turns.{Turns, hand_with, handed_out, is_to_claim, load_back, told_to_driver, values_in}
use Rattle.gmp_acts.proofs.Replies.{CanReply, replies}
use Rattle.gmp_driver.proofs.Uses.{uses}
use Rattle.gmp_turn.proofs.Coming.{came}

-- the registers once these values come back of a call
abbrev hand_after : {T Q : Type 0} → ℕ → Pass → Pass → Registers T Q → Call → Values T Q → Registers T Q
hand_after run pass behind hand c back = hand_with c hand (load_back behind (is_to_claim c (load_of run pass (used (act.Call c) hand))) back)

-- Any call

module _ {T Q : Type 0} (x : Machine T Q) (asked : Call) (before behind : Pass) (book book' : BookContents T Q) (given back : Values T Q) (hand : Registers T Q) (result : Result Reply Refusal)
    (is : values_in (handed_out x before asked) ≡ given) (has : hand_after x.run before behind x.hand asked back ≡ hand) where
  pub turned : (word : ℕ) (x' : Machine T Q) → x.pass ≡ Some before
      → Says (WantsMemory book.log.limits asked book.log.state) (refusal_of book.log before asked (handed_of given)) (refusal_in result)
      → IfErr result (λ why. (book' ≡ book) × (behind ≡ before) × (back ≡ values_back asked why given))
      → IfOk result (λ answer. Records book.log before asked answer book'.log behind)
      → IfOk result (λ answer. Chooses asked word answer book.log.state book.log.shelf)
      → IfOk result (λ answer. Hands asked answer given back book book')
      → IfOk result (λ answer. let v = handed_of given in IsDoneTo asked before.m (goroutine_in v) (processor_in v) answer book.log.state book'.log.state)
      → x' ≡ after (record x { pass = Some behind; hand = hand }) (told_to_driver result)
      → Turns x book asked word result x' book'
  turned word x' pass refused err records choice hands done machine = record {
    before = before;
    behind = behind;
    back = back;
    pass = pass;
    refused = subst (λ (v : Values T Q). Says (WantsMemory book.log.limits asked book.log.state) (refusal_of book.log before asked (handed_of v)) (refusal_in result)) (sym is) refused;
    err = subst (λ (v : Values T Q). IfErr result (λ why. (book' ≡ book) × (behind ≡ before) × (back ≡ values_back asked why v))) (sym is) err;
    records = records;
    choice = choice;
    hands = subst (λ (v : Values T Q). IfOk result (λ answer. Hands asked answer v back book book')) (sym is) hands;
    done = subst (λ (v : Values T Q). IfOk result (λ answer. let h = handed_of v in IsDoneTo asked before.m (goroutine_in h) (processor_in h) answer book.log.state book'.log.state)) (sym is) done;
    machine = subst (λ (h : Registers T Q). x' ≡ after (record x { pass = Some behind; hand = h }) (told_to_driver result)) (sym has) machine;
  }

  -- its pass is of the run, and what it holds suits its place
  pub landed : next_act x ≡ act.Call asked → SuitsPlace x.place x.hand → x.run ≡ book.log.run → before.run ≡ x.run → IfErr result (λ why. back ≡ values_back asked why given)
      → OnErr result ((book' ≡ book) × (behind ≡ before)) → IfOk result (λ answer. Records book.log before asked answer book'.log behind) → IfOk result (λ answer. Hands asked answer given back book book')
      → (behind.run ≡ x.run) × SuitsPlace (after (record x { hand = hand }) (told_to_driver result)).place hand
  landed acts fits run pass err same records hands =
      let its = came x asked before book book' acts fits run pass behind back result (subst (λ (v : Values T Q). IfErr result (λ why. back ≡ values_back asked why v)) (sym is) err) same records
      (subst (λ (v : Values T Q). IfOk result (λ answer. Hands asked answer v back book book')) (sym is) hands) in
      (its.run.pass, subst (λ (h : Registers T Q). SuitsPlace (after (record x { hand = h }) (told_to_driver result)).place h) has its.fits)

-- What the call is handed, and what is held behind it

abbrev NoTicket : Call → Reply → Type 0
NoTicket (call.Put r) answer = ticket_in answer ≡ None
NoTicket (call.Claim r) answer = ticket_in answer ≡ None
NoTicket _ answer = Unit {0}

no_ticket : (c : Call) (answer : Reply) → CanReply c answer → NoTicket c answer
no_ticket (call.Put r) reply.Shelf can = refl
no_ticket (call.Put r) _ can = absurd can
no_ticket (call.Claim r) reply.Held can = refl
no_ticket (call.Claim r) _ can = absurd can
no_ticket _ answer can = tt

none_given : (n : ℕ) (t : Option Ticket) (o : Option Readiness) → t ≡ option_map (ticket_by n) o → o ≡ None → t ≡ None
none_given n t o e none = rw none at e

module _ {T Q : Type 0} (run : ℕ) (pass behind : Pass) where
  abbrev parts : Option (ProcParts Q) → Option (HeldParts T) → Option (CalledParts T) → Option Readiness → Option Readiness → Registers T Q
  parts p h c t s = record { processor = p; held = h; called = c; to_claim = t; to_store = s }

  abbrev Given : Call → Registers T Q → Type 0
  Given c hand = values_in (load_of run pass (used (act.Call c) hand)) ≡ given_by run c hand

  given_parts : (c : Call) (p : Option (ProcParts Q)) (h : Option (HeldParts T)) (l : Option (CalledParts T)) (t s : Option Readiness) → Given c (parts p h l t s)
  given_parts (call.Put r) p h l (Some x) (Some y) = refl
  given_parts (call.Put r) p h l (Some x) None = refl
  given_parts (call.Put r) p h l None (Some y) = refl
  given_parts (call.Put r) p h l None None = refl
  given_parts (call.Claim r) p h l (Some x) s = refl
  given_parts (call.Claim r) p h l None s = refl
  given_parts _ p h l t s = refl

  given_is : (c : Call) (hand : Registers T Q) → Given c hand
  given_is c hand = given_parts c hand.processor hand.held hand.called hand.to_claim hand.to_store

  -- refused
  abbrev Again : Call → Refusal → Registers T Q → Type 0
  Again c why hand = hand_after run pass behind hand c (values_back c why (given_by run c hand)) ≡ hand_refused c why hand

  again_parts : (c : Call) (why : Refusal) (p : Option (ProcParts Q)) (h : Option (HeldParts T)) (l : Option (CalledParts T)) (t s : Option Readiness) → Again c why (parts p h l t s)
  again_parts (call.Put r) why p h l t (Some x) = refl
  again_parts (call.Put r) why p h l (Some x) None = refl
  again_parts (call.Put r) why p h l None None = refl
  again_parts (call.Claim r) why p h l (Some x) s = refl
  again_parts (call.Claim r) why p h l None s = refl
  again_parts call.Enter why (Some x) (Some y) l t s = refl
  again_parts call.Enter why (Some x) None l t s = refl
  again_parts call.Enter why None (Some y) l t s = refl
  again_parts call.Enter why None None l t s = refl
  again_parts (call.Leave number) why p h (Some x) t s = refl
  again_parts (call.Leave number) why p h None t s = refl
  again_parts call.Declare why (Some x) h l t s = refl
  again_parts call.Declare why None h l t s = refl
  again_parts call.Acquire why p h l t s = refl
  again_parts call.Take why p h l t s = refl
  again_parts call.Spin why p h l t s = refl
  again_parts call.Woken why p h l t s = refl
  again_parts call.Keep why p h l t s = refl
  again_parts call.Unspin why p h l t s = refl
  again_parts call.Poke why p h l t s = refl
  again_parts call.Bare why p h l t s = refl
  again_parts call.Park why p h l t s = refl
  again_parts (call.Tick moment) why p h l t s = refl
  again_parts (call.Make capacity) OutOfMemory p (Some x) l t s = refl
  again_parts (call.Make capacity) OutOfMemory p None l t s = refl
  again_parts (call.Make capacity) _ p (Some x) l t s = refl
  again_parts (call.Make capacity) _ p None l t s = refl
  again_parts _ why p (Some x) l t s = refl
  again_parts _ why p None l t s = refl

  again : (c : Call) (why : Refusal) (hand : Registers T Q) → Again c why hand
  again c why hand = again_parts c why hand.processor hand.held hand.called hand.to_claim hand.to_store

  -- answered
  abbrev Behind : Call → Registers T Q → Values T Q → Type 0
  Behind c hand back = hand_after run pass behind hand c back ≡ in_hand.hand_after c back hand

  abbrev values : Option (Held T) → Option (Called T) → Option Ticket → Option (Proc Q) → Values T Q
  values h c t p = record { held = h; called = c; ticket = t; proc = p }

  -- a put and a claim spend their ticket, and give out none
  spends : (r : Readiness) (p : Option (ProcParts Q)) (h : Option (HeldParts T)) (l : Option (CalledParts T)) (t s : Option Readiness) (back : Values T Q) → first_of s t ≡ Some r → back.ticket ≡ None
      → Behind (call.Put r) (parts p h l t s) back
  spends r p h l t (Some y) back e none = rw none refl
  spends r p h l (Some x) None back e none = rw none refl
  spends r p h l None None back e none = absurd cc

  claims : (r : Readiness) (hand : Registers T Q) (back : Values T Q) → hand.to_claim ≡ Some r → back.ticket ≡ None → Behind (call.Claim r) hand back
  claims r hand back e none = rw (e, none) refl

  by_held : (hand : Registers T Q) (h : Option (Held T)) (c : Option (Called T)) (t : Option Ticket) (p : Option (Proc Q)) → Behind call.Yield hand (values h c t p)
  by_held hand None c t p = refl
  by_held hand (Some h) c t p = refl

  enters : (hand : Registers T Q) (h : Option (Held T)) (c : Option (Called T)) (t : Option Ticket) (p : Option (Proc Q)) → Behind call.Enter hand (values h c t p)
  enters hand None c t None = refl
  enters hand None c t (Some x) = refl
  enters hand (Some h) c t None = refl
  enters hand (Some h) c t (Some x) = refl

  leaves : (number : ℕ) (hand : Registers T Q) (h : Option (Held T)) (c : Option (Called T)) (t : Option Ticket) (p : Option (Proc Q)) → Behind (call.Leave number) hand (values h c t p)
  leaves number hand h None t p = refl
  leaves number hand h (Some c) t p = refl

  declares : (hand : Registers T Q) (h : Option (Held T)) (c : Option (Called T)) (t : Option Ticket) (p : Option (Proc Q)) → Behind call.Declare hand (values h c t p)
  declares hand h c t None = refl
  declares hand h c t (Some x) = refl

  behind_is : (n : ℕ) (c : Call) (answer : Reply) (hand : Registers T Q) (back : Values T Q) → Uses c hand → CanReply c answer → back.ticket ≡ option_map (ticket_by n) (ticket_in answer) → Behind c hand back
  behind_is n (call.Put r) answer hand back u can t =
      spends r hand.processor hand.held hand.called hand.to_claim hand.to_store back u (none_given n back.ticket (ticket_in answer) t (no_ticket (call.Put r) answer can))
  behind_is n (call.Claim r) answer hand back u can t = claims r hand back u.0 (none_given n back.ticket (ticket_in answer) t (no_ticket (call.Claim r) answer can))
  behind_is n call.Enter answer hand back u can t = enters hand back.held back.called back.ticket back.proc
  behind_is n (call.Leave number) answer hand back u can t = leaves number hand back.held back.called back.ticket back.proc
  behind_is n call.Declare answer hand back u can t = declares hand back.held back.called back.ticket back.proc
  behind_is n call.Acquire answer hand back u can t = refl
  behind_is n call.Take answer hand back u can t = refl
  behind_is n call.Spin answer hand back u can t = refl
  behind_is n call.Woken answer hand back u can t = refl
  behind_is n call.Keep answer hand back u can t = refl
  behind_is n call.Unspin answer hand back u can t = refl
  behind_is n call.Poke answer hand back u can t = refl
  behind_is n call.Bare answer hand back u can t = refl
  behind_is n call.Park answer hand back u can t = refl
  behind_is n (call.Tick moment) answer hand back u can t = refl
  behind_is n _ answer hand back u can t = by_held hand back.held back.called back.ticket back.proc

-- The turn: the machine x handed out the pass (then it is m1), holds this hand behind the call (m2), and was told the answer (x').
module _ {T Q : Type 0} (x m1 : Machine T Q) (asked : Call) (before behind : Pass) (book book' : BookContents T Q) (hand : Registers T Q)
    (acts : next_act x ≡ act.Call asked) (has_pass : x.pass ≡ Some before) (run : x.run ≡ book.log.run) (fits : SuitsPlace x.place x.hand) (of : before.run ≡ x.run) (left : m1 ≡ record x { pass = None }) where
  abbrev given : Values T Q
  given = given_by book.log.run asked x.hand

  its_given : values_in (handed_out x before asked) ≡ given
  its_given = given_is x.run before behind asked x.hand ∙ ap (λ (n : ℕ). let v : Values T Q = given_by n asked x.hand in v) run

  module _ (m2 : Machine T Q) (lent : m2 ≡ record m1 { hand = hand }) where
    state : m2 ≡ record x { pass = None; hand = hand }
    state = rw left at lent

    module _ (answer : Reply) (back : Values T Q) (records : Records book.log before asked answer book'.log behind) (hands : Hands asked answer given back book book') (is : hand ≡ in_hand.hand_after asked back x.hand) where
      has : hand_after x.run before behind x.hand asked back ≡ hand
      has =
          behind_is x.run before behind book.log.run asked answer x.hand back (uses x asked acts fits) (replies book.log.limits before.m asked answer book.log.state book'.log.state records.step.1) hands.ticket
          ∙ sym is

      pub fits_then : SuitsPlace (after m2 (told.Replied answer)).place m2.hand
      fits_then =
          let there = landed x asked before behind book book' given back hand (Ok answer) its_given has acts fits run of tt tt records hands in
          subst (λ (m : Machine T Q). SuitsPlace (after m (told.Replied answer)).place m.hand) (sym state) there.1

      pub turns_ok : (word : ℕ) (x' : Machine T Q) → Says (WantsMemory book.log.limits asked book.log.state) (refusal_of book.log before asked (handed_of given)) None
          → Chooses asked word answer book.log.state book.log.shelf → (let v = handed_of given in IsDoneTo asked before.m (goroutine_in v) (processor_in v) answer book.log.state book'.log.state)
          → x' ≡ record (after m2 (told.Replied answer)) { pass = Some behind } → Turns x book asked word (Ok answer) x' book'
      turns_ok word x' refused choice done told_is =
          turned x asked before behind book book' given back hand (Ok answer) its_given has word x' has_pass refused tt records choice hands done
          (subst (λ (m : Machine T Q). x' ≡ record (after m (told.Replied answer)) { pass = Some behind }) state told_is)

    module _ (why : Refusal) (same : (book' ≡ book) × (behind ≡ before)) (is : hand ≡ hand_refused asked why x.hand) where
      abbrev back : Values T Q
      back = values_back asked why given

      has_back : hand_after x.run before behind x.hand asked back ≡ hand
      has_back =
          ap (λ (n : ℕ). hand_after x.run before behind x.hand asked (values_back asked why (let v : Values T Q = given_by n asked x.hand in v))) (sym run)
          ∙ again x.run before behind asked why x.hand ∙ sym is

      pub fits_refused : SuitsPlace (after m2 (told.Refused why)).place m2.hand
      fits_refused =
          let there = landed x asked before behind book book' given back hand (Err why) its_given has_back acts fits run of refl same tt tt in
          subst (λ (m : Machine T Q). SuitsPlace (after m (told.Refused why)).place m.hand) (sym state) there.1

      pub turns_refused : (word : ℕ) (x' : Machine T Q) → Says (WantsMemory book.log.limits asked book.log.state) (refusal_of book.log before asked (handed_of given)) (Some why)
          → x' ≡ record (after m2 (told.Refused why)) { pass = Some behind } → Turns x book asked word (Err why) x' book'
      turns_refused word x' refused told_is =
          turned x asked before behind book book' given back hand (Err why) its_given has_back word x' has_pass refused (same.0, same.1, refl) tt tt tt tt
          (subst (λ (m : Machine T Q). x' ≡ record (after m (told.Refused why)) { pass = Some behind }) state told_is)

pub told_fits : {T Q : Type 0} (m x' : Machine T Q) (what : Told) (pass : Option Pass) → x' ≡ record (after m what) { pass = pass } → SuitsPlace (after m what).place m.hand → SuitsPlace x'.place x'.hand
told_fits m x' what pass e f = subst (λ (n : Machine _ _). SuitsPlace n.place n.hand) (sym e) f
