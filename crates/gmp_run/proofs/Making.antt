-- What a machine does in a thread, in plain parts: an act that makes no entry, or the call of its entry.
use Rattle.std.proofs.Common.{◌≡◌, ◌⊎◌, inl, inr, ℕ, Bool, true, false, is_some, List, Option, Some, None, Result, Ok, Err, refl, sym, ap, subst, ◌∙◌}
use Rattle.std.specs.Option.{option_map}
use Rattle.gmp_base.specs.declared.ask.Ask.{Ask}
use Rattle.gmp_base.specs.declared.number.Readiness.{Readiness}
use Rattle.gmp_base.specs.declared.pass.Pass.{Pass}
use Rattle.gmp_base.specs.declared.refusal.Refusal.{Refusal}
use Rattle.gmp_base.specs.declared.refusal.Refusal.TheVariants.{OutOfMemory}
use Rattle.gmp_seq.specs.declared.call.Call.{Call}
use Rattle.gmp_seq.specs.declared.call.Call.TheVariants as call
use Rattle.gmp_seq.specs.declared.call.Reply.{Reply}
use Rattle.gmp_book.specs.Book.{BookContents}
use Rattle.gmp_driver.specs.declared.act.Act.{Act}
use Rattle.gmp_driver.specs.declared.act.Act.TheVariants as act
use Rattle.gmp_driver.specs.declared.act.Told.{Told}
use Rattle.gmp_driver.specs.declared.act.Told.TheVariants as told
use Rattle.gmp_driver.specs.declared.act.Tried.{Tried}
use Rattle.gmp_driver.specs.declared.act.Tried.TheVariants as tried
use Rattle.gmp_driver.specs.declared.act.Value.{Value}
use Rattle.gmp_driver.specs.declared.act.Value.TheVariants as value
use Rattle.gmp_driver.specs.declared.place.Place.{Place}
use Rattle.gmp_driver.specs.declared.place.Place.TheVariants as place
use Rattle.gmp_driver.specs.declared.registers.CalledParts.{CalledParts}
use Rattle.gmp_driver.specs.declared.registers.HeldParts.{HeldParts}
use Rattle.gmp_driver.specs.declared.registers.ProcParts.{ProcParts}
use Rattle.gmp_driver.specs.declared.registers.Registers.{Registers}
use Rattle.gmp_driver.specs.declared.seen.Seen.{Seen}
use Rattle.gmp_driver.specs.Bodies.{with_body, with_body_at}
use Rattle.gmp_driver.specs.Fits.{SuitsPlace}
use Rattle.gmp_driver.specs.Hunt.{begun, victim_of}
use Rattle.gmp_driver.specs.Loads.{load_of, parts_of}
use Rattle.gmp_driver.specs.Local.{MayCome, tells}
use Rattle.gmp_driver.specs.Machine.{Machine}
use Rattle.gmp_driver.specs.Own.{with_found, with_owner}
use Rattle.gmp_driver.specs.Registers.{joined, unused, used}
use Rattle.gmp_driver.specs.Seen.{seen}
use Rattle.gmp_driver.specs.Table.{act_at, after, next_act}
use Rattle.gmp_driver.proofs.Uses.{uses}
use Rattle.gmp_acts.specs.Acts.{given_back}
use Rattle.gmp_acts.specs.Hands.{PlainHand, PlainMachine, hand_after, plain, plain_called, plain_held, plain_machine, plain_proc}
use Rattle.gmp_acts.proofs.Plain.{after_plain, seen_plain}
use Rattle.gmp_acts.proofs.Replies.{replies}
use Rattle.gmp_turn.specs.Surrenders.{Surrenders, told_back}
use Rattle.gmp_turn.specs.Turns.{Turns, hand_with, handed_out, is_to_claim, load_back}
use Rattle.gmp_turn.proofs.Back.{backs}
use Rattle.gmp_turn.proofs.Coming.{by_parts, plain_back}
use Rattle.gmp_turn.proofs.Giving.{given}
use Rattle.gmp_queue.specs.declared.ends.Owner.{Owner}
use Rattle.gmp_queue.specs.declared.ends.Thief.{Thief}
use Rattle.gmp_worker.specs.AtQueue.{Steals, Tries, TurnsOnQueue}
use Rattle.gmp_worker.specs.Local.{CalledWhere, HeldWhere, IsOfBodyOrClock}
use Rattle.gmp_said.specs.Standing.{hand_refused}
use Rattle.gmp_run.specs.Trails.{GoesOn, HoldsThen, MakesEntry}

pub next_plain : {T Q : Type 0} (x : Machine T Q) → next_act (plain_machine x) ≡ next_act x
next_plain x = ap (λ (s : Seen). act_at s x.place) (seen_plain x.procs x.fresh x.turns x.aside x.hand)

-- it is told what may come of its act
told_so : {T Q : Type 0} (x x' : Machine T Q) (what : Told) (hand : Registers T Q) → MayCome (next_act x) what → HoldsThen what (plain x.hand) (plain hand)
    → x' ≡ after (record x { hand = hand }) what → GoesOn (plain_machine x) (plain_machine x')
told_so x x' what hand comes holds is = inl (record {
  what = what;
  hand = plain hand;
  comes = subst (λ (a : Act). MayCome a what) (sym (next_plain x)) comes;
  holds = holds;
  machine = ap plain_machine is ∙ after_plain (record x { hand = hand }) what;
})

-- At a queue

proc_plain : (o : Owner) (p : Option (ProcParts Owner)) → option_map plain_proc (option_map (λ (x : ProcParts Owner). record x { owner = o }) p) ≡ option_map plain_proc p
proc_plain o None = refl
proc_plain o (Some x) = refl

module _ {T : Type 0} where
  owner_plain : (o : Owner) (hand : Registers T Owner) → plain (with_owner o hand) ≡ plain hand
  owner_plain o hand = ap (λ (p : Option (ProcParts Unit)). let h : PlainHand = record (plain hand) { processor = p } in h) (proc_plain o hand.processor)

  found_plain : (r : Readiness) (b : Bool) (hand : Registers T Owner) → plain (with_found r b hand) ≡ with_found r b (plain hand)
  found_plain r true hand = refl
  found_plain r false hand = refl

  -- a ticket of the own queue, or none
  found_own : (r : Readiness) (b : Bool) (o : Owner) (hand hand' : Registers T Owner) → hand' ≡ with_found r b (with_owner o hand) → plain hand' ≡ with_found r b (plain hand)
  found_own r b o hand hand' is = ap plain is ∙ found_plain r b (with_owner o hand) ∙ ap (with_found r b) (owner_plain o hand)

  kept_own : (o : Owner) (hand hand' : Registers T Owner) → hand' ≡ with_owner o hand → plain hand' ≡ plain hand
  kept_own o hand hand' is = ap plain is ∙ owner_plain o hand

  module _ (run : ℕ) (v : _) (thieves thieves' : List Thief) (hand hand' : Registers T Owner) where
    stole : (drawn : Option ℕ) (how : Tried) → Steals run v thieves (is_some hand.to_claim) hand how hand' thieves' → HoldsThen (tells drawn how) (plain hand) (plain hand')
    stole None (tried.Got hint) (r, by_thief, is) = (r, ap plain is ∙ found_plain r (is_some hand.to_claim) hand)
    stole (Some word) (tried.Got hint) (r, by_thief, is) = (r, ap plain is ∙ found_plain r (is_some hand.to_claim) hand)
    stole None tried.Empty (none, is) = ap plain is
    stole (Some word) tried.Empty (none, is) = ap plain is
    stole None tried.Unsure (none, is) = ap plain is
    stole (Some word) tried.Unsure (none, is) = ap plain is

  module _ (x : Machine T Owner) (word : ℕ) (thieves thieves' : List Thief) (hand' : Registers T Owner) where
    abbrev Came : Act → Told → Type 0
    Came a what = MayCome a what × HoldsThen what (plain x.hand) (plain hand')

    tried_so : (a : Act) (what : Told) → Tries a x word x.hand thieves what hand' thieves' → Came a what
    tried_so act.Pop told.Got ((r, by_owner), same) = (tt, (r, found_own r false by_owner.behind x.hand hand' by_owner.step.2))
    tried_so act.Pop told.Empty (by_owner, same) = (tt, kept_own by_owner.behind x.hand hand' by_owner.step.2)
    tried_so act.Pop _ t = absurd t.0
    tried_so act.Drain told.Drained ((r, by_owner), same) = (tt, (r, found_own r true by_owner.behind x.hand hand' by_owner.step.2))
    tried_so act.Drain told.Empty (by_owner, same) = (tt, kept_own by_owner.behind x.hand hand' by_owner.step.2)
    tried_so act.Drain _ t = absurd t.0
    tried_so act.Push told.Pushed ((r, has, by_owner), same) =
        (tt, (r, has, ap plain by_owner.step.2 ∙ ap (λ (h : PlainHand). let g : PlainHand = record h { to_store = None } in g) (owner_plain by_owner.behind x.hand)))
    tried_so act.Push told.PushRefused (by_owner, same) = (tt, kept_own by_owner.behind x.hand hand' by_owner.step.1)
    tried_so act.Push _ t = absurd t.0
    tried_so act.Hunt what (how, is, steals) =
        subst (Came act.Hunt) (sym is) (tt, stole x.run (victim_of x.procs (begun (seen x) word)) thieves thieves' x.hand hand' (Some word) how steals)
    tried_so (act.Steal v) what (how, is, steals) = subst (Came (act.Steal v)) (sym is) (steal_comes how, stole x.run v thieves thieves' x.hand hand' None how steals) where
      steal_comes : (how : Tried) → MayCome (act.Steal v) (told.Tried how)
      steal_comes how = tt
    tried_so (act.Call asked) what t = absurd t
    tried_so act.Resume what t = absurd t
    tried_so act.Block what t = absurd t
    tried_so (act.Clock minded) what t = absurd t
    tried_so (act.Surrender which) what t = absurd t
    tried_so act.Nothing what t = absurd t

  pub at_queue : (x x' : Machine T Owner) (thieves : List Thief) (word : ℕ) (thieves' : List Thief) → TurnsOnQueue x thieves word x' thieves' → GoesOn (plain_machine x) (plain_machine x')
  at_queue x x' thieves word thieves' t =
      let came = tried_so x word thieves thieves' t.hand (next_act x) t.what t.tries in
      told_so x x' t.what t.hand came.0 came.1 t.machine

-- Of a body or the clock

held_plain : {T : Type 0} (body : T) (o : Option (HeldParts T)) → option_map plain_held (option_map (λ (h : HeldParts T). record h { body = body }) o) ≡ option_map plain_held o
held_plain body None = refl
held_plain body (Some h) = refl

called_plain : {T : Type 0} (body : T) (o : Option (CalledParts T)) → option_map plain_called (option_map (λ (c : CalledParts T). record c { body = body }) o) ≡ option_map plain_called o
called_plain body None = refl
called_plain body (Some c) = refl

module _ {T Q : Type 0} where
  body_plain : (here : Place) (hand : Registers T Q) (body : T) → plain (with_body_at here hand body) ≡ plain hand
  body_plain place.Run hand body = ap (λ (o : Option (HeldParts Unit)). let h : PlainHand = record (plain hand) { held = o } in h) (held_plain body hand.held)
  body_plain place.Block hand body = ap (λ (o : Option (CalledParts Unit)). let h : PlainHand = record (plain hand) { called = o } in h) (called_plain body hand.called)
  body_plain _ hand body = refl

  held_one : (o : Option (HeldParts T)) (x : Machine T Q) (fact : HeldParts T → Type 0) → HeldWhere (record x { hand = record x.hand { held = o } }) fact → (h : HeldParts T) × fact h
  held_one None x fact w = absurd w
  held_one (Some h) x fact w = (h, w)

  called_one : (o : Option (CalledParts T)) (x : Machine T Q) (fact : CalledParts T → Type 0) → CalledWhere (record x { hand = record x.hand { called = o } }) fact → (c : CalledParts T) × fact c
  called_one None x fact w = absurd w
  called_one (Some c) x fact w = (c, w)

  module _ (x x' : Machine T Q) where
    -- what it is told of a body, which is another then
    abbrev pub Tells : Told → Type 0
    Tells what = (body : T) × (x' ≡ after (with_body x body) what)

    pub resumed_so : (fact : HeldParts T → Type 0) → HeldWhere x fact → ((h : HeldParts T) → fact h → (ask : Ask) × Tells (told.Asked ask)) → (ask : Ask) × Tells (told.Asked ask)
    resumed_so fact w of = (let h = held_one x.hand.held x fact w in of h.0 h.1)

    pub blocked_so : (fact : CalledParts T → Type 0) → CalledWhere x fact → ((c : CalledParts T) → fact c → (number : ℕ) × Tells (told.Number number)) → (number : ℕ) × Tells (told.Number number)
    blocked_so fact w of = (let c = called_one x.hand.called x fact w in of c.0 c.1)

    pub alone : (moment : ℕ) → IsOfBodyOrClock (next_act x) → (next_act x ≡ act.Resume → (ask : Ask) × Tells (told.Asked ask)) → (next_act x ≡ act.Block → (number : ℕ) × Tells (told.Number number))
        → ((minded : Option ℕ) → next_act x ≡ act.Clock minded → x' ≡ after x (told.Moment moment)) → GoesOn (plain_machine x) (plain_machine x')
    alone moment = by (next_act x) refl where
      by : (a : Act) → next_act x ≡ a → IsOfBodyOrClock a → (a ≡ act.Resume → (ask : Ask) × Tells (told.Asked ask)) → (a ≡ act.Block → (number : ℕ) × Tells (told.Number number))
          → ((minded : Option ℕ) → a ≡ act.Clock minded → x' ≡ after x (told.Moment moment)) → GoesOn (plain_machine x) (plain_machine x')
      by act.Resume is of resumes blocks reads =
          let t = resumes refl in
          told_so x x' (told.Asked t.0) (with_body_at x.place x.hand t.1.0) (subst (λ (a : Act). MayCome a (told.Asked t.0)) (sym is) tt) (body_plain x.place x.hand t.1.0) t.1.1
      by act.Block is of resumes blocks reads =
          let t = blocks refl in
          told_so x x' (told.Number t.0) (with_body_at x.place x.hand t.1.0) (subst (λ (a : Act). MayCome a (told.Number t.0)) (sym is) tt) (body_plain x.place x.hand t.1.0) t.1.1
      by (act.Clock minded) is of resumes blocks reads =
          told_so x x' (told.Moment moment) x.hand (subst (λ (a : Act). MayCome a (told.Moment moment)) (sym is) tt) refl (reads minded refl)
      by (act.Call asked) is of resumes blocks reads = absurd of
      by act.Pop is of resumes blocks reads = absurd of
      by act.Drain is of resumes blocks reads = absurd of
      by act.Push is of resumes blocks reads = absurd of
      by act.Hunt is of resumes blocks reads = absurd of
      by (act.Steal v) is of resumes blocks reads = absurd of
      by (act.Surrender which) is of resumes blocks reads = absurd of
      by act.Nothing is of resumes blocks reads = absurd of

-- At the book

-- a value that was refused, or none, is where it was
again : {T Q : Type 0} (run : ℕ) (pass : Pass) (which : Option Value) (p : Option (ProcParts Q)) (h : Option (HeldParts T)) (c : Option (CalledParts T)) (t s : Option Readiness)
    → (let hand : Registers T Q = record { processor = p; held = h; called = c; to_claim = t; to_store = s } in
    plain (joined (parts_of (load_of run pass (used (act.Surrender which) hand))) (unused (act.Surrender which) hand)) ≡ plain hand)
again run pass (Some value.Held) p (Some x) c t s = refl
again run pass (Some value.Held) p None c t s = refl
again run pass (Some value.Called) p h (Some x) t s = refl
again run pass (Some value.Called) p h None t s = refl
again run pass (Some value.ToClaim) p h c (Some x) s = refl
again run pass (Some value.ToClaim) p h c None s = refl
again run pass (Some value.ToStore) p h c t (Some x) = refl
again run pass (Some value.ToStore) p h c t None = refl
again run pass (Some value.Proc) (Some x) h c t s = refl
again run pass (Some value.Proc) None h c t s = refl
again run pass None p h c t s = refl

refused_hand : (c : Call) (why : Refusal) (hand : PlainHand) → plain_back c why hand ≡ hand_refused c why hand
refused_hand (call.Make capacity) OutOfMemory hand = refl
refused_hand (call.Make capacity) _ hand = refl
refused_hand _ why hand = refl

module _ {T Q : Type 0} (x x' : Machine T Q) (book book' : BookContents T Q) where
  pub makes : (asked : Call) (word : ℕ) (answer : Reply) (is : next_act x ≡ act.Call asked) → SuitsPlace x.place x.hand → (t : Turns x book asked word (Ok answer) x' book')
      → MakesEntry (record { m = t.before.m; k = t.before.calls; call = asked; reply = answer }) book.log.state book'.log.state (plain_machine x) (plain_machine x')
  makes asked word answer is fits t = record {
    pass = t.before;
    next = next_plain x ∙ is;
    has_pass = t.pass;
    its = refl;
    number = refl;
    machine = ap plain_machine t.machine ∙ after_plain _ (told.Replied answer) ∙ ap (told_of t.behind) holds
        ∙ ap (λ (p : Pass). told_of p (hand_after book.log.state.table asked answer (plain x.hand))) t.records.pass;
  } where
    told_of : Pass → PlainHand → PlainMachine
    told_of p h = after (record (plain_machine x) { pass = Some p; hand = h }) (told.Replied answer)

    holds : plain (hand_with asked x.hand (load_back t.behind (is_to_claim asked (handed_out x t.before asked)) t.back)) ≡ hand_after book.log.state.table asked answer (plain x.hand)
    holds =
        (backs x.run t.before t.behind t.back book book' asked answer x.hand (uses x asked is fits)
        (replies book.log.limits t.before.m asked answer book.log.state book'.log.state t.records.step.1) t.hands).0

  -- the machine whose call was refused
  pub turned_down : (asked : Call) (word : ℕ) (why : Refusal) → Turns x book asked word (Err why) x' book'
      → plain_machine x' ≡ after (record (plain_machine x) { hand = hand_refused asked why (plain x.hand) }) (told.Refused why)
  turned_down asked word why t =
      ap plain_machine t.machine ∙ after_plain _ (told.Refused why) ∙ ap (told_of (Some t.behind)) (holds ∙ refused_hand asked why (plain x.hand))
      ∙ ap (λ (p : Option Pass). told_of p (hand_refused asked why (plain x.hand))) (ap (λ (p : Pass). Some p) t.err.1 ∙ sym t.pass) where
        told_of : Option Pass → PlainHand → PlainMachine
        told_of p h = after (record (plain_machine x) { pass = p; hand = h }) (told.Refused why)

        holds : plain (hand_with asked x.hand (load_back t.behind (is_to_claim asked (handed_out x t.before asked)) t.back)) ≡ plain_back asked why (plain x.hand)
        holds = rw t.err.2 (by_parts x.run t.before asked why x.hand.processor x.hand.held x.hand.called x.hand.to_claim x.hand.to_store).0

  pub refused : (asked : Call) (word : ℕ) (why : Refusal) → next_act x ≡ act.Call asked → Turns x book asked word (Err why) x' book' → GoesOn (plain_machine x) (plain_machine x')
  refused asked word why is t = inr (inl (record { asked = asked; why = why; next = next_plain x ∙ is; machine = turned_down asked word why t }))

  -- the machine that was refused a surrender
  pub refused_back : (which : Option Value) (why : Refusal) → Surrenders x book which (Err why) x' book' → plain_machine x' ≡ after (plain_machine x) (told_back which (Err why))
  refused_back which why t =
      ap plain_machine t.machine ∙ after_plain _ (told_back which (Err why))
      ∙ ap (told_of (told_back which (Err why)) (Some t.before)) (again x.run t.before which x.hand.processor x.hand.held x.hand.called x.hand.to_claim x.hand.to_store)
      ∙ ap (λ (p : Option Pass). told_of (told_back which (Err why)) p (plain x.hand)) (sym t.pass) where
        told_of : Told → Option Pass → PlainHand → PlainMachine
        told_of what p h = after (record (plain_machine x) { pass = p; hand = h }) what

  given_or : (which : Option Value) (result : Result Unit Refusal) → Surrenders x book which result x' book'
      → (plain_machine x' ≡ given_back (plain_machine x) which) ⊎ ((why : Refusal) × (plain_machine x' ≡ after (plain_machine x) (told.Refused why)))
  given_or which (Ok done) t = inl (given x x' book book' which t).0
  given_or None (Err why) t = inl (refused_back None why t)
  given_or (Some v) (Err why) t = inr (why, refused_back (Some v) why t)

  pub gives : (which : Option Value) (result : Result Unit Refusal) → next_act x ≡ act.Surrender which → Surrenders x book which result x' book' → GoesOn (plain_machine x) (plain_machine x')
  gives which result is t = inr (inr (record { which = which; next = next_plain x ∙ is; machine = given_or which result t }))
