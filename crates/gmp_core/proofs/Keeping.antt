-- What the core keeps it keeps by each act, and the stock of bodies stays.
use Rattle.std.proofs.Common.{◌≡◌, ◌≢◌, ◌⊎◌, inl, inr, ℕ, ◌+◌, ◌<◌, ◌≤◌, Bool, false, nat_le, List, [], ◌∷◌, ◌++◌, length, refl, sym, ap, ◌∙◌, subst, arith, Option, Some, None, IsSome, IsNone, Result, Ok, Err}
use Rattle.std.proofs.lemmas.Bool.{leb-false}
use Rattle.std.proofs.lemmas.List.{length_push}
use Rattle.std.specs.List.{slice_get}
use Rattle.std.specs.Option.{option_map}
use Rattle.gmp_base.specs.declared.number.GNo.{GNo}
use Rattle.gmp_base.specs.declared.number.MNo.{MNo}
use Rattle.gmp_base.specs.declared.number.PNo.{PNo}
use Rattle.gmp_base.specs.declared.pass.Pass.{Pass}
use Rattle.gmp_base.specs.declared.refusal.Refusal.{Refusal}
use Rattle.gmp_base.specs.declared.refusal.Refusal.TheVariants.{Full}
use Rattle.gmp_seq.specs.declared.call.Call.{Call}
use Rattle.gmp_seq.specs.declared.call.Entry.{Entry}
use Rattle.gmp_seq.specs.declared.call.Reply.{Reply}
use Rattle.gmp_seq.specs.declared.status.Status.{Status}
use Rattle.gmp_seq.specs.declared.status.Status.TheVariants as status
use Rattle.gmp_seq.specs.Laws.{IsInOrder}
use Rattle.gmp_seq.specs.Machines.{Holds}
use Rattle.gmp_seq.specs.Table.{IsCalling, IsRunning}
use Rattle.gmp_seq.proofs.InOrder.{legal_in_order}
use Rattle.gmp_driver.specs.declared.act.Act.{Act}
use Rattle.gmp_driver.specs.declared.act.Act.TheVariants as act
use Rattle.gmp_driver.specs.declared.act.Value.{Value}
use Rattle.gmp_driver.specs.declared.registers.CalledParts.{CalledParts}
use Rattle.gmp_driver.specs.declared.registers.HeldParts.{HeldParts}
use Rattle.gmp_driver.specs.declared.registers.ProcParts.{ProcParts}
use Rattle.gmp_driver.specs.declared.registers.Registers.{Registers}
use Rattle.gmp_driver.specs.Machine.{Machine}
use Rattle.gmp_driver.specs.Registers.{first_of}
use Rattle.gmp_driver.specs.Table.{next_act}
use Rattle.gmp_acts.specs.declared.choice.Choice.{Choice}
use Rattle.gmp_acts.specs.Headline.{HasInHand}
use Rattle.gmp_acts.specs.Hands.{PlainMachine, plain_called, plain_held, plain_machine}
use Rattle.gmp_acts.specs.Acts.{Acts}
use Rattle.gmp_acts.specs.Sound.{Agrees, IsSound}
use Rattle.gmp_acts.specs.System.{System, called_number, held_number}
use Rattle.gmp_acts.proofs.Moving.{act_sound}
use Rattle.gmp_acts.proofs.Watching.{act_watchful}
use Rattle.gmp_acts.proofs.Onward.{act_opened}
use Rattle.gmp_acts.proofs.Whole.{headline_of}
use Rattle.gmp_journal.specs.declared.handed.Handed.{Handed}
use Rattle.gmp_journal.specs.Log.{Log}
use Rattle.gmp_journal.specs.Refusals.{Line, Says, first_refusal, need_lines, refusal_in, refusal_line, refusal_of, turn_lines}
use Rattle.gmp_journal.proofs.Lines.{by_first, by_next, none_holds}
use Rattle.gmp_turn.proofs.Ending.{log_after}
use Rattle.gmp_turn.specs.Surrenders.{Surrenders, surrendered}
use Rattle.gmp_turn.specs.Turns.{Turns}
use Rattle.gmp_turn.specs.Values.{AreOut, KeepsValues, body_in, called_body, held_body, owner_in, proc_owner}
use Rattle.gmp_book.specs.Book.{BookContents}
use Rattle.gmp_core.specs.Doing.{Desk, Does}
use Rattle.gmp_core.specs.Inside.{IsCore, Parts, joined_system_of, system_of}
use Rattle.gmp_core.specs.Local.{KeepsHand}
use Rattle.gmp_core.specs.Queues.{Rings}
use Rattle.gmp_core.specs.Whole.{stock_of}
use Rattle.gmp_core.proofs.Apart.{apart, body_is, processor_is}
use Rattle.gmp_core.proofs.Before.{acts_before}
use Rattle.gmp_core.proofs.Stock.{other_set, out_same, same_at, stock_same}
use Rattle.gmp_core.proofs.Tying.{agrees, machine_is, parts_after}

-- Room for an entry

-- what was accepted no line refuses
no_refusal : (wants : Type 0) (why : Option Refusal) (answer : Reply) → Says wants why (refusal_in {A = Reply} (Ok answer)) → why ≡ None
no_refusal wants None answer says = refl
no_refusal wants (Some why) answer says = absurd (let no : None ≡ Some why = says in cc)

last_line : (ls : List Line) (test : Bool) → first_refusal (ls ++ refusal_line test Full ∷ []) ≡ None → test ≡ false
last_line ls test none = by (first_refusal ls) refl where
  by : (why : Option Refusal) → first_refusal ls ≡ why → test ≡ false
  by None e = (none_holds (refusal_line test Full ∷ []) (sym (by_next ls (refusal_line test Full ∷ []) e) ∙ none)).0
  by (Some why) e = absurd (let no : Some why ≡ None = sym (by_first ls (refusal_line test Full ∷ []) why e) ∙ none in cc)

room_of : (log : Log) (pass : Pass) (asked : Call) (values : Handed) → refusal_of log pass asked values ≡ None → length log.history < log.limits.room
room_of log pass asked values none =
    leb-false log.limits.room (length log.history) (last_line (turn_lines log pass values ++ need_lines log.state pass.m asked values) (nat_le log.limits.room (length log.history)) none)

-- One machine

no_both : (m : MNo) (o : Option Status) → o ≡ Some (status.Running m) → o ≡ Some (status.Calling m) → ⊥
no_both m o a b = (let no : Some (status.Running m) ≡ Some (status.Calling m) = sym a ∙ b in cc)

-- it has no goroutine twice in hand
pub one_in_hand : {T : Type 0} (k : System) (m : MNo) (x : Machine T Unit) → IsSound k → Agrees k.book m (plain_machine x) → IsNone x.hand.held ⊎ IsNone x.hand.called
one_in_hand {T = T} k m x s mine = by x.hand.held x.hand.called mine.has.runs mine.has.calls where
  by : (h : Option (HeldParts T)) (c : Option (CalledParts T)) → ((g : GNo) → held_number (option_map plain_held h) ≡ Some g → IsRunning k.book.state.table g m)
      → ((g : GNo) → called_number (option_map plain_called c) ≡ Some g → IsCalling k.book.state.table g m) → IsNone h ⊎ IsNone c
  by None c runs calls = inl refl
  by (Some h) None runs calls = inr refl
  by (Some h) (Some c) runs calls =
      let order : IsInOrder k.book.limits k.book.state = legal_in_order k.book.limits k.book.bodies k.book.capacities k.book.history k.book.state s.within s.legal in
      let run = runs h.g refl in
      let call = calls c.g refl in
      let same : h.g ≡ c.g = order.together.one_goroutine m h.g c.g (inl run) (inr call) in
      absurd (no_both m _ (subst (λ (g : GNo). IsRunning k.book.state.table g m) same run) call)

-- Two machines

module _ {T : Type 0} (out : List Entry) (c : Parts T) (m : MNo) (x : Machine T Unit) (is : slice_get c.machines m.0 ≡ Some x) (s : IsSound (joined_system_of out c)) where
  numbered : (n : MNo) (y : Machine T Unit) → slice_get c.machines n.0 ≡ Some y → Agrees (joined_system_of out c).book n (plain_machine y)
  numbered n y at = agrees out c n y at s

  has_body : (n : MNo) (y : Machine T Unit) → slice_get c.machines n.0 ≡ Some y → (i : ℕ) → IsSome (body_in y.hand i) → HasInHand (system_of c) n (record { 0 = i })
  has_body n y at i some = subst (λ (p : PlainMachine). (held_number p.hand.held ≡ Some (record { 0 = i })) ⊎ (called_number p.hand.called ≡ Some (record { 0 = i }))) (sym (machine_is c n y at)) (body_is y.hand.held y.hand.called i some)

  pub bodies_apart : (n i : ℕ) (y : Machine T Unit) → n ≢ m.0 → slice_get c.machines n ≡ Some y → IsSome (body_in y.hand i) → body_in x.hand i ≡ None
  bodies_apart n i y ne at some =
      apart (body_in x.hand i) (body_in y.hand i)
      (λ mine its. ne (ap (λ (j : MNo). j.0) ((headline_of (joined_system_of out c) s).held_once (record { 0 = n }) m (record { 0 = i }) (has_body (record { 0 = n }) y at i its) (has_body m x is i mine)))) some

  pub owners_apart : (n i : ℕ) (y : Machine T Unit) → n ≢ m.0 → slice_get c.machines n ≡ Some y → IsSome (owner_in y.hand i) → owner_in x.hand i ≡ None
  owners_apart n i y ne at some =
      let number : MNo = record { 0 = n } in
      let p : PNo = record { 0 = i } in
      apart (owner_in x.hand i) (owner_in y.hand i)
      (λ mine its.
      let a : Holds (system_of c).book.state.machines number p = (numbered number y at).has.holds p (processor_is y.hand.processor i its) in
      let b : Holds (system_of c).book.state.machines m p = (numbered m x is).has.holds p (processor_is x.hand.processor i mine) in
      let same : Some (Some number) ≡ Some (Some m) = sym a ∙ b in
      let one : number ≡ m = cc in
      ne (ap (λ (j : MNo). j.0) one))
      some

-- One act

same_values : {X : Type 0} (f f' : ℕ → Option X) (old now : List (Option X)) → ((i : ℕ) → f' i ≡ f i) → now ≡ old → AreOut f old → KeepsValues f f' old now
same_values f f' old now hand places out = record {
  count = ap length places;
  same = λ i. rw (places, hand i) refl;
  out = λ i some. rw places (out i (subst IsSome (hand i) some));
  rest = λ i none none'. rw places refl;
}

module _ {T : Type 0} (c : Parts T) (m : MNo) (x : Machine T Unit) (choice : Choice) (now : Desk T) (is : slice_get c.machines m.0 ≡ Some x) (core : IsCore c)
    (turn_kept : (asked : Call) (result : Result Reply Refusal) → next_act x ≡ act.Call asked → Turns x c.book asked choice.word result now.machine now.book
    → KeepsValues (body_in x.hand) (body_in now.machine.hand) c.book.bodies now.book.bodies × KeepsValues (owner_in x.hand) (owner_in now.machine.hand) c.book.owners now.book.owners)
    (given_kept : (which : Option Value) (result : Result Unit Refusal) → next_act x ≡ act.Surrender which → Surrenders x c.book which result now.machine now.book
    → KeepsValues (body_in x.hand) (body_in now.machine.hand) c.book.bodies now.book.bodies × KeepsValues (owner_in x.hand) (owner_in now.machine.hand) c.book.owners now.book.owners) where
  abbrev old : Desk T
  old = record { machine = x; book = c.book; rings = c.rings }

  abbrev c' : Parts T
  c' = parts_after c m now

  abbrev Kept : Type 0
  Kept = KeepsValues (body_in x.hand) (body_in now.machine.hand) c.book.bodies now.book.bodies × KeepsValues (owner_in x.hand) (owner_in now.machine.hand) c.book.owners now.book.owners

  kept_by : KeepsHand x.hand now.machine.hand → now.book ≡ c.book → Kept
  kept_by hand book = (
    same_values (body_in x.hand) (body_in now.machine.hand) c.book.bodies now.book.bodies
        (λ i. ap (λ (h : Option (HeldParts T)). first_of (held_body h i) (called_body now.machine.hand.called i)) hand.held ∙ ap (λ (h : Option (CalledParts T)). first_of (held_body x.hand.held i) (called_body h i)) hand.called)
        (ap (λ (b : BookContents T Unit). b.bodies) book) (core.bodies m.0 x is),
    same_values (owner_in x.hand) (owner_in now.machine.hand) c.book.owners now.book.owners (λ i. ap (λ (p : Option (ProcParts Unit)). proc_owner p i) hand.processor)
        (ap (λ (b : BookContents T Unit). b.owners) book) (core.owners m.0 x is),
  )

  kept_told : (what : Machine T Unit) → what.hand ≡ x.hand → now ≡ record old { machine = what } → Kept
  kept_told what hand e =
      let same : now.machine.hand ≡ x.hand = ap (λ (d : Desk T). d.machine.hand) e ∙ hand in
      kept_by (record { processor = ap (λ (h : Registers T Unit). h.processor) same; held = ap (λ (h : Registers T Unit). h.held) same; called = ap (λ (h : Registers T Unit). h.called) same }) (ap (λ (d : Desk T). d.book) e)

  keeps : (a : Act) → next_act x ≡ a → Does a m choice old now → Kept
  keeps (act.Call asked) next d = turn_kept asked d.0 next d.1
  keeps act.Pop next d = kept_by d.hand d.book
  keeps act.Drain next d = kept_by d.hand d.book
  keeps act.Push next d = kept_by d.hand d.book
  keeps act.Hunt next d = kept_by d.hand d.book
  keeps (act.Steal v) next d = kept_by d.hand d.book
  keeps act.Resume next d = kept_told _ refl d
  keeps act.Block next d = kept_told _ refl d
  keeps (act.Clock minded) next d = kept_told _ refl d
  keeps (act.Surrender which) next d = given_kept which d.0 next d.1
  keeps act.Nothing next d = kept_told x refl d

  room_same : (a : Act) → Does a m choice old now → now.rings.room ≡ c.rings.room
  room_same (act.Call asked) d = ap (λ (r : Rings). r.room) d.2
  room_same act.Pop d = d.room
  room_same act.Drain d = d.room
  room_same act.Push d = d.room
  room_same act.Hunt d = d.room
  room_same (act.Steal v) d = d.room
  room_same act.Resume d = ap (λ (e : Desk T). e.rings.room) d
  room_same act.Block d = ap (λ (e : Desk T). e.rings.room) d
  room_same (act.Clock minded) d = ap (λ (e : Desk T). e.rings.room) d
  room_same (act.Surrender which) d = ap (λ (r : Rings). r.room) d.2
  room_same act.Nothing d = ap (λ (e : Desk T). e.rings.room) d

  -- an entry is added only where there is room for it
  few_by_turn : (asked : Call) (result : Result Reply Refusal) → Turns x c.book asked choice.word result now.machine now.book → length now.book.log.history ≤ now.book.log.limits.room
  few_by_turn asked (Ok answer) t =
      let free : length c.book.log.history < c.book.log.limits.room = room_of c.book.log t.before asked _ (no_refusal _ _ answer t.refused) in
      let longer : length now.book.log.history ≡ length c.book.log.history + 1 = ap (λ (l : List Entry). length l) t.records.entry ∙ length_push c.book.log.history _ in
      let same : now.book.log.limits.room ≡ c.book.log.limits.room = ap (λ (l : Log). l.limits.room) t.records.opened in
      omega (arith, free, longer, same)
  few_by_turn asked (Err why) t = subst (λ (b : BookContents T Unit). length b.log.history ≤ b.log.limits.room) (sym t.err.0) core.few

  few_of : now.book ≡ c.book → length now.book.log.history ≤ now.book.log.limits.room
  few_of same = subst (λ (b : BookContents T Unit). length b.log.history ≤ b.log.limits.room) (sym same) core.few

  few_after : (a : Act) → Does a m choice old now → length now.book.log.history ≤ now.book.log.limits.room
  few_after (act.Call asked) d = few_by_turn asked d.0 d.1
  few_after act.Pop d = few_of d.book
  few_after act.Drain d = few_of d.book
  few_after act.Push d = few_of d.book
  few_after act.Hunt d = few_of d.book
  few_after (act.Steal v) d = few_of d.book
  few_after act.Resume d = few_of (ap (λ (e : Desk T). e.book) d)
  few_after act.Block d = few_of (ap (λ (e : Desk T). e.book) d)
  few_after (act.Clock minded) d = few_of (ap (λ (e : Desk T). e.book) d)
  few_after (act.Surrender which) d =
      subst (λ (l : Log). length l.history ≤ l.limits.room)
      (sym (ap (λ (b : BookContents T Unit). b.log) d.1.places ∙ log_after which d.0 (surrendered x d.1.before which) c.book)) core.few
  few_after act.Nothing d = few_of (ap (λ (e : Desk T). e.book) d)

  by_turn : (asked : Call) (result : Result Reply Refusal) → Turns x c.book asked choice.word result now.machine now.book → now.book.log.stopped ≡ c.book.log.stopped
  by_turn asked (Ok answer) t = ap (λ (l : Log). l.stopped) t.records.opened
  by_turn asked (Err why) t = ap (λ (b : BookContents T Unit). b.log.stopped) t.err.0

  stopped_same : (a : Act) → Does a m choice old now → now.book.log.stopped ≡ c.book.log.stopped
  stopped_same (act.Call asked) d = by_turn asked d.0 d.1
  stopped_same act.Pop d = ap (λ (b : BookContents T Unit). b.log.stopped) d.book
  stopped_same act.Drain d = ap (λ (b : BookContents T Unit). b.log.stopped) d.book
  stopped_same act.Push d = ap (λ (b : BookContents T Unit). b.log.stopped) d.book
  stopped_same act.Hunt d = ap (λ (b : BookContents T Unit). b.log.stopped) d.book
  stopped_same (act.Steal v) d = ap (λ (b : BookContents T Unit). b.log.stopped) d.book
  stopped_same act.Resume d = ap (λ (e : Desk T). e.book.log.stopped) d
  stopped_same act.Block d = ap (λ (e : Desk T). e.book.log.stopped) d
  stopped_same (act.Clock minded) d = ap (λ (e : Desk T). e.book.log.stopped) d
  stopped_same (act.Surrender which) d =
      ap (λ (b : BookContents T Unit). b.log.stopped) d.1.places ∙ ap (λ (l : Log). l.stopped) (log_after which d.0 (surrendered x d.1.before which) c.book)
  stopped_same act.Nothing d = ap (λ (e : Desk T). e.book.log.stopped) d

  module _ (acts : Acts (system_of c) m choice (system_of c')) (d : Does (next_act x) m choice old now) where
    joined_acts : Acts (joined_system_of core.out c) m choice (joined_system_of core.out c')
    joined_acts = acts_before core.out (system_of c) m choice (system_of c') acts

    sound' : IsSound (joined_system_of core.out c')
    sound' = act_sound (joined_system_of core.out c) m choice (joined_system_of core.out c') joined_acts core.sound

    here' : slice_get c'.machines m.0 ≡ Some now.machine
    here' = same_at c.machines m.0 now.machine x is

    kept : Kept
    kept = keeps (next_act x) refl d

    apart_bodies : (n i : ℕ) (y : Machine T Unit) → n ≢ m.0 → slice_get c.machines n ≡ Some y → IsSome (body_in y.hand i) → (body_in x.hand i ≡ None) × (body_in now.machine.hand i ≡ None)
    apart_bodies n i y ne at some =
        (bodies_apart core.out c m x is core.sound n i y ne at some, bodies_apart core.out c' m now.machine here' sound' n i y ne (other_set c.machines m.0 n now.machine y ne at) some)

    apart_owners : (n i : ℕ) (y : Machine T Unit) → n ≢ m.0 → slice_get c.machines n ≡ Some y → IsSome (owner_in y.hand i) → (owner_in x.hand i ≡ None) × (owner_in now.machine.hand i ≡ None)
    apart_owners n i y ne at some =
        (owners_apart core.out c m x is core.sound n i y ne at some, owners_apart core.out c' m now.machine here' sound' n i y ne (other_set c.machines m.0 n now.machine y ne at) some)

    core_after : IsCore c'
    core_after =
        let opened = act_opened (system_of c) m choice (system_of c') acts in
        record {
          out = core.out;
          sound = sound';
          watchful = act_watchful (joined_system_of core.out c) m choice (joined_system_of core.out c') joined_acts core.sound core.watchful;
          bodies = out_same (λ (y : Machine T Unit). body_in y.hand) c.machines m.0 x now.machine c.book.bodies now.book.bodies is kept.0 apart_bodies core.bodies;
          owners = out_same (λ (y : Machine T Unit). owner_in y.hand) c.machines m.0 x now.machine c.book.owners now.book.owners is kept.1 apart_owners core.owners;
          tickets_room = room_same (next_act x) d ∙ core.tickets_room ∙ sym opened.bodies;
          few = few_after (next_act x) d;
          lasts = stopped_same (next_act x) d ∙ core.lasts;
          fits = core.fits;
        }

    stock_after : stock_of c'.machines c'.book.bodies ≡ stock_of c.machines c.book.bodies
    stock_after = stock_same (λ (y : Machine T Unit). body_in y.hand) c.machines m.0 x now.machine c.book.bodies now.book.bodies is kept.0 apart_bodies

    pub kept_after : IsCore c' × (stock_of c'.machines c'.book.bodies ≡ stock_of c.machines c.book.bodies)
    kept_after = (core_after, stock_after)
