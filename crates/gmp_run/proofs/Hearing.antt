-- What was said grows with each turn of a machine on the board.
use Rattle.std.specs.Prelude.{◌||◌}
use Rattle.std.proofs.Common.{if◌then◌else◌, ◌≡◌, ◌⊎◌, inl, inr, ℕ, ◌+◌, Bool, true, false, List, [], ◌∷◌, ◌++◌, Option, None, Some, IsSome, is_some, Result, Ok, Err, slice_get, slice_set, refl, sym, ap, subst, ◌∙◌, arith}
use Rattle.std.proofs.lemmas.Bool.{false≢true, not-false}
use Rattle.std.specs.Option.{option_map, option_map_or}
use Rattle.gmp_base.specs.declared.ask.Woke.{Woke}
use Rattle.gmp_base.specs.declared.number.GNo.{GNo}
use Rattle.gmp_base.specs.declared.number.MNo.{MNo}
use Rattle.gmp_base.specs.declared.refusal.Refusal.{Refusal}
use Rattle.gmp_base.specs.declared.refusal.Refusal.TheVariants as refusal
use Rattle.gmp_base.specs.declared.pass.Pass.{Pass}
use Rattle.gmp_base.specs.declared.value.Called.{Called}
use Rattle.gmp_base.specs.declared.value.Held.{Held}
use Rattle.gmp_seq.specs.declared.call.Call.{Call}
use Rattle.gmp_seq.specs.declared.call.Entry.{Entry}
use Rattle.gmp_seq.specs.declared.call.Limits.{Limits}
use Rattle.gmp_seq.specs.declared.call.Outcome.{Outcome}
use Rattle.gmp_seq.specs.declared.call.Reply.{Reply}
use Rattle.gmp_seq.specs.Needs.{WantsMemory}
use Rattle.gmp_journal.specs.declared.handed.Handed.{Handed}
use Rattle.gmp_journal.specs.Log.{Log, is_over}
use Rattle.gmp_journal.specs.Refusals.{Line, Says, first_refusal, need_lines, refusal_of, room_lines, turn_lines}
use Rattle.gmp_journal.proofs.Lines.{none_holds}
use Rattle.gmp_book.specs.Book.{BookContents, surrender_lines}
use Rattle.gmp_driver.specs.declared.act.Act.TheVariants as act
use Rattle.gmp_driver.specs.declared.act.Told.{Told}
use Rattle.gmp_driver.specs.declared.act.Told.TheVariants as told
use Rattle.gmp_driver.specs.declared.act.Value.{Value}
use Rattle.gmp_driver.specs.declared.act.Value.TheVariants as value
use Rattle.gmp_driver.specs.declared.place.Place.{Place}
use Rattle.gmp_driver.specs.declared.place.Place.TheVariants as place
use Rattle.gmp_driver.specs.declared.registers.CalledParts.{CalledParts}
use Rattle.gmp_driver.specs.declared.registers.HeldParts.{HeldParts}
use Rattle.gmp_driver.specs.declared.seen.Seen.{Seen}
use Rattle.gmp_driver.specs.Fits.{SuitsPlace}
use Rattle.gmp_driver.specs.Loads.{called_of, held_of}
use Rattle.gmp_driver.specs.Machine.{Machine}
use Rattle.gmp_driver.specs.Registers.{but}
use Rattle.gmp_driver.specs.Seen.{seen}
use Rattle.gmp_driver.specs.Table.{next_act, next_place}
use Rattle.gmp_driver.proofs.Uses.{uses}
use Rattle.gmp_acts.specs.Hands.{PlainHand, PlainMachine, hand_after, plain, plain_called, plain_held, plain_machine}
use Rattle.gmp_acts.specs.Sound.{IsEnd}
use Rattle.gmp_acts.specs.System.{called_number, held_number}
use Rattle.gmp_acts.proofs.Plain.{fits_plain}
use Rattle.gmp_turn.specs.Surrenders.{Surrenders, body_refusal, told_back}
use Rattle.gmp_turn.specs.Turns.{Turns}
use Rattle.gmp_turn.specs.Values.{KeepsValues, body_in}
use Rattle.gmp_turn.proofs.Ending.{at_over, log_after}
use Rattle.gmp_turn.proofs.Giving.{given}
use Rattle.gmp_turn.proofs.Keeping.{stay}
use Rattle.gmp_said.specs.Said.{Blocks, IsLast, IsSaid, Resumes, Speaker}
use Rattle.gmp_said.specs.Standing.{AreInside, HandSaid, HandStands, HasExactly, Owns, StandsLast, StandsSo, hand_refused, woke_in}
use Rattle.gmp_said.proofs.Entering.{leads}
use Rattle.gmp_said.proofs.Hands.{KeepsGoroutines}
use Rattle.gmp_said.proofs.Owning.{bystander_has, caller_has, exactly, known_last, plain_calling, plain_running}
use Rattle.gmp_said.proofs.Refusing.{given_in, passes, refused_numbers}
use Rattle.gmp_said.proofs.Standing.{last_of, plain_in, plain_woke}
use Rattle.gmp_said.proofs.Turning.{AreHome, Turned, given_up, left_alone}
use Rattle.gmp_said.proofs.Turns.{says_more, says_on}
use Rattle.gmp_run.specs.Boards.{IsOn}
use Rattle.gmp_run.specs.Bodies.{ArePlaced, HandLed, HoldsOne}
use Rattle.gmp_run.specs.Speakers.{AreHeard}
use Rattle.gmp_run.proofs.Holding.{plain_one}
use Rattle.gmp_run.proofs.Making.{makes, next_plain, refused_back, turned_down}
use Rattle.gmp_run.proofs.Places.{apart_now, elsewhere, here_or, still_out}

-- Why a call is refused

-- no line says so
abbrev NoneSays : Refusal → List Line → Type 0
NoneSays why [] = Unit {0}
NoneSays why (l ∷ ls) = (l.why ≡ why → ⊥) × NoneSays why ls

never : (why : Refusal) (ls : List Line) → NoneSays why ls → first_refusal ls ≡ Some why → ⊥
never why [] none e = let wrong : None ≡ Some why = e in cc
never why (l ∷ ls) none e = by l.test e (never why ls none.1) where
  by : (b : Bool) → (if b then Some l.why else first_refusal ls) ≡ Some why → (first_refusal ls ≡ Some why → ⊥) → ⊥
  by true e rest = none.0 (let same : Some l.why ≡ Some why = e in cc)
  by false e rest = rest e

over_is : (o : Option Outcome) (stopped : Bool) → o ≡ None → stopped ≡ false → (is_some o || stopped) ≡ false
over_is o stopped none goes = rw (none, goes) refl

-- a run that is not over has no outcome
lasts_so : (o : Option Outcome) (stopped : Bool) → (is_some o || stopped) ≡ false → o ≡ None
lasts_so None stopped e = refl
lasts_so (Some x) stopped e = absurd (false≢true (sym e))

module _ (log : Log) (pass : Pass) (c : Call) (values : Handed) where
  not_memory : refusal_of log pass c values ≡ Some refusal.OutOfMemory → ⊥
  not_memory = never refusal.OutOfMemory (turn_lines log pass values ++ need_lines log.state pass.m c values ++ room_lines log)
      (λ e. cc, (λ e. cc, (λ e. cc, (λ e. cc, (λ e. cc, (λ e. cc, (λ e. cc, (λ e. cc, (λ e. cc, tt)))))))))

  -- want of memory is told while the run goes on, of a call that wants it
  wants_so : (wants : Type 0) → (why : Refusal) → Says wants (refusal_of log pass c values) (Some why) → why ≡ refusal.OutOfMemory → (is_over log ≡ false) × wants
  wants_so wants why says is = by (refusal_of log pass c values) refl says where
    by : (o : Option Refusal) → refusal_of log pass c values ≡ o → Says wants o (Some why) → (is_over log ≡ false) × wants
    by None lines (inl none) = absurd (let wrong : Some why ≡ None = none in cc)
    by None lines (inr (e, wanted)) =
        let held = none_holds (turn_lines log pass values ++ need_lines log.state pass.m c values ++ room_lines log) lines in
        (held.1.1.1.0, wanted)
    by (Some first) lines e = absurd (not_memory (lines ∙ (sym e ∙ ap (λ (r : Refusal). Some r) is)))

-- A value was given back while the run is over, or none

module _ {T Q : Type 0} (book : BookContents T Q) where
  over_where : (run g : ℕ) → None ≡ body_refusal book run g → is_over book.log ≡ true
  over_where run g e =
      let held = none_holds (surrender_lines book.log run _ _) (sym e) in
      not-false (is_over book.log) held.1.0

  held_given : (run : ℕ) (o : Option (HeldParts T)) → None ≡ option_map_or (λ (h : Held T). body_refusal book h.run h.g.0) (option_map (held_of run) o) None → (o ≡ None) ⊎ (is_over book.log ≡ true)
  held_given run None e = inl refl
  held_given run (Some h) e = inr (over_where run h.g.0 e)

  called_given : (run : ℕ) (o : Option (CalledParts T)) → None ≡ option_map_or (λ (c : Called T). body_refusal book c.run c.g.0) (option_map (called_of run) o) None → (o ≡ None) ⊎ (is_over book.log ≡ true)
  called_given run None e = inl refl
  called_given run (Some c) e = inr (over_where run c.g.0 e)

-- at Over it is told anything, and stays there or is done
end_stays : (s : Seen) (what : Told) → IsEnd (next_place s place.Over what)
end_stays s told.Nothing = tt
end_stays s (told.Refused refusal.Over) = tt
end_stays s _ = tt

-- One machine on the board

module _ {T Q : Type 0} (resumes : Resumes T) (blocks : Blocks T) (given : List T) (machines : ℕ) (board : List (Machine T Q)) (at : ℕ) (left x : Machine T Q) (there : slice_get board at ≡ Some left)
    (led : HandLed resumes blocks left.hand x.hand) (said : HandSaid resumes blocks left.place left.hand x.place x.hand) where
  abbrev pub Heard : Log → List (Machine T Q) → List (Option T) → List Entry → Type 0
  Heard log all places h = AreHeard resumes blocks given machines log all places h

  abbrev OwnsAt : Log → ℕ → Machine T Q → Type 0
  OwnsAt log m z = Owns (is_over log) log.state.table (record { 0 = m }) (held_number z.hand.held) (called_number z.hand.called)

  module _ (log : Log) (places : List (Option T)) (h : List Entry) (heard : Heard log board places h) where
    -- it acted by itself since it left the lock
    pub mine : HandStands resumes blocks heard.speakers x.place x.hand
    mine i c e =
        let was = said.said i c e in
        let own = heard.in_hand at left there i was.0 was.1 in
        (own.0, own.1, was.2 own.0 own.2)

    pub owns : (m : ℕ) → m + (at + 1) ≡ machines → OwnsAt log m x
    owns m its =
        subst (λ (o : Option GNo). Owns (is_over log) log.state.table (record { 0 = m }) o (called_number x.hand.called)) (sym said.held)
        (subst (λ (o : Option GNo). Owns (is_over log) log.state.table (record { 0 = m }) (held_number left.hand.held) o) (sym said.called) (heard.owns m left (at, its, there)))

    -- It makes a turn.
    module _ (are : ArePlaced resumes blocks given board places) (x' : Machine T Q) (log' : Log) (places' : List (Option T)) (kept : KeepsValues (body_in x.hand) (body_in x'.hand) places places') (one : HoldsOne x'.hand)
        (now : List (Speaker T)) (turned : Turned resumes blocks x.place x'.place x.hand x'.hand places places' kept heard.speakers (is_over log') log'.state.table now)
        (h' : List Entry) (says : IsSaid resumes blocks log'.limits log'.capacities given h' log'.state now) (own : (m : ℕ) → m + (at + 1) ≡ machines → OwnsAt log' m x')
        (others : (n : ℕ) (place : ℕ) (z : Machine T Q) → n + (place + 1) ≡ machines → (at ≡ place → ⊥) → OwnsAt log n z → OwnsAt log' n z) where
      pub hears : Heard log' (slice_set board at x') places' h'
      hears = record { speakers = now; said = says; inside = turned.inside; in_hand = in_hand; owns = owns' } where
        in_hand : (p : ℕ) (z : Machine T Q) → slice_get (slice_set board at x') p ≡ Some z → HandStands resumes blocks now z.place z.hand
        in_hand p z found i b e = by (here_or resumes blocks given board at left there places x.hand led are x' places' kept one p z found) where
          by : ((at ≡ p) × (x' ≡ z)) ⊎ ((at ≡ p → ⊥) × (slice_get board p ≡ Some z)) → (s : Speaker T) × (slice_get now i ≡ Some s) × StandsSo resumes blocks z.place (woke_in z.hand i) s b
          by (inl (here, same)) =
              subst (λ (y : Machine T Q). body_in y.hand i ≡ Some b → (s : Speaker T) × (slice_get now i ≡ Some s) × StandsSo resumes blocks y.place (woke_in y.hand i) s b) same (turned.mine i b) e
          by (inr (apart, before)) =
              let was = heard.in_hand p z before i b e in
              let some : IsSome (body_in z.hand i) = ap is_some e in
              let none = elsewhere resumes blocks given board at left there places x.hand led are p z apart before i some in
              let none' = apart_now resumes blocks given board at left there places x.hand led are x' places' kept one p z apart before i some in
              (was.0, turned.others i none none' ∙ was.1, was.2)

        owns' : (n : ℕ) (z : Machine T Q) → IsOn machines (slice_set board at x') n z → OwnsAt log' n z
        owns' n z (place, its, found) = by (here_or resumes blocks given board at left there places x.hand led are x' places' kept one place z found) where
          by : ((at ≡ place) × (x' ≡ z)) ⊎ ((at ≡ place → ⊥) × (slice_get board place ≡ Some z)) → OwnsAt log' n z
          by (inl (here, same)) = subst (λ (y : Machine T Q). OwnsAt log' n y) same (own n (subst (λ (k : ℕ). n + (k + 1) ≡ machines) (sym here) its))
          by (inr (apart, before)) = others n place z its apart (heard.owns n z (place, its, before))

    -- each body in the book is as its last call left it
    pub home : (x' : Machine T Q) (places' : List (Option T)) (kept : KeepsValues (body_in x.hand) (body_in x'.hand) places places') → is_over log ≡ false → AreHome resumes blocks x.place x'.place x.hand x'.hand places places' kept heard.speakers
    home x' places' kept lasts i b e = by (heard.inside i b e) where
      by : (s : Speaker T) × (slice_get heard.speakers i ≡ Some s) × ((s.body ≡ b) ⊎ ((is_over log ≡ true) × IsLast resumes blocks log.state.table (record { 0 = i }) s b)) → (s : Speaker T) × (slice_get heard.speakers i ≡ Some s) × (s.body ≡ b)
      by (s, has, inl as_was) = (s, has, as_was)
      by (s, has, inr later) = absurd (false≢true (sym lasts ∙ later.0))

-- What is left in hand once this value was given back
but_runs : (v : Value) (hand : PlainHand) (g : GNo) → held_number (but (Some v) hand).held ≡ Some g → held_number hand.held ≡ Some g
but_runs value.Held hand g e = absurd (let wrong : None ≡ Some g = e in cc)
but_runs value.Called hand g e = e
but_runs value.ToClaim hand g e = e
but_runs value.ToStore hand g e = e
but_runs value.Proc hand g e = e

but_calls : (v : Value) (hand : PlainHand) (g : GNo) → called_number (but (Some v) hand).called ≡ Some g → called_number hand.called ≡ Some g
but_calls value.Called hand g e = absurd (let wrong : None ≡ Some g = e in cc)
but_calls value.Held hand g e = e
but_calls value.ToClaim hand g e = e
but_calls value.ToStore hand g e = e
but_calls value.Proc hand g e = e

module _ {T Q : Type 0} (resumes : Resumes T) (blocks : Blocks T) (given_bodies : List T) (machines : ℕ) (board : List (Machine T Q)) (at : ℕ) (left x : Machine T Q) (there : slice_get board at ≡ Some left)
    (led : HandLed resumes blocks left.hand x.hand) (said : HandSaid resumes blocks left.place left.hand x.place x.hand) (x' : Machine T Q) (book book' : BookContents T Q) (are : ArePlaced resumes blocks given_bodies board book.bodies)
    (kept : KeepsValues (body_in x.hand) (body_in x'.hand) book.bodies book'.bodies) (one : HoldsOne x'.hand) (h : List Entry) (heard : AreHeard resumes blocks given_bodies machines book.log board book.bodies h) where
  abbrev Now : Log → List (Option T) → List Entry → Type 0
  Now log places all = AreHeard resumes blocks given_bodies machines log (slice_set board at x') places all

  abbrev Numbers : Log → ℕ → Machine T Q → Type 0
  Numbers log m z = Owns (is_over log) log.state.table (record { 0 = m }) (held_number z.hand.held) (called_number z.hand.called)

  own_mine : HandStands resumes blocks heard.speakers x.place x.hand
  own_mine = mine resumes blocks given_bodies machines board at left x there led said book.log book.bodies h heard

  own_owns : (m : ℕ) → m + (at + 1) ≡ machines → Numbers book.log m x
  own_owns = owns resumes blocks given_bodies machines board at left x there led said book.log book.bodies h heard

  -- the same numbers are in hand
  renumbered : (log : Log) (m : ℕ) → held_number (plain x'.hand).held ≡ held_number (plain x.hand).held → called_number (plain x'.hand).called ≡ called_number (plain x.hand).called → Numbers log m x → Numbers log m x'
  renumbered log m running calling its =
      subst (λ (o : Option GNo). Owns (is_over log) log.state.table (record { 0 = m }) o (called_number x'.hand.called)) (sym (sym (plain_running x'.hand.held) ∙ (running ∙ plain_running x.hand.held)))
      (subst (λ (o : Option GNo). Owns (is_over log) log.state.table (record { 0 = m }) (held_number x.hand.held) o) (sym (sym (plain_calling x'.hand.called) ∙ (calling ∙ plain_calling x.hand.called))) its)

  -- Its call was made

  pub heard_call : (asked : Call) (word : ℕ) (answer : Reply) → next_act x ≡ act.Call asked → SuitsPlace x.place x.hand → (t : Turns x book asked word (Ok answer) x' book') → t.before.m.0 + (at + 1) ≡ machines
      → slice_get book.log.state.counts t.before.m.0 ≡ Some t.before.calls → Now book'.log book'.bodies (h ++ record { m = t.before.m; k = t.before.calls; call = asked; reply = answer } ∷ [])
  heard_call asked word answer is fits t its number =
      let made = makes x x' book book' asked word answer is fits t in
      let e : Entry = record { m = t.before.m; k = t.before.calls; call = asked; reply = answer } in
      let lasts : is_over book.log ≡ false = over_is book.log.state.outcome book.log.stopped t.records.step.0 t.records.lasts in
      let own = own_owns t.before.m.0 its in
      let goes = ap (λ (y : PlainMachine). y.place) made.machine in
      let hands : plain x'.hand ≡ hand_after book.log.state.table asked answer (plain x.hand) = ap (λ (y : PlainMachine). y.hand) made.machine in
      let lead = leads resumes blocks x x' t.before.m asked answer book.log.state.table is fits (seen (record (plain_machine x) { hand = hand_after book.log.state.table asked answer (plain x.hand) })) goes hands book.bodies book'.bodies kept heard.speakers own_mine
      (home resumes blocks given_bodies machines board at left x there led said book.log book.bodies h heard x' book'.bodies kept lasts) own.0.0 own.0.1 (is_over book'.log) book'.log.state.table in
      let says = says_more resumes blocks book.log.limits book.log.capacities given_bodies h book.log.state heard.speakers lead.0 heard.said e book'.log.state (number, t.records.step) lead.1 in
      let limits : book'.log.limits ≡ book.log.limits = ap (λ (l : Log). l.limits) t.records.opened in
      let capacities : book'.log.capacities ≡ book.log.capacities = ap (λ (l : Log). l.capacities) t.records.opened in
      let says' : IsSaid resumes blocks book'.log.limits book'.log.capacities given_bodies (h ++ e ∷ []) book'.log.state lead.0 =
      subst (λ (l : Limits). IsSaid resumes blocks l book'.log.capacities given_bodies (h ++ e ∷ []) book'.log.state lead.0) (sym limits)
      (subst (λ (cs : List ℕ). IsSaid resumes blocks book.log.limits cs given_bodies (h ++ e ∷ []) book'.log.state lead.0) (sym capacities) says) in
      let used = uses (plain_machine x) asked (next_plain x ∙ is) (fits_plain x.hand x.place fits) in
      let exact : HasExactly book.log.state.table t.before.m (held_number (plain x.hand).held) (called_number (plain x.hand).called) =
      subst (λ (o : Option GNo). HasExactly book.log.state.table t.before.m o (called_number (plain x.hand).called)) (sym (plain_running x.hand.held))
      (subst (λ (o : Option GNo). HasExactly book.log.state.table t.before.m (held_number x.hand.held) o) (sym (plain_calling x.hand.called)) (own.1 lasts)) in
      let after_call = caller_has book.log.limits t.before.m asked answer book.log.state book'.log.state (plain x.hand) used t.records.step.1 exact in
      let running : held_number (hand_after book.log.state.table asked answer (plain x.hand)).held ≡ held_number x'.hand.held = ap (λ (k : PlainHand). held_number k.held) (sym hands) ∙ plain_running x'.hand.held in
      let calling : called_number (hand_after book.log.state.table asked answer (plain x.hand)).called ≡ called_number x'.hand.called = ap (λ (k : PlainHand). called_number k.called) (sym hands) ∙ plain_calling x'.hand.called in
      let exact' : HasExactly book'.log.state.table t.before.m (held_number x'.hand.held) (called_number x'.hand.called) =
      subst (λ (o : Option GNo). HasExactly book'.log.state.table t.before.m o (called_number x'.hand.called)) running
      (subst (λ (o : Option GNo). HasExactly book'.log.state.table t.before.m (held_number (hand_after book.log.state.table asked answer (plain x.hand)).held) o) calling after_call) in
      hears resumes blocks given_bodies machines board at left x there led said book.log book.bodies h heard are x' book'.log book'.bodies kept one lead.0 lead.2 (h ++ e ∷ []) says'
      (λ m mine'. let same : t.before.m.0 ≡ m = omega (arith, its, mine') in
      subst (λ (n : ℕ). Numbers book'.log n x') same (exactly (is_over book'.log) book'.log.state.table t.before.m (held_number x'.hand.held) (called_number x'.hand.called) exact'))
      (λ n place z its' apart owns_z. exactly (is_over book'.log) book'.log.state.table (record { 0 = n }) (held_number z.hand.held) (called_number z.hand.called)
      (bystander_has book.log.limits t.before.m asked answer book.log.state book'.log.state (plain x.hand) used t.records.step.1 exact (record { 0 = n }) (held_number z.hand.held) (called_number z.hand.called)
      (λ e. apart (let same = ap (λ (m : MNo). m.0) e in omega (arith, same, its, its'))) (owns_z.1 lasts)))

  -- Its call was refused

  pub heard_refusal : (asked : Call) (word : ℕ) (why : Refusal) → next_act x ≡ act.Call asked → SuitsPlace x.place x.hand → (t : Turns x book asked word (Err why) x' book') → t.before.m.0 + (at + 1) ≡ machines → Now book'.log book'.bodies h
  heard_refusal asked word why is fits t its =
      let kept' : KeepsValues (body_in x.hand) (body_in x'.hand) book.bodies book.bodies = subst (λ (b : BookContents T Q). KeepsValues (body_in x.hand) (body_in x'.hand) book.bodies b.bodies) t.err.0 kept in
      let down = turned_down x x' book book' asked word why t in
      let goes = ap (λ (y : PlainMachine). y.place) down in
      let hands : plain x'.hand ≡ hand_refused asked why (plain x.hand) = ap (λ (y : PlainMachine). y.hand) down in
      let own = own_owns t.before.m.0 its in
      let pass = passes resumes blocks x x' t.before.m asked why book.log.limits book.log.state is fits (seen (record (plain_machine x) { hand = hand_refused asked why (plain x.hand) })) goes hands book.bodies kept' heard.speakers own_mine (is_over book.log) heard.inside own.0.0
      (λ out. let so = wants_so book.log t.before asked _ (WantsMemory book.log.limits asked book.log.state) why t.refused out in
      (so.0, lasts_so book.log.state.outcome book.log.stopped so.0, so.1)) in
      let says = says_on resumes blocks book.log.limits book.log.capacities given_bodies h book.log.state heard.speakers pass.0 heard.said pass.1 pass.2 pass.3 in
      let numbers = refused_numbers asked why (plain x.hand) in
      subst (λ (b : BookContents T Q). Now b.log b.bodies h) (sym t.err.0)
      (hears resumes blocks given_bodies machines board at left x there led said book.log book.bodies h heard are x' book.log book.bodies kept' one pass.0 pass.4 h says
      (λ m mine'. renumbered book.log m (ap (λ (k : PlainHand). held_number k.held) hands ∙ numbers.0) (ap (λ (k : PlainHand). called_number k.called) hands ∙ ap called_number numbers.1) (own_owns m mine'))
      (λ n place z its' apart owns_z. owns_z))

  -- It gave a value back

  abbrev Gives : Type 0
  Gives = IsEnd x'.place × (KeepsGoroutines (plain x.hand) (plain x'.hand) ⊎ ((is_over book.log ≡ true) × (v : Value) × (plain x'.hand ≡ but (Some v) (plain x.hand))))

  keeps_hand : (hand : PlainHand) → plain x'.hand ≡ hand → KeepsGoroutines (plain x.hand) hand → KeepsGoroutines (plain x.hand) (plain x'.hand)
  keeps_hand hand is same = subst (KeepsGoroutines (plain x.hand)) (sym is) same

  end_of : (s : Seen) (what : Told) → x.place ≡ place.Over → x'.place ≡ next_place s x.place what → IsEnd x'.place
  end_of s what over is = subst IsEnd (sym (is ∙ ap (λ (p : Place). next_place s p what) over)) (end_stays s what)

  gives_so : (which : Option Value) (result : Result Unit Refusal) → x.place ≡ place.Over → Surrenders x book which result x' book' → Gives
  gives_so which (Err why) over t =
      let down = refused_back x x' book book' which why t in
      (end_of (seen (plain_machine x)) (told_back which (Err why)) over (ap (λ (y : PlainMachine). y.place) down), inl (keeps_hand (plain x.hand) (ap (λ (y : PlainMachine). y.hand) down) (refl, refl)))
  gives_so None (Ok done) over t =
      let is = (given x x' book book' None t).0 in
      (end_of (seen (plain_machine x)) told.Nothing over (ap (λ (y : PlainMachine). y.place) is), inl (keeps_hand (plain x.hand) (ap (λ (y : PlainMachine). y.hand) is) (refl, refl)))
  gives_so (Some value.Held) (Ok done) over t =
      let is = (given x x' book book' (Some value.Held) t).0 in
      let hand : plain x'.hand ≡ but (Some value.Held) (plain x.hand) = ap (λ (y : PlainMachine). y.hand) is in
      (end_of (seen (record (plain_machine x) { hand = but (Some value.Held) (plain x.hand) })) told.Surrendered over (ap (λ (y : PlainMachine). y.place) is), by hand (held_given book x.run x.hand.held t.refused)) where
        by : (plain x'.hand ≡ but (Some value.Held) (plain x.hand)) → (x.hand.held ≡ None) ⊎ (is_over book.log ≡ true)
            → KeepsGoroutines (plain x.hand) (plain x'.hand) ⊎ ((is_over book.log ≡ true) × (v : Value) × (plain x'.hand ≡ but (Some v) (plain x.hand)))
        by hand (inl none) = inl (keeps_hand (but (Some value.Held) (plain x.hand)) hand (sym (ap (option_map plain_held) none), refl))
        by hand (inr ended) = inr (ended, value.Held, hand)
  gives_so (Some value.Called) (Ok done) over t =
      let is = (given x x' book book' (Some value.Called) t).0 in
      let hand : plain x'.hand ≡ but (Some value.Called) (plain x.hand) = ap (λ (y : PlainMachine). y.hand) is in
      (end_of (seen (record (plain_machine x) { hand = but (Some value.Called) (plain x.hand) })) told.Surrendered over (ap (λ (y : PlainMachine). y.place) is), by hand (called_given book x.run x.hand.called t.refused)) where
        by : (plain x'.hand ≡ but (Some value.Called) (plain x.hand)) → (x.hand.called ≡ None) ⊎ (is_over book.log ≡ true)
            → KeepsGoroutines (plain x.hand) (plain x'.hand) ⊎ ((is_over book.log ≡ true) × (v : Value) × (plain x'.hand ≡ but (Some v) (plain x.hand)))
        by hand (inl none) = inl (keeps_hand (but (Some value.Called) (plain x.hand)) hand (refl, sym (ap (option_map plain_called) none)))
        by hand (inr ended) = inr (ended, value.Called, hand)
  gives_so (Some value.ToClaim) (Ok done) over t =
      let is = (given x x' book book' (Some value.ToClaim) t).0 in
      (end_of (seen (record (plain_machine x) { hand = but (Some value.ToClaim) (plain x.hand) })) told.Surrendered over (ap (λ (y : PlainMachine). y.place) is), inl (keeps_hand (but (Some value.ToClaim) (plain x.hand)) (ap (λ (y : PlainMachine). y.hand) is) (refl, refl)))
  gives_so (Some value.ToStore) (Ok done) over t =
      let is = (given x x' book book' (Some value.ToStore) t).0 in
      (end_of (seen (record (plain_machine x) { hand = but (Some value.ToStore) (plain x.hand) })) told.Surrendered over (ap (λ (y : PlainMachine). y.place) is), inl (keeps_hand (but (Some value.ToStore) (plain x.hand)) (ap (λ (y : PlainMachine). y.hand) is) (refl, refl)))
  gives_so (Some value.Proc) (Ok done) over t =
      let is = (given x x' book book' (Some value.Proc) t).0 in
      (end_of (seen (record (plain_machine x) { hand = but (Some value.Proc) (plain x.hand) })) told.Surrendered over (ap (λ (y : PlainMachine). y.place) is), inl (keeps_hand (but (Some value.Proc) (plain x.hand)) (ap (λ (y : PlainMachine). y.hand) is) (refl, refl)))

  abbrev Back : Type 0
  Back = Turned resumes blocks x.place x'.place x.hand x'.hand book.bodies book'.bodies kept heard.speakers (is_over book.log) book.log.state.table heard.speakers × ((m : ℕ) → m + (at + 1) ≡ machines → Numbers book.log m x')

  back_so : HoldsOne x.hand → (n : ℕ) → n + (at + 1) ≡ machines → Gives → Back
  back_so one_before n its (end, inl same) = (
    left_alone resumes blocks x.place x'.place x.hand x'.hand book.bodies book'.bodies kept heard.speakers
        (λ i. sym (plain_in x'.hand i) ∙ (ap is_some (same_body i) ∙ plain_in x.hand i))
        (λ i s b stands. inr (end, subst (λ (w : Option Woke). StandsLast resumes blocks w s b) (sym (told_same i)) (last_of resumes blocks x.place (woke_in x.hand i) s b stands)))
        own_mine (is_over book.log) book.log.state.table heard.inside,
    λ m mine'. renumbered book.log m (ap held_number same.0) (ap called_number same.1) (own_owns m mine'),
  ) where
    same_body : (i : ℕ) → body_in (plain x'.hand) i ≡ body_in (plain x.hand) i
    same_body i = rw (same.0, same.1) refl

    plain_same : (i : ℕ) → woke_in (plain x'.hand) i ≡ woke_in (plain x.hand) i
    plain_same i = rw same.0 refl

    told_same : (i : ℕ) → woke_in x'.hand i ≡ woke_in x.hand i
    told_same i = sym (plain_woke x'.hand i) ∙ (plain_same i ∙ plain_woke x.hand i)
  back_so one_before n its (end, inr (ended, v, hand)) =
      let own = own_owns n its in (
        subst (λ (over : Bool). Turned resumes blocks x.place x'.place x.hand x'.hand book.bodies book'.bodies kept heard.speakers over book.log.state.table heard.speakers) (sym ended)
            (given_up resumes blocks x.place x'.place x.hand x'.hand book.bodies book'.bodies kept heard.speakers book.log.state.table end (λ i some. sym (plain_in x.hand i) ∙ (was i some).0)
            (λ i some. sym (plain_woke x'.hand i) ∙ (ap (λ (k : PlainHand). woke_in k i) hand ∙ ((was i some).1 ∙ plain_woke x.hand i))) own_mine
            (known_last resumes blocks book.log.state.table (record { 0 = n }) x.hand own.0)
            (subst (λ (over : Bool). AreInside resumes blocks over book.log.state.table heard.speakers book.bodies) ended heard.inside)),
        λ m mine'. (
          (
            λ g e. (own_owns m mine').0.0 g (sym (plain_running x.hand.held) ∙ but_runs v (plain x.hand) g (ap (λ (k : PlainHand). held_number k.held) (sym hand) ∙ (plain_running x'.hand.held ∙ e))),
            λ g e. (own_owns m mine').0.1 g (sym (plain_calling x.hand.called) ∙ but_calls v (plain x.hand) g (ap (λ (k : PlainHand). called_number k.called) (sym hand) ∙ (plain_calling x'.hand.called ∙ e))),
          ),
          λ goes. absurd (false≢true (sym goes ∙ ended)),
        ),
      ) where
        was : (i : ℕ) → IsSome (body_in x'.hand i) → IsSome (body_in (plain x.hand) i) × (woke_in (but (Some v) (plain x.hand)) i ≡ woke_in (plain x.hand) i)
        was i some = given_in (plain x.hand) (plain_one x.hand one_before) v i (ap (λ (k : PlainHand). is_some (body_in k i)) (sym hand) ∙ (plain_in x'.hand i ∙ some))

  pub heard_surrender : (which : Option Value) (result : Result Unit Refusal) → next_act x ≡ act.Surrender which → HoldsOne x.hand → (n : ℕ) → n + (at + 1) ≡ machines → Surrenders x book which result x' book' → Now book'.log book'.bodies h
  heard_surrender which result is one_before n its t =
      let same : book'.log ≡ book.log = ap (λ (b : BookContents T Q). b.log) t.places ∙ log_after which result _ book in
      let back = back_so one_before n its (gives_so which result (at_over (seen x) x.place which is).0 t) in
      subst (λ (l : Log). Now l book'.bodies h) (sym same)
      (hears resumes blocks given_bodies machines board at left x there led said book.log book.bodies h heard are x' book.log book'.bodies kept one heard.speakers back.0 h heard.said back.1
      (λ n place z its' apart owns_z. owns_z))

-- It was seen as it is now.
module _ {T Q : Type 0} (resumes : Resumes T) (blocks : Blocks T) (given_bodies : List T) (machines : ℕ) (board : List (Machine T Q)) (at : ℕ) (left x : Machine T Q) (there : slice_get board at ≡ Some left)
    (led : HandLed resumes blocks left.hand x.hand) (said : HandSaid resumes blocks left.place left.hand x.place x.hand) (log : Log) (places : List (Option T)) (h : List Entry) (heard : AreHeard resumes blocks given_bodies machines log board places h)
    (are : ArePlaced resumes blocks given_bodies board places) (one : HoldsOne x.hand) where
  kept : KeepsValues (body_in x.hand) (body_in x.hand) places places
  kept = stay (body_in x.hand) (body_in x.hand) places (λ i. refl) (still_out resumes blocks given_bodies board at left there places x.hand led are)

  pub heard_settled : AreHeard resumes blocks given_bodies machines log (slice_set board at x) places h
  heard_settled =
      hears resumes blocks given_bodies machines board at left x there led said log places h heard are x log places kept one heard.speakers
      (left_alone resumes blocks x.place x.place x.hand x.hand places places kept heard.speakers (λ i. refl) (λ i s b stands. stands)
      (mine resumes blocks given_bodies machines board at left x there led said log places h heard) (is_over log) log.state.table heard.inside)
      h heard.said (owns resumes blocks given_bodies machines board at left x there led said log places h heard) (λ n place z its apart owns_z. owns_z)
