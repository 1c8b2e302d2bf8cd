-- An act at a machine's desk, for the core as a whole.
use Rattle.std.proofs.Common.{rules, All, ◌≡◌, ◌≢◌, ◌⊎◌, inl, inr, ◌<◌, ◌||◌, Bool, true, false, not, [], length, get_or, refl, sym, ap, ◌∙◌, arith, Option, Some, None, IsSome, is_some, Result, Ok, ℕ, List, subst, ◌+◌, ◌++◌, ◌∷◌, Err}
use Rattle.std.proofs.lemmas.List.Elements.{All-append}
use Rattle.std.proofs.lemmas.List.{append_assoc, append_cancel_left, length-map, length_push}
use Rattle.std.proofs.lemmas.Option.{slice_get-get_or}
use Rattle.std.specs.List.{slice_get}
use Rattle.std.specs.Option.{option_map}
use Rattle.gmp_base.specs.declared.number.MNo.{MNo}
use Rattle.gmp_base.specs.declared.number.PNo.{PNo}
use Rattle.gmp_base.specs.declared.number.Readiness.{Readiness}
use Rattle.gmp_base.specs.declared.refusal.Refusal.{Refusal}
use Rattle.gmp_seq.specs.declared.call.Call.{Call}
use Rattle.gmp_seq.specs.declared.call.Entry.{Entry}
use Rattle.gmp_seq.specs.declared.call.Outcome.{Outcome}
use Rattle.gmp_seq.specs.declared.call.Reply.{Reply}
use Rattle.gmp_seq.specs.Fits.{Fits}
use Rattle.gmp_seq.specs.Needs.{WantsMemory}
use Rattle.gmp_seq.specs.Table.{is_outstanding, is_shelved}
use Rattle.gmp_table.specs.Kept.{IsListing}
use Rattle.gmp_goroutines.specs.Shelf.{Shelves}
use Rattle.gmp_journal.specs.Grants.{Chooses}
use Rattle.gmp_journal.specs.Log.{Log, is_over}
use Rattle.gmp_journal.specs.Segments.{handed_out}
use Rattle.gmp_book.specs.Book.{BookContents}
use Rattle.gmp_driver.specs.declared.act.Act.{Act}
use Rattle.gmp_driver.specs.declared.act.Act.TheVariants as act
use Rattle.gmp_driver.specs.declared.act.Value.{Value}
use Rattle.gmp_driver.specs.declared.load.Load.{Load}
use Rattle.gmp_driver.specs.declared.place.Place.{Place}
use Rattle.gmp_driver.specs.declared.place.Place.TheVariants as place
use Rattle.gmp_driver.specs.declared.registers.CalledParts.{CalledParts}
use Rattle.gmp_driver.specs.declared.registers.HeldParts.{HeldParts}
use Rattle.gmp_driver.specs.declared.registers.Registers.{Registers}
use Rattle.gmp_driver.specs.Bodies.{speaker_at}
use Rattle.gmp_driver.specs.Machine.{Machine, held_at}
use Rattle.gmp_driver.specs.Seen.{own_processor}
use Rattle.gmp_driver.specs.Table.{next_act}
use Rattle.gmp_acts.specs.declared.choice.Choice.{Choice}
use Rattle.gmp_acts.specs.Acts.{Acts, HasFewCases}
use Rattle.gmp_acts.specs.Hands.{PlainMachine, plain, plain_called, plain_held, plain_machine}
use Rattle.gmp_acts.specs.Headline.{NoClaimIsRefused, SameOpening}
use Rattle.gmp_acts.specs.Lookouts.{IsWatchful, NoWorkIsAsleep}
use Rattle.gmp_acts.specs.Sound.{Agrees, IsSound}
use Rattle.gmp_acts.specs.System.{BookRun, System, count_of, machine_at}
use Rattle.gmp_acts.proofs.Claimed.{no_claim_refused}
use Rattle.gmp_acts.proofs.Losing.{entry_or_memory}
use Rattle.gmp_acts.proofs.Moving.{act_sound, own_within}
use Rattle.gmp_acts.proofs.Onward.{act_opened}
use Rattle.gmp_acts.proofs.Plain.{number_plain, plain_fits}
use Rattle.gmp_acts.proofs.Room.{push_has_room}
use Rattle.gmp_acts.proofs.Whole.{headline_of}
use Rattle.gmp_turn.specs.Surrenders.{Surrenders, book_after}
use Rattle.gmp_turn.specs.Turns.{Turns}
use Rattle.gmp_turn.specs.Values.{AreOut, body_in, owner_in}
use Rattle.gmp_turn.proofs.Kept.{kept_at_end, turned}
use Rattle.gmp_core.specs.Doing.{Desk, Does}
use Rattle.gmp_core.specs.Inside.{IsCore, Parts, joined_system_of, system_of}
use Rattle.gmp_core.specs.Whole.{EntersCall, HasRoom, HeadlineOf, IsKept, IsWhole, NoCallIsRefused, TakesFixed, Whole, stock_of}
use Rattle.gmp_core.proofs.Before.{acts_before, hands_out}
use Rattle.gmp_core.proofs.Keeping.{kept_after, one_in_hand}
use Rattle.gmp_core.proofs.Tying.{agrees, does, is_there, joined_total, kept_room, machine_is, none_out, next_plain, over, parts_after, tickets}

surrender_taken : {T Q : Type 0} (x x' : Machine T Q) (book book' : BookContents T Q) (which : Option Value) (result : Result Unit Refusal) → x.run ≡ book.log.run → book.log.state.outcome ≢ None
    → AreOut (body_in x.hand) book.bodies → AreOut (owner_in x.hand) book.owners
    → ((r : Readiness) → (x.hand.to_claim ≡ Some r) ⊎ (x.hand.to_store ≡ Some r) → is_outstanding book.log.state.table r ≡ true)
    → Surrenders x book which result x' book' → result ≡ Ok tt
surrender_taken x x' book book' which result run over out out' tickets s = search rules

abbrev reply_of : Reply → List Entry → Reply
reply_of other [] = other
reply_of other (e ∷ es) = e.reply

longer : (log log' : Log) (e : Entry) → log'.history ≡ log.history ++ e ∷ [] → log'.history ≡ log.history → ⊥
longer log log' e more same =
    let one : length log.history ≡ length log.history + 1 = ap (λ (l : List Entry). length l) (sym same ∙ more) ∙ length_push log.history e in omega (arith, one)

-- what a call takes, and what it does to the shelf
abbrev Takes : {T Q : Type 0} → Call → ℕ → BookContents T Q → BookContents T Q → Reply → Type 0
Takes asked word book book' answer =
    Chooses asked word answer book.log.state book.log.shelf × Shelves asked answer book.log.state.table book'.log.state.table book.log.shelf book'.log.shelf

taken_so : {T Q : Type 0} (x x' : Machine T Q) (book book' : BookContents T Q) (m : MNo) (count : ℕ) (asked : Call) (word : ℕ) (answer : Reply) (result : Result Reply Refusal)
    → Turns x book asked word result x' book' → book'.log.history ≡ book.log.history ++ record { m = m; k = count; call = asked; reply = answer } ∷ [] → Takes asked word book book' answer
taken_so x x' book book' m count asked word answer (Ok reply) t more =
    let e : reply ≡ answer = ap (reply_of answer) (append_cancel_left book.log.history _ _ (sym t.records.entry ∙ more)) in
    subst (Takes asked word book book') e (t.choice, t.records.shelf)
taken_so x x' book book' m count asked word answer (Err why) t more = absurd (longer book.log book'.log _ more (ap (λ (b : BookContents _ _). b.log.history) t.err.0))

-- a call that makes no entry leaves the shelf
shelf_kept : {T Q : Type 0} (x x' : Machine T Q) (book book' : BookContents T Q) (asked : Call) (word : ℕ) (result : Result Reply Refusal) → Turns x book asked word result x' book'
    → book'.log.history ≡ book.log.history → book'.log.shelf ≡ book.log.shelf
shelf_kept x x' book book' asked word (Ok reply) t same = absurd (longer book.log book'.log _ t.records.entry same)
shelf_kept x x' book book' asked word (Err why) t same = ap (λ (b : BookContents _ _). b.log.shelf) t.err.0

book_kept : {T Q : Type 0} (which : Option Value) (result : Result Unit Refusal) (load : Load T Q) (book : BookContents T Q) → (book_after which result load book).log ≡ book.log
book_kept which (Ok done) load book = search rules
book_kept which (Err why) load book = refl

-- and so does any other act
shelf_stays : {T : Type 0} (a : Act) (m : MNo) (choice : Choice) (old now : Desk T) → Does a m choice old now → now.book.log.history ≡ old.book.log.history
    → now.book.log.shelf ≡ old.book.log.shelf
shelf_stays (act.Call asked) m choice old now d same = shelf_kept old.machine now.machine old.book now.book asked choice.word d.0 d.1 same
shelf_stays act.Pop m choice old now d same = ap (λ (b : BookContents _ _). b.log.shelf) d.book
shelf_stays act.Drain m choice old now d same = ap (λ (b : BookContents _ _). b.log.shelf) d.book
shelf_stays act.Push m choice old now d same = ap (λ (b : BookContents _ _). b.log.shelf) d.book
shelf_stays act.Hunt m choice old now d same = ap (λ (b : BookContents _ _). b.log.shelf) d.book
shelf_stays (act.Steal v) m choice old now d same = ap (λ (b : BookContents _ _). b.log.shelf) d.book
shelf_stays act.Resume m choice old now d same = ap (λ (x : Desk _). x.book.log.shelf) d
shelf_stays act.Block m choice old now d same = ap (λ (x : Desk _). x.book.log.shelf) d
shelf_stays (act.Clock minded) m choice old now d same = ap (λ (x : Desk _). x.book.log.shelf) d
shelf_stays (act.Surrender which) m choice old now d same = ap (λ (b : BookContents _ _). b.log.shelf) d.1.places ∙ ap (λ (l : Log). l.shelf) (book_kept which d.0 _ old.book)
shelf_stays act.Nothing m choice old now d same = ap (λ (x : Desk _). x.book.log.shelf) d

-- What is known of all entries, for those that are left

left_entry : (out before behind more : List Entry) → out ++ behind ≡ (out ++ before) ++ more → behind ≡ before ++ more
left_entry out before behind more e = append_cancel_left out _ _ (e ∙ append_assoc out before more)

left_book : (out : List Entry) (a b : BookRun) → (record a { history = out ++ a.history }) ≡ (record b { history = out ++ b.history }) → a ≡ b
left_book out a b e = λ i. record (e i) { history = append_cancel_left out a.history b.history (ap (λ (r : BookRun). r.history) e) i }

-- the core as a contract sees it
abbrev pub whole_of : {T : Type 0} → Parts T → Whole T
whole_of c = record { system = system_of c; stock = stock_of c.machines c.book.bodies; shelf = c.book.log.shelf }

-- the core keeps the headline
pub core_headline : {T : Type 0} (c : Parts T) → IsCore c → HeadlineOf (system_of c)
core_headline c core = record { out = core.out; headline = headline_of (joined_system_of core.out c) core.sound; fits = core.fits; whole = none_out core.out c core.sound }

module _ {T : Type 0} (c : Parts T) (m : MNo) (x : Machine T Unit) (is : slice_get c.machines m.0 ≡ Some x) (core : IsCore c) where
  abbrev k : System
  k = system_of c

  abbrev j : System
  j = joined_system_of core.out c

  mine : Agrees j.book m (plain_machine x)
  mine = agrees core.out c m x is core.sound

  pub has_pass : IsSome x.pass
  has_pass = ap is_some mine.has_pass

  pub same_run : x.run ≡ c.book.log.run
  same_run = mine.run.0

  pub finds_room : (r : Readiness) → x.hand.to_store ≡ Some r → (p : PNo) → own_processor x.hand ≡ Some p → (p.0 < length c.rings.queues) × (length (get_or c.rings.queues p.0 []) < c.rings.room)
  finds_room r stored p own =
      let at = machine_is c m x is in
      let within : p.0 < length k.queues = own_within j m (is_there c m x is) core.sound p (ap (λ (y : PlainMachine). own_processor y.hand) at ∙ number_plain x.hand.processor ∙ own) in
      let few : length (get_or c.rings.queues p.0 []) < k.book.bodies = push_has_room j m p r core.sound (is_there c m x is) within (ap (λ (y : PlainMachine). y.hand.to_store) at ∙ stored) in
      let room = core.tickets_room in
      (within, omega (arith, few, room))

  module _ (choice : Choice) (now : Desk T) (few : HasFewCases choice.ask) (room : HasRoom k) (d : Does (next_act x) m choice (record { machine = x; book = c.book; rings = c.rings }) now) where
    abbrev c' : Parts T
    c' = parts_after c m now

    taken : (which : Option Value) (result : Result Unit Refusal) → next_act x ≡ act.Surrender which → Surrenders x c.book which result now.machine now.book → result ≡ Ok tt
    taken which result next s =
        surrender_taken x now.machine c.book now.book which result same_run (over core.out c m x choice now is core.sound which next) (core.bodies m.0 x is) (core.owners m.0 x is) (tickets core.out c m x choice now is core.sound) s

    pub acts_so : Acts k m choice (system_of c')
    acts_so = does core.out c m x choice now is core.sound core.lasts room taken few d

    joined_acts : Acts j m choice (joined_system_of core.out c')
    joined_acts = acts_before core.out k m choice (system_of c') acts_so

    both : IsCore c' × (stock_of c'.machines c'.book.bodies ≡ stock_of c.machines c.book.bodies)
    both =
        kept_after c m x choice now is core
        (λ asked result next t. turned x now.machine c.book now.book asked choice.word next (plain_fits x.hand x.place (mine.driver.fits has_pass)) (core.bodies m.0 x is) (core.owners m.0 x is) result t)
        (λ which result next s. kept_at_end x c.book (one_in_hand j m x core.sound mine) (core.bodies m.0 x is) (core.owners m.0 x is) now.machine now.book which result s)
        acts_so d

    pub core_so : IsCore c'
    core_so = both.0

    pub stock_so : stock_of c'.machines c'.book.bodies ≡ stock_of c.machines c.book.bodies
    stock_so = both.1

    pub claims_so : NoClaimIsRefused k m (system_of c')
    claims_so inside at fresh goes =
        let entered = no_claim_refused j m choice (joined_system_of core.out c') core.sound joined_acts inside at fresh goes in
        record { ticket = entered.ticket; has_ticket = entered.has_ticket; entry = left_entry core.out c.book.log.history now.book.log.history _ entered.entry }

    pub calls_so : NoCallIsRefused k m (system_of c')
    calls_so asked inside next goes = by (entry_or_memory j m choice asked (joined_system_of core.out c') core.sound inside next goes joined_acts) where
      by : ((answer : Reply) × (core.out ++ now.book.log.history ≡ (core.out ++ c.book.log.history) ++ record { m = m; k = count_of k.book m; call = asked; reply = answer } ∷ []))
          ⊎ (WantsMemory k.book.limits asked k.book.state × ((joined_system_of core.out c').book ≡ j.book))
          → EntersCall k m asked (system_of c') ⊎ (WantsMemory k.book.limits asked k.book.state × ((system_of c').book ≡ k.book))
      by (inl entered) = inl (entered.0, left_entry core.out c.book.log.history now.book.log.history _ entered.1)
      by (inr wanted) = inr (wanted.0, left_book core.out (system_of c').book k.book wanted.1)

    pub fixed_so : IsListing is_shelved c.book.log.state.table.goroutines c.book.log.shelf → TakesFixed (whole_of c) m choice.word (whole_of c')
    fixed_so listed = record {
      listed = listed;
      takes = λ asked answer inside next more.
          let at : next_act x ≡ act.Call asked = sym (ap next_act (machine_is c m x is) ∙ next_plain x) ∙ next in
          let made_so = subst (λ (a : Act). Does a m choice (record { machine = x; book = c.book; rings = c.rings }) now) at d in
          taken_so x now.machine c.book now.book m (count_of k.book m) asked choice.word answer made_so.0 made_so.1 more;
      stays = λ same. shelf_stays (next_act x) m choice (record { machine = x; book = c.book; rings = c.rings }) now d (ap (λ (r : BookRun). r.history) same);
    }

    pub headline_so : HeadlineOf (system_of c')
    headline_so = core_headline c' core_so

    pub awake_so : NoWorkIsAsleep (system_of c')
    awake_so = core_so.watchful.awake

    pub opened_so : SameOpening k.book (system_of c').book
    opened_so = act_opened k m choice (system_of c') acts_so

    pub whole_so : IsWhole k → IsWhole (system_of c')
    whole_so whole = sym (joined_total core.out c' (act_sound j m choice (joined_system_of core.out c') joined_acts core.sound)) ∙ ap (λ (l : List Entry). length (l ++ now.book.log.history)) (none_out core.out c core.sound whole)

-- the act of a machine that isn't there
pub acts_none : {T : Type 0} (c : Parts T) (m : MNo) (choice : Choice) (k : System) → system_of c ≡ k → HasFewCases choice.ask → (m.0 < length c.machines → ⊥) → Acts k m choice (system_of c)
acts_none {T = T} c m choice k is few none = subst (λ (j : System). Acts j m choice (system_of c)) is (record {
  few = few;
  by_place = λ inside. absurd (none (let same = length-map c.machines (plain_machine {T = T} {Q = Unit}) in omega (arith, inside, same)));
  else_none = λ past. refl;
})

-- it takes nothing
pub fixed_none : {T : Type 0} (c : Parts T) (m : MNo) (word : ℕ) (k : Whole T) → whole_of c ≡ k → IsListing is_shelved c.book.log.state.table.goroutines c.book.log.shelf
    → (m.0 < length c.machines → ⊥) → TakesFixed k m word (whole_of c)
fixed_none {T} c m word k is listed none = subst (λ (j : Whole T). TakesFixed j m word (whole_of c)) is (record {
  listed = listed;
  takes = λ asked answer inside. absurd (none (let same = length-map c.machines (plain_machine {T = T} {Q = Unit}) in omega (arith, inside, same)));
  stays = λ same. refl;
})

-- A core that has as much room as entries has room as long as its run lasts, unless it handed some out.
pub core_room : {T : Type 0} (c : Parts T) → IsCore c → IsKept c.book.log.limits → IsWhole (system_of c) → HasRoom (system_of c)
core_room c core = kept_room core.out c core.sound

full_when_over : (o : Option Outcome) (stopped over : Bool) (n room : ℕ) → over ≡ (is_some o || stopped) → (o ≡ None → n < room) → n ≡ room → not over ≡ false
full_when_over None stopped over n room is free full = (let few : n < room = free refl in absurd (omega (arith, few, full)))
full_when_over (Some o) stopped over n room is free full = ap not is

-- So its history is full only once the run is over.
pub never_waits : {T : Type 0} (c : Parts T) → IsCore c → IsKept c.book.log.limits → IsWhole (system_of c) → (over : Bool) → over ≡ is_over c.book.log
    → length c.book.log.history ≡ c.book.log.limits.room → not over ≡ false
never_waits c core kept whole over is full =
    full_when_over c.book.log.state.outcome c.book.log.stopped over (length c.book.log.history) c.book.log.limits.room is (core_room c core kept whole) full

-- A core whose entries were handed out keeps what it kept.
pub core_emptied : {T : Type 0} (c : Parts T) (book : BookContents T Unit) → IsCore c → All Fits c.book.log.history → book.log ≡ handed_out c.book.log
    → book.bodies ≡ c.book.bodies → book.owners ≡ c.book.owners → IsCore (record c { book = book })
core_emptied {T = T} c book core fits log bodies owners = subst (λ (b : BookContents T Unit). IsCore (record c { book = b })) (sym same) kept where
  same : book ≡ record c.book { log = handed_out c.book.log }
  same = λ i. record { log = log i; bodies = bodies i; owners = owners i }

  kept : IsCore (record c { book = record c.book { log = handed_out c.book.log } })
  kept = record {
    out = core.out ++ c.book.log.history;
    sound = subst IsSound (sym (hands_out core.out (system_of c) core.sound)) core.sound;
    watchful = subst IsWatchful (sym (hands_out core.out (system_of c) core.sound)) core.watchful;
    bodies = core.bodies;
    owners = core.owners;
    tickets_room = core.tickets_room;
    few = omega arith;
    lasts = core.lasts;
    fits = All-append Fits core.out c.book.log.history core.fits fits;
  }

-- What a reader is told

held_plain : {T : Type 0} (here : Place) (h : Option (HeldParts T)) → held_at here (option_map plain_held h) ≡ held_at here h
held_plain place.Run None = refl
held_plain place.Run (Some x) = refl
held_plain place.Block h = refl
held_plain here h = refl

pub held_at_is : {T : Type 0} (c : Parts T) (m : MNo) (x : Machine T Unit) → slice_get c.machines m.0 ≡ Some x
    → held_at x.place x.hand.held ≡ held_at (machine_at (system_of c) m).place (machine_at (system_of c) m).hand.held
held_at_is c m x is = sym (ap (λ (p : PlainMachine). held_at p.place p.hand.held) (machine_is c m x is) ∙ held_plain x.place x.hand.held)

-- who steps next, by what is left of the values in plain parts
speaker_plain : {T : Type 0} (here : Place) (hand : Registers T Unit) → speaker_at here (plain hand) ≡ speaker_at here hand
speaker_plain {T = T} here hand = at here where
  held : (h : Option (HeldParts T)) → option_map (λ (x : HeldParts Unit). x.g) (option_map plain_held h) ≡ option_map (λ (x : HeldParts T). x.g) h
  held None = refl
  held (Some x) = refl

  called : (c : Option (CalledParts T)) → option_map (λ (x : CalledParts Unit). x.g) (option_map plain_called c) ≡ option_map (λ (x : CalledParts T). x.g) c
  called None = refl
  called (Some x) = refl

  at : (p : Place) → speaker_at p (plain hand) ≡ speaker_at p hand
  at place.Run = held hand.held
  at (place.Do asked) = held hand.held
  at place.Block = called hand.called
  at other = refl

pub speaker_is : {T : Type 0} (c : Parts T) (m : MNo) (x : Machine T Unit) → slice_get c.machines m.0 ≡ Some x
    → speaker_at x.place x.hand ≡ speaker_at (machine_at (system_of c) m).place (machine_at (system_of c) m).hand
speaker_is c m x is = sym (ap (λ (p : PlainMachine). speaker_at p.place p.hand) (machine_is c m x is) ∙ speaker_plain x.place x.hand)

pub next_is : {T : Type 0} (c : Parts T) (m : MNo) (x : Machine T Unit) → slice_get c.machines m.0 ≡ Some x → next_act (machine_at (system_of c) m) ≡ next_act x
next_is c m x is = ap next_act (machine_is c m x is) ∙ next_plain x

-- every machine has its pass
pub passes_in : {T : Type 0} (c : Parts T) → IsCore c → All (λ (x : Machine T Unit). IsSome x.pass) c.machines
passes_in c core = λ i d within. has_pass c (record { 0 = i }) (get_or c.machines i d) (slice_get-get_or c.machines i d within) core
