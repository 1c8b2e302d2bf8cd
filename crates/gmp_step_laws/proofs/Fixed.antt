-- One act comes out in one way, where memory is refused for no make.
use Rattle.std.proofs.Common.{◌≡◌, ◌⊎◌, inl, inr, ℕ, ◌<◌, ◌+◌, Bool, Option, None, Some, List, [], ◌∷◌, ◌++◌, length, refl, sym, ap, subst, ◌∙◌}
use Rattle.std.proofs.lemmas.Bool.{cases_lt}
use Rattle.std.specs.List.{slice_set}
use Rattle.gmp_goroutines.specs.Shelf.{Shelves}
use Rattle.gmp_journal.specs.Grants.{Chooses}
use Rattle.gmp_base.specs.declared.ask.Ask.{Ask}
use Rattle.gmp_base.specs.declared.number.MNo.{MNo}
use Rattle.gmp_base.specs.declared.pass.Pass.{Pass}
use Rattle.gmp_seq.specs.declared.call.Call.{Call}
use Rattle.gmp_seq.specs.declared.call.Entry.{Entry}
use Rattle.gmp_seq.specs.declared.call.Reply.{Reply}
use Rattle.gmp_seq.specs.Laws.{FitsTogether}
use Rattle.gmp_seq.specs.State.{State}
use Rattle.gmp_seq.specs.Step.{Step}
use Rattle.gmp_seq.proofs.Determined.{step_determined}
use Rattle.gmp_seq.proofs.InOrder.{legal_in_order}
use Rattle.gmp_seq.proofs.OneEach.{Manned, legal_manned}
use Rattle.gmp_driver.specs.declared.act.Act.{Act}
use Rattle.gmp_driver.specs.declared.act.Act.TheVariants as act
use Rattle.gmp_driver.specs.declared.act.Told.TheVariants as told
use Rattle.gmp_driver.specs.Table.{after, next_act}
use Rattle.gmp_acts.specs.declared.choice.Choice.{Choice}
use Rattle.gmp_acts.specs.declared.made.Made.{Made}
use Rattle.gmp_acts.specs.Acts.{Accepted, Acts, Answers, DoesAct, MakesCall, pushed, stolen, with_local, with_told}
use Rattle.gmp_acts.specs.Hands.{PlainMachine, hand_after}
use Rattle.gmp_acts.specs.Sound.{IsSound}
use Rattle.gmp_acts.specs.System.{BookRun, System, count_of, count_of_all, machine_at}
use Rattle.gmp_core.specs.declared.want.Want.{Want}
use Rattle.gmp_core.specs.declared.want.Want.TheVariants as want
use Rattle.gmp_core.specs.Whole.{Enters, TakesFixed, Whole, wanted_by}
use Rattle.gmp_core.proofs.Served.{Entered, book_left}
use Rattle.gmp_step_laws.specs.Scheduled.{IsUnmade}
use Rattle.gmp_step_laws.proofs.Alike.{alike, shelf_fixed}
use Rattle.gmp_step_laws.proofs.Replies.{reply_fixed}

-- what an act that wants this reads is alike
abbrev pub ReadsAlike : Want → Choice → Choice → Type 0
ReadsAlike want.Ask x y = x.ask ≡ y.ask
ReadsAlike want.Number x y = x.number ≡ y.number
ReadsAlike (want.Moment minded) x y = x.moment ≡ y.moment
ReadsAlike want.Nothing x y = Unit {0}

-- and so are the word and what is to go wrong
pub record SettledAlike (x y : Choice) : Type 0 where
  pub word : x.word ≡ y.word
  pub pushed : x.push_refused ≡ y.push_refused
  pub sure : x.unsure ≡ y.unsure

-- An act that is no call

pub local_fixed : (a : Act) (k i j : System) (m : MNo) (x y : Choice) → SettledAlike x y → ReadsAlike (wanted_by a) x y
    → ((asked : Call) → a ≡ act.Call asked → MakesCall k m asked i → MakesCall k m asked j → i ≡ j) → DoesAct a k m x i → DoesAct a k m y j → i ≡ j
local_fixed (act.Call asked) k i j m x y settled alike call one two = call asked refl one two
local_fixed act.Pop k i j m x y settled alike call one two = one ∙ sym two
local_fixed act.Drain k i j m x y settled alike call one two = one ∙ sym two
local_fixed act.Push k i j m x y settled alike call one two =
    one ∙ ap (λ (b : Bool). with_local k m (pushed (machine_at k m) k.queues (machine_at k m).hand.to_store b)) settled.pushed ∙ sym two
local_fixed act.Hunt k i j m x y settled alike call one two = one ∙ rw (settled.word, settled.sure) (sym two)
local_fixed (act.Steal v) k i j m x y settled alike call one two =
    one ∙ ap (λ (b : Bool). with_local k m (stolen (machine_at k m) None k.queues v b)) settled.sure ∙ sym two
local_fixed act.Resume k i j m x y settled alike call one two = one ∙ ap (λ (a : Ask). with_told k m (told.Asked a)) alike ∙ sym two
local_fixed act.Block k i j m x y settled alike call one two = one ∙ ap (λ (n : ℕ). with_told k m (told.Number n)) alike ∙ sym two
local_fixed (act.Clock minded) k i j m x y settled alike call one two = one ∙ ap (λ (n : ℕ). with_told k m (told.Moment n)) alike ∙ sym two
local_fixed (act.Surrender which) k i j m x y settled alike call one two = one ∙ sym two
local_fixed act.Nothing k i j m x y settled alike call one two = one ∙ sym two

-- A call

-- what a call leads to
abbrev Outcome : Type 0
Outcome = PlainMachine × BookRun × List Made

abbrev after_accepted : PlainMachine → Pass → MNo → Call → Reply → BookRun → List Made → State → Outcome
after_accepted x pass m asked answer book own s =
    let book' : BookRun = record book { history = book.history ++ record { m = m; k = count_of book m; call = asked; reply = answer } ∷ []; state = s } in (
      after (record x { pass = Some (record pass { calls = pass.calls + 1; seen = count_of_all book' }); hand = hand_after book.state.table asked answer x.hand }) (told.Replied answer),
      book',
      own ++ record { m = m; call = asked; reply = answer } ∷ [],
    )

accepted_is : (x : PlainMachine) (m : MNo) (asked : Call) (book : BookRun) (own : List Made) (x' : PlainMachine) (book' : BookRun) (own' : List Made)
    → (h : Accepted x m asked book own x' book' own') → (x', book', own') ≡ after_accepted x h.granted.may.pass m asked h.answer book own book'.state
accepted_is x m asked book own x' book' own' h =
    let book_is : book' ≡ record book { history = book.history ++ record { m = m; k = count_of book m; call = asked; reply = h.answer } ∷ []; state = book'.state } =
    h.opened ∙ ap (λ (l : List Entry). let b : BookRun = record book { history = l; state = book'.state } in b) h.entry in
    let machine_is = h.machine ∙ ap (λ (b : BookRun). after (record x { pass = Some (record h.granted.may.pass { calls = h.granted.may.pass.calls + 1; seen = count_of_all b }); hand = hand_after book.state.table asked h.answer x.hand }) (told.Replied h.answer)) book_is in
    λ i. (machine_is i, book_is i, h.made i)

abbrev system_after : System → MNo → Outcome → System
system_after k m o = record k { book = o.1; machines = slice_set k.machines m.0 o.0; own = o.2 }

same_pass : (o : Option Pass) (a b : Pass) → o ≡ Some a → o ≡ Some b → a ≡ b
same_pass o a b one two = let e : Some a ≡ Some b = sym one ∙ two in let same : a ≡ b = cc in same

-- With what is fixed both acts come to the same, and to the same shelf.
module _ {T : Type 0} (k a b : Whole T) (m : MNo) (x y : Choice) (settled : SettledAlike x y) (sound : IsSound k.system) (one : TakesFixed k m x.word a) (too : TakesFixed k m y.word b)
    (made : ¬ (IsUnmade k.system m a.system)) (made_too : ¬ (IsUnmade k.system m b.system)) where
  abbrev book : BookRun
  book = k.system.book

  abbrev here : PlainMachine
  here = machine_at k.system m

  manned : Manned book.state
  manned = legal_manned book.limits book.bodies book.capacities book.history book.state sound.legal

  together : FitsTogether book.limits book.state
  together = (legal_in_order book.limits book.bodies book.capacities book.history book.state sound.within sound.legal).together

  module _ (inside : m.0 < length k.system.machines) where
    module _ (asked : Call) (next : next_act here ≡ act.Call asked) where
      one_answer : (p q : Reply) (s t : State) → Step book.limits m asked p book.state s → Step book.limits m asked q book.state t → Enters k.system m asked p a.system
          → Enters k.system m asked q b.system → p ≡ q
      one_answer p q s t step step_too enters enters_too =
          let chosen_too : Chooses asked x.word q book.state k.shelf =
          subst (λ (w : ℕ). Chooses asked w q book.state k.shelf) (sym settled.word) (too.takes asked q inside next enters_too).0 in
          reply_fixed book.limits m book.state s t together asked p q step.1 step_too.1 (alike asked x.word p q book.state k.shelf (one.takes asked p inside next enters).0 chosen_too)

      both : (xa xb : PlainMachine) (ba bb : BookRun) (oa ob : List Made) → Answers here m asked book k.system.own xa ba oa → Answers here m asked book k.system.own xb bb ob
          → a.system ≡ system_after k.system m (xa, ba, oa) → b.system ≡ system_after k.system m (xb, bb, ob) → (let o : Outcome = (xa, ba, oa) in o) ≡ (xb, bb, ob)
      both xa xb ba bb oa ob (inl h) (inl g) is is_too =
          let answer : h.answer ≡ g.answer = one_answer h.answer g.answer ba.state bb.state h.step g.step (ap (λ (s : System). s.book.history) is ∙ h.entry) (ap (λ (s : System). s.book.history) is_too ∙ g.entry) in
          let pass : h.granted.may.pass ≡ g.granted.may.pass = same_pass here.pass _ _ h.granted.may.has_pass g.granted.may.has_pass in
          let state : ba.state ≡ bb.state = step_determined book.limits m asked g.answer book.state ba.state bb.state manned (subst (λ (r : Reply). Step book.limits m asked r book.state ba.state) answer h.step) g.step in
          accepted_is here m asked book k.system.own xa ba oa h
          ∙ (λ i. after_accepted here (pass i) m asked (answer i) book k.system.own (state i))
          ∙ sym (accepted_is here m asked book k.system.own xb bb ob g)
      both xa xb ba bb oa ob (inl h) (inr (inl g)) is is_too = absurd (g.over h.step.0)
      both xa xb ba bb oa ob (inl h) (inr (inr (inr g))) is is_too = absurd (g.unmet h.granted)
      both xa xb ba bb oa ob (inr (inl h)) (inl g) is is_too = absurd (h.over g.step.0)
      both xa xb ba bb oa ob (inr (inl h)) (inr (inl g)) is is_too = λ i. ((h.machine ∙ sym g.machine) i, (h.same ∙ sym g.same) i, (h.none ∙ sym g.none) i)
      both xa xb ba bb oa ob (inr (inl h)) (inr (inr (inr g))) is is_too = absurd (h.over g.lasts)
      both xa xb ba bb oa ob (inr (inr (inr h))) (inl g) is is_too = absurd (h.unmet g.granted)
      both xa xb ba bb oa ob (inr (inr (inr h))) (inr (inl g)) is is_too = absurd (g.over h.lasts)
      both xa xb ba bb oa ob (inr (inr (inr h))) (inr (inr (inr g))) is is_too = λ i. ((h.machine ∙ sym g.machine) i, (h.same ∙ sym g.same) i, (h.none ∙ sym g.none) i)
      both xa xb ba bb oa ob (inr (inr (inl h))) answers is is_too =
          absurd (made (record { inside = inside; asked = asked; asks = next; lasts = h.lasts; wants = h.makes; same = ap (λ (s : System). s.book) is ∙ h.same }))
      both xa xb ba bb oa ob answers (inr (inr (inl g))) is is_too =
          absurd (made_too (record { inside = inside; asked = asked; asks = next; lasts = g.lasts; wants = g.makes; same = ap (λ (s : System). s.book) is_too ∙ g.same }))

      call_fixed : MakesCall k.system m asked a.system → MakesCall k.system m asked b.system → a.system ≡ b.system
      call_fixed (xa, ba, oa, answers, is) (xb, bb, ob, answers_too, is_too) =
          is ∙ ap (system_after k.system m) (both xa xb ba bb oa ob answers answers_too is is_too) ∙ sym is_too

    same_shelf : a.system ≡ b.system → Entered k.system m a.system ⊎ (a.system.book ≡ book) → a.shelf ≡ b.shelf
    same_shelf same (inl (asked, p, next, enters)) =
        let shelves = (one.takes asked p inside next enters).1 in
        let shelves_too = (too.takes asked p inside next (subst (Enters k.system m asked p) same enters)).1 in
        shelf_fixed book.limits book.state together asked p b.system.book.state.table k.shelf a.shelf b.shelf
        (subst (λ (s : System). Shelves asked p book.state.table s.book.state.table k.shelf a.shelf) same shelves) shelves_too
    same_shelf same (inr stays) = one.stays stays ∙ sym (too.stays (ap (λ (s : System). s.book) (sym same) ∙ stays))

    act_fixed : ReadsAlike (wanted_by (next_act here)) x y → Acts k.system m x a.system → Acts k.system m y b.system → (a.system ≡ b.system) × (a.shelf ≡ b.shelf)
    act_fixed reads acts acts_too =
        let same : a.system ≡ b.system =
        local_fixed (next_act here) k.system a.system b.system m x y settled reads (λ asked next. call_fixed asked next) (acts.by_place inside) (acts_too.by_place inside) in
        (same, same_shelf same (book_left k.system m x a.system inside acts))

  pub acts_fixed : ReadsAlike (wanted_by (next_act here)) x y → Acts k.system m x a.system → Acts k.system m y b.system → (a.system ≡ b.system) × (a.shelf ≡ b.shelf)
  acts_fixed reads acts acts_too =
      elim (cases_lt m.0 (length k.system.machines)) [
        | inl inside ↦ act_fixed inside reads acts acts_too
        | inr past ↦
            let stays : a.system ≡ k.system = acts.else_none past in
            let stays_too : b.system ≡ k.system = acts_too.else_none past in
            (stays ∙ sym stays_too, one.stays (ap (λ (s : System). s.book) stays) ∙ sym (too.stays (ap (λ (s : System). s.book) stays_too)))
      ]
