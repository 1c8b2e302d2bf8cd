-- Each act keeps it that the run is one by the script's bodies.
use Rattle.std.proofs.Common.{◌≡◌, ◌≢◌, ◌⊎◌, inl, inr, ℕ, ◌<◌, Bool, true, false, List, [], ◌∷◌, ◌++◌, map, length, get_or, set, Option, None, Some, is_some, refl, sym, ap, subst, ◌∙◌, arith}
use Rattle.std.proofs.lemmas.Bool.{cases_lt}
use Rattle.std.proofs.lemmas.List.{get_or_past, length-set}
use Rattle.std.proofs.lemmas.Option.{slice_get-get_or, slice_get_within}
use Rattle.std.specs.List.{slice_get}
use Rattle.std.specs.Option.{option_map}
use Rattle.gmp_base.specs.declared.ask.Ask.{Ask}
use Rattle.gmp_base.specs.declared.ask.Ask.TheVariants as ask
use Rattle.gmp_base.specs.declared.ask.Woke.{Woke}
use Rattle.gmp_base.specs.declared.ask.Woke.TheVariants as woke
use Rattle.gmp_base.specs.declared.number.GNo.{GNo}
use Rattle.gmp_base.specs.declared.number.MNo.{MNo}
use Rattle.gmp_base.specs.declared.number.PNo.{PNo}
use Rattle.gmp_base.specs.declared.number.Readiness.{Readiness}
use Rattle.gmp_base.specs.declared.refusal.Refusal.TheVariants.{OutOfMemory}
use Rattle.gmp_seq.proofs.Sizes.{legal_sizes}
use Rattle.gmp_seq.specs.declared.call.Call.{Call}
use Rattle.gmp_seq.specs.declared.call.Call.TheVariants as call
use Rattle.gmp_seq.specs.declared.call.Entry.{Entry}
use Rattle.gmp_seq.specs.declared.call.Limits.{Limits}
use Rattle.gmp_seq.specs.declared.call.Reply.{Reply}
use Rattle.gmp_seq.specs.declared.call.Reply.TheVariants as reply
use Rattle.gmp_seq.specs.declared.status.Goroutine.{Goroutine}
use Rattle.gmp_seq.specs.declared.status.Status.TheVariants as status
use Rattle.gmp_seq.specs.declared.status.TicketPlace.TheVariants.{Out}
use Rattle.gmp_seq.specs.Needs.{IsOutstanding, Needs, WantsMemory}
use Rattle.gmp_seq.specs.Run.{IsStep}
use Rattle.gmp_seq.specs.State.{State, opening}
use Rattle.gmp_seq.specs.Step.{Step, woke_after}
use Rattle.gmp_seq.specs.Table.{Table, stored_at}
use Rattle.gmp_driver.specs.declared.act.Act.{Act}
use Rattle.gmp_driver.specs.declared.act.Act.TheVariants as act
use Rattle.gmp_driver.specs.declared.act.Told.{Told}
use Rattle.gmp_driver.specs.declared.act.Told.TheVariants as told
use Rattle.gmp_driver.specs.declared.act.Tried.{Tried}
use Rattle.gmp_driver.specs.declared.act.Tried.TheVariants as tried
use Rattle.gmp_driver.specs.declared.act.Value.{Value}
use Rattle.gmp_driver.specs.declared.act.Value.TheVariants as value
use Rattle.gmp_driver.specs.declared.place.Place.{Place}
use Rattle.gmp_driver.specs.declared.place.Place.TheVariants as place
use Rattle.gmp_driver.specs.declared.registers.CalledParts.{CalledParts}
use Rattle.gmp_driver.specs.declared.registers.HeldParts.{HeldParts}
use Rattle.gmp_driver.specs.Fits.{Calls, Runs, SuitsPlace}
use Rattle.gmp_driver.specs.Hunt.{begun, victim_of}
use Rattle.gmp_driver.specs.Local.{tells}
use Rattle.gmp_driver.specs.Machine.{held_at}
use Rattle.gmp_driver.specs.Own.{with_found}
use Rattle.gmp_driver.specs.Registers.{but}
use Rattle.gmp_driver.specs.Seen.{own_processor, seen}
use Rattle.gmp_driver.specs.Table.{after, call_for, next_act, next_place}
use Rattle.gmp_driver.proofs.Uses.{none_of}
use Rattle.gmp_acts.proofs.Granted.{granted}
use Rattle.gmp_acts.proofs.Lands.{some_of}
use Rattle.gmp_acts.proofs.Moving.{act_sound}
use Rattle.gmp_acts.proofs.Whole.{headline_of}
use Rattle.gmp_acts.specs.declared.choice.Choice.{Choice}
use Rattle.gmp_acts.specs.declared.made.Made.{Made}
use Rattle.gmp_acts.specs.Acts.{Accepted, Acts, Answers, DoesAct, Unmade, given_back, own_taken_from, pushed, queue_of, stolen, stolen_from, with_ticket}
use Rattle.gmp_acts.specs.Hands.{PlainHand, PlainMachine, claimed_parts, hand_after, retold}
use Rattle.gmp_acts.specs.Headline.{HasInHand}
use Rattle.gmp_acts.specs.Sound.{Agrees, IsSound}
use Rattle.gmp_acts.specs.System.{BookRun, System, called_number, count_of, held_number, machine_at, no_machine}
use Rattle.gmp_core.specs.Whole.{goroutine_at, wanted_by}
use Rattle.gmp_script.specs.Script.{AsksTold, BringsLast, Commands, asked_last}
use Rattle.gmp_scene.specs.Reached.{IsRunOf}
use Rattle.gmp_scene.specs.Scripted.{LeadsBodies, Speakers}
use Rattle.gmp_said.specs.Said.{AsksFor, Brings, IsSaid, PassesMake, Speaker, TakesUp, unheard}
use Rattle.gmp_said.specs.Standing.{due_at}
use Rattle.gmp_said.proofs.Hands.{ComesBack, KeepsGoroutines, Leaves, asked_leaves, leave_leaves, own_keeps}
use Rattle.gmp_said.proofs.Places.{IsOfNone, IsOwn, TellsPlace, answered, left, stays, tells_place}
use Rattle.gmp_said.proofs.Turns.{says_more, says_on}
use Rattle.gmp_step_laws.specs.Scheduled.{AnswersLast, IsUnmade, LeadsStock, TakesAsk}
use Rattle.gmp_step_laws.proofs.Places.{make_is, no_make}
use Rattle.gmp_step_laws.proofs.Ties.{IsAhead, IsAsking, IsBringing, NoneAsks, Says, Ties, body_of, speaker_of, ties_asks, ties_quiet, ties_turns}
use Rattle.gmp_step_laws.proofs.Turns.{claim_or, leads_asked, leads_own, runs_on}

-- The history is what the script's bodies said, and the bodies that the acts leave are tied to the speakers that it leaves while the run lasts.
-- Under P no make was refused.
pub record Follows (limits : Limits) (capacities : List ℕ) (script : List Commands) (P : Type 0) (k : System) (stock : List (Option Commands)) : Type 0 where
  pub sound : IsSound k
  pub limits_are : k.book.limits ≡ limits
  pub now : Speakers
  pub many : length now ≡ k.book.bodies
  pub said : IsSaid AsksTold BringsLast limits capacities script k.book.history k.book.state now
  pub whole : P → IsRunOf limits capacities script k.book.history k.book.state now
  pub ties : k.book.state.outcome ≡ None → Ties k.machines stock now

-- Acts that are no calls lead to no place before a body's call, or the end of a blocking one, and the machine runs what it ran, or nobody

abbrev IsQuiet : PlainMachine → PlainMachine → Type 0
IsQuiet x y = (due_at y.place ≡ None) × ((h : HeldParts Unit) → y.hand.held ≡ Some h → x.hand.held ≡ Some h)

taken_quiet : (is_to_store : Bool) (x : PlainMachine) (queues : List (List Readiness)) (queue : List Readiness) → due_at x.place ≡ None → IsQuiet x (own_taken_from is_to_store x queues queue).0
taken_quiet is_to_store x queues [] h = (stays (seen x) x.place told.Empty h tt, λ i e. e)
taken_quiet false x queues (r ∷ rest) h = (stays (seen (record x { hand = with_found r false x.hand })) x.place told.Got h tt, λ i e. e)
taken_quiet true x queues (r ∷ rest) h = (stays (seen (record x { hand = with_found r true x.hand })) x.place told.Drained h tt, λ i e. e)

none_tells : (drawn : Option ℕ) (how : Tried) → IsOfNone (tells drawn how)
none_tells None how = tt
none_tells (Some word) how = tt

ticket_held : (r : Readiness) (hand : PlainHand) (o : Option Readiness) → (with_ticket r hand o).held ≡ hand.held
ticket_held r hand None = refl
ticket_held r hand (Some t) = refl

from_quiet : (x : PlainMachine) (drawn : Option ℕ) (queues : List (List Readiness)) (v : PNo) (queue : List Readiness) → due_at x.place ≡ None → IsQuiet x (stolen_from x drawn queues v queue).0
from_quiet x drawn queues v [] h = (stays (seen x) x.place (tells drawn tried.Empty) h (none_tells drawn tried.Empty), λ i e. e)
from_quiet x drawn queues v (r ∷ rest) h = (
  stays (seen (record x { hand = with_ticket r x.hand x.hand.to_claim })) x.place (tells drawn (tried.Got (length (r ∷ rest)))) h (none_tells drawn (tried.Got (length (r ∷ rest)))),
  λ i e. sym (ticket_held r x.hand x.hand.to_claim) ∙ e,
)

stolen_quiet : (x : PlainMachine) (drawn : Option ℕ) (queues : List (List Readiness)) (v : PNo) (lost : Bool) → due_at x.place ≡ None → IsQuiet x (stolen x drawn queues v lost).0
stolen_quiet x drawn queues v true h = (stays (seen x) x.place (tells drawn tried.Unsure) h (none_tells drawn tried.Unsure), λ i e. e)
stolen_quiet x drawn queues v false h = from_quiet x drawn queues v (get_or queues v.0 []) h

pushed_quiet : (x : PlainMachine) (queues : List (List Readiness)) (o : Option Readiness) (refused : Bool) → due_at x.place ≡ None → IsQuiet x (pushed x queues o refused).0
pushed_quiet x queues None refused h = (h, λ i e. e)
pushed_quiet x queues (Some r) true h = (stays (seen x) x.place told.PushRefused h tt, λ i e. e)
pushed_quiet x queues (Some r) false h = (stays (seen (record x { hand = record x.hand { to_store = None } })) x.place told.Pushed h tt, λ i e. e)

but_held : (which : Value) (hand : PlainHand) (h : HeldParts Unit) → (but (Some which) hand).held ≡ Some h → hand.held ≡ Some h
but_held value.Held hand h e = absurd (let no : None ≡ Some h = e in cc)
but_held _ hand h e = e

given_quiet : (x : PlainMachine) (o : Option Value) → due_at x.place ≡ None → IsQuiet x (given_back x o)
given_quiet x None h = (stays (seen x) x.place told.Nothing h tt, λ i e. e)
given_quiet x (Some which) h = (stays (seen (record x { hand = but (Some which) x.hand })) x.place told.Surrendered h tt, λ i e. but_held which x.hand i e)

not_asking : (x : PlainMachine) → due_at x.place ≡ None → (g : GNo) (asked : Ask) → IsAsking x g asked → ⊥
not_asking x none g asked is = let no : None ≡ Some (inl asked) = sym none ∙ is.0 in cc

not_bringing : (x : PlainMachine) → due_at x.place ≡ None → (g : GNo) (number : ℕ) → IsBringing x g number → ⊥
not_bringing x none g number is = let no : None ≡ Some (inr number) = sym none ∙ is.0 in cc

-- A machine that was told

told_reply : (x' y : PlainMachine) (asked : Ask) (answer : Reply) → x' ≡ after y (told.Replied answer) → y.place ≡ place.Do asked → due_at x'.place ≡ None
told_reply x' y asked answer is at = ap (λ (z : PlainMachine). due_at z.place) is ∙ ap (λ (p : Place). due_at (next_place (seen y) p (told.Replied answer))) at ∙ answered asked answer

told_refusal : (x' y : PlainMachine) (capacity : ℕ) → x' ≡ after y (told.Refused OutOfMemory) → y.place ≡ place.Do (ask.Make capacity) → due_at x'.place ≡ None
told_refusal x' y capacity is at = ap (λ (z : PlainMachine). due_at z.place) is ∙ ap (λ (p : Place). due_at (next_place (seen y) p (told.Refused OutOfMemory))) at

told_other : (x' y : PlainMachine) (what : Told) → x' ≡ after y what → due_at y.place ≡ None → IsOfNone what → due_at x'.place ≡ None
told_other x' y what is none of_none = ap (λ (z : PlainMachine). due_at z.place) is ∙ stays (seen y) y.place what none of_none

-- after the end of a blocking call: nobody is in one
left_hand : (t : Table) (number : ℕ) (answer : Reply) (hand : PlainHand) → called_number (hand_after t (call.Leave number) answer hand).called ≡ None
left_hand t number (reply.Runs p) hand = refl
left_hand t number answer hand = refl

left_asks : (x' y : PlainMachine) (number : ℕ) (answer : Reply) → x' ≡ after y (told.Replied answer) → y.place ≡ place.Leave number → (h : GNo) (a : Ask) → IsAsking x' h a → ⊥
left_asks x' y number answer is at h a q =
    left (seen y) number answer a (sym (ap (λ (p : Place). due_at (next_place (seen y) p (told.Replied answer))) at) ∙ sym (ap (λ (z : PlainMachine). due_at z.place) is) ∙ q.0)

left_brings : (x' : PlainMachine) (t : Table) (hand : PlainHand) (number : ℕ) (answer : Reply) → x'.hand ≡ hand_after t (call.Leave number) answer hand → (h : GNo) (n : ℕ) → IsBringing x' h n → ⊥
left_brings x' t hand number answer its h n q =
    let gone : called_number x'.hand.called ≡ None = ap (λ (z : PlainHand). called_number z.called) its ∙ left_hand t number answer hand in
    let no : None ≡ Some h = sym gone ∙ q.1 in cc

-- Whom it runs

-- the one whose body is in hand, told this
run_at : (o : Option (HeldParts Unit)) (g : GNo) (w : Woke) → held_number o ≡ Some g → held_at place.Run o ≡ Some w → o ≡ Some (record { g = g; woke = w; body = tt })
run_at None g w who what = absurd (let no : None ≡ Some g = who in cc)
run_at (Some h) g w who what =
    let same : h.g ≡ g = (let e : Some h.g ≡ Some g = who in cc) in
    let same_woke : h.woke ≡ w = (let e : Some h.woke ≡ Some w = what in cc) in
    let is : h ≡ record { g = g; woke = w; body = tt } = (λ i. record { g = same i; woke = same_woke i; body = tt }) in
    ap Some is

same_number : (o : Option (HeldParts Unit)) (h : HeldParts Unit) (g : GNo) → o ≡ Some h → held_number o ≡ Some g → g ≡ h.g
same_number o h g held number = let e : Some g ≡ Some h.g = sym number ∙ ap held_number held in let same : g ≡ h.g = cc in same

-- this one, if any
is_told : (p : HeldParts Unit) (o : Option (HeldParts Unit)) → (o ≡ None) ⊎ (o ≡ Some p) → (h : HeldParts Unit) → o ≡ Some h → (h.g ≡ p.g) × (h.woke ≡ p.woke)
is_told p o (inl none) h held = absurd (let no : None ≡ Some h = sym none ∙ held in cc)
is_told p o (inr some) h held =
    let e : Some h ≡ Some p = sym held ∙ some in
    let same : h ≡ p = cc in
    (ap (λ (q : HeldParts Unit). q.g) same, ap (λ (q : HeldParts Unit). q.woke) same)

back_held : (c : CalledParts Unit) (number : ℕ) (answer : Reply) (hand : PlainHand) → ComesBack c number answer hand → (hand.held ≡ None) ⊎ (hand.held ≡ Some (record { g = c.g; woke = woke.Number number; body = tt }))
back_held c number answer hand (inl back) = inr back.2
back_held c number answer hand (inr gone) = inl gone.0

-- whoever is ready runs on no machine
ready_or : (o : Option Goroutine) (answer : Woke) (epoch : ℕ) (n : MNo) → o ≡ Some (record { status = status.Ready Out answer; epoch = epoch }) → option_map (λ (x : Goroutine). x.status) o ≡ Some (status.Running n) → ⊥
ready_or o answer epoch n ready runs =
    let no : Some (status.Ready Out answer) ≡ Some (status.Running n) = sym (ap (λ (p : Option Goroutine). option_map (λ (x : Goroutine). x.status) p) ready) ∙ runs in cc

-- where nothing changes, and less is known of makes
pub kept : (limits : Limits) (capacities : List ℕ) (script : List Commands) (P Q : Type 0) (weaker : Q → P) (k k' : System) (stock stock' : List (Option Commands)) → k' ≡ k → stock' ≡ stock
    → Follows limits capacities script P k stock → Follows limits capacities script Q k' stock'
kept limits capacities script P Q weaker k k' stock stock' e same f = subst (Follows limits capacities script Q k') (sym same) (subst (λ (j : System). Follows limits capacities script Q j stock) (sym e) (record {
  sound = f.sound;
  limits_are = f.limits_are;
  now = f.now;
  many = f.many;
  said = f.said;
  whole = λ q. f.whole (weaker q);
  ties = f.ties;
}))

-- One act of machine m
module _ (limits : Limits) (capacities : List ℕ) (script : List Commands) (P Q : Type 0) (weaker : Q → P) (k : System) (stock : List (Option Commands)) (f : Follows limits capacities script P k stock)
    (m : MNo) (inside : m.0 < length k.machines) where
  abbrev X : PlainMachine
  X = machine_at k m

  abbrev table : Table
  table = k.book.state.table

  -- nobody else has in hand what this machine has
  only : (g : GNo) → HasInHand k m g → (n : MNo) → n.0 < length k.machines → held_number (get_or k.machines n.0 no_machine).hand.held ≡ Some g → n ≡ m
  only g mine n within held = (headline_of k f.sound).held_once n m g (inl held) mine

  -- nor is about to end its blocking call, and the other way round
  none_brings : (g : GNo) → held_number (machine_at k m).hand.held ≡ Some g → due_at (machine_at k m).place ≡ None
      → (n : MNo) (number : ℕ) → n.0 < length k.machines → IsBringing (get_or k.machines n.0 no_machine) g number → ⊥
  none_brings g held none n number within bringing =
      let same : n ≡ m = (headline_of k f.sound).held_once n m g (inr bringing.1) (inl held) in
      not_bringing (machine_at k m) none g number (subst (λ (i : MNo). IsBringing (machine_at k i) g number) same bringing)

  none_asks : (g : GNo) (number : ℕ) → IsBringing (machine_at k m) g number → NoneAsks k.machines g
  none_asks g number bringing n asked within asking =
      let same : n ≡ m = (headline_of k f.sound).held_once n m g (inl asking.1) (inr bringing.1) in
      let here : IsAsking (machine_at k m) g asked = subst (λ (i : MNo). IsAsking (machine_at k i) g asked) same asking in
      let no : Some (inl asked) ≡ Some (inr number) = sym here.0 ∙ bringing.0 in cc

  -- nothing of a body's is due at the machine, before and after, and there is no entry
  quiet : (x' : PlainMachine) (queues : List (List Readiness)) → IsSound (record k { machines = set k.machines m.0 x'; queues = queues }) → due_at (machine_at k m).place ≡ None → IsQuiet (machine_at k m) x'
      → Follows limits capacities script Q (record k { machines = set k.machines m.0 x'; queues = queues }) stock
  quiet x' queues sound was is = record {
    sound = sound;
    limits_are = f.limits_are;
    now = f.now;
    many = f.many;
    said = f.said;
    whole = λ q. f.whole (weaker q);
    ties = λ goes. ties_quiet k.machines m x' stock f.now inside (f.ties goes) (not_asking X was) (not_asking x' is.0) is.1 (λ g number q. absurd (not_bringing x' is.0 g number q));
  }

  quiet_at : (x' : PlainMachine) (queues : List (List Readiness)) (k' : System) (stock' : List (Option Commands)) → IsSound k' → k' ≡ record k { machines = set k.machines m.0 x'; queues = queues } → stock' ≡ stock
      → due_at (machine_at k m).place ≡ None → IsQuiet (machine_at k m) x' → Follows limits capacities script Q k' stock'
  quiet_at x' queues k' stock' sound e same was is =
      subst (Follows limits capacities script Q k') (sym same) (subst (λ (j : System). Follows limits capacities script Q j stock) (sym e) (quiet x' queues (subst IsSound e sound) was is))

  -- a body asks
  resumes : (asked : Ask) (k' : System) (stock' : List (Option Commands)) → IsSound k' → k' ≡ record k { machines = set k.machines m.0 (after (machine_at k m) (told.Asked asked)) }
      → (machine_at k m).place ≡ place.Run → TakesAsk k m asked stock stock' → Follows limits capacities script Q k' stock'
  resumes asked k' stock' sound e at takes =
      let number : held_number X.hand.held ≡ Some takes.g = sym (ap (λ (p : Place). goroutine_at p X.hand) at) ∙ takes.in_hand in
      let waits : held_at place.Run X.hand.held ≡ Some takes.told = sym (ap (λ (p : Place). held_at p X.hand.held) at) ∙ takes.holds in
      let h : HeldParts Unit = record { g = takes.g; woke = takes.told; body = tt } in
      let held : X.hand.held ≡ Some h = run_at X.hand.held takes.g takes.told number waits in
      let none : due_at X.place ≡ None = ap due_at at in
      let leads : due_at (after X (told.Asked asked)).place ≡ Some (inl asked) = ap (λ (p : Place). due_at (next_place (seen X) p (told.Asked asked))) at in
      subst (Follows limits capacities script Q k') (sym takes.goes) (subst (λ (j : System). Follows limits capacities script Q j (set stock takes.g.0 (Some takes.after))) (sym e) (record {
        sound = subst IsSound e sound;
        limits_are = f.limits_are;
        now = f.now;
        many = f.many;
        said = f.said;
        whole = λ q. f.whole (weaker q);
        ties = λ goes. ties_asks k.machines m (after X (told.Asked asked)) stock f.now inside (f.ties goes) h asked takes.before takes.after held refl (not_asking X none) leads
            (λ n a within asking. only takes.g (inl number) n within asking.1) (none_brings takes.g number none) takes.has takes.asks;
      }))

  -- a body's blocking call answers
  blocks : (number : ℕ) (k' : System) (stock' : List (Option Commands)) → IsSound k' → k' ≡ record k { machines = set k.machines m.0 (after (machine_at k m) (told.Number number)) }
      → (machine_at k m).place ≡ place.Block → AnswersLast k m number stock stock' → Follows limits capacities script Q k' stock'
  blocks number k' stock' sound e at answers =
      let x' : PlainMachine = after X (told.Number number) in
      let called : called_number X.hand.called ≡ Some answers.g = sym (ap (λ (p : Place). goroutine_at p X.hand) at) ∙ answers.in_hand in
      let none : due_at X.place ≡ None = ap due_at at in
      let leads : due_at x'.place ≡ Some (inr number) = ap (λ (p : Place). due_at (next_place (seen X) p (told.Number number))) at in
      let asks_none : (g : GNo) (asked : Ask) → IsAsking x' g asked → ⊥ = (λ g asked q. let no : Some (inr number) ≡ Some (inl asked) = sym leads ∙ q.0 in cc) in
      let says : (g : GNo) (n : ℕ) → IsBringing x' g n → Says g n stock = (λ g n q.
      let who : answers.g ≡ g = (let both : Some answers.g ≡ Some g = sym called ∙ q.1 in cc) in
      let what : number ≡ n = (let both : Some (inr number) ≡ Some (inr n) = sym leads ∙ q.0 in cc) in
      record { body = answers.body; in_stock = subst (λ (i : GNo). slice_get stock i.0 ≡ Some (Some answers.body)) who answers.has; says = sym what ∙ answers.says }) in
      subst (Follows limits capacities script Q k') (sym answers.stays) (subst (λ (j : System). Follows limits capacities script Q j stock) (sym e) (record {
        sound = subst IsSound e sound;
        limits_are = f.limits_are;
        now = f.now;
        many = f.many;
        said = f.said;
        whole = λ q. f.whole (weaker q);
        ties = λ goes. ties_quiet k.machines m x' stock f.now inside (f.ties goes) (not_asking X none) asks_none (λ h held. held) says;
      }))

  -- the call finds the run over
  stops : (x' : PlainMachine) (own' : List Made) → IsSound (record k { machines = set k.machines m.0 x'; own = own' }) → k.book.state.outcome ≢ None
      → Follows limits capacities script Q (record k { machines = set k.machines m.0 x'; own = own' }) stock
  stops x' own' sound over = record {
    sound = sound;
    limits_are = f.limits_are;
    now = f.now;
    many = f.many;
    said = f.said;
    whole = λ q. f.whole (weaker q);
    ties = λ goes. absurd (over goes);
  }

  -- the goroutine whose call is next
  asking : (asked : Ask) → (machine_at k m).place ≡ place.Do asked → (h : HeldParts Unit) × ((machine_at k m).hand.held ≡ Some h) × ((machine_at k m).hand.called ≡ None)
  asking asked at =
      let mine : Agrees k.book m X = f.sound.each m inside in
      let runs : Runs X.hand = subst (λ (p : Place). SuitsPlace p X.hand) at (mine.driver.fits (ap is_some mine.has_pass)) in
      let h = some_of X.hand.held runs.has_held in
      (h.0, h.1, none_of X.hand.called runs.has_called)

  -- the goroutine whose blocking call ends next
  bringing : (number : ℕ) → (machine_at k m).place ≡ place.Leave number → (c : CalledParts Unit) × ((machine_at k m).hand.called ≡ Some c) × ((machine_at k m).hand.held ≡ None)
  bringing number at =
      let mine : Agrees k.book m X = f.sound.each m inside in
      let calls : Calls X.hand = subst (λ (p : Place). SuitsPlace p X.hand) at (mine.driver.fits (ap is_some mine.has_pass)) in
      let c = some_of X.hand.called calls.has_called in
      (c.0, c.1, none_of X.hand.held calls.has_held)

  -- an entry more
  is_step : (c : Call) (answer : Reply) (s' : State) → Step k.book.limits m c answer k.book.state s' → IsStep limits (record { m = m; k = count_of k.book m; call = c; reply = answer }) k.book.state s'
  is_step c answer s' step =
      let sizes = legal_sizes k.book.limits k.book.bodies k.book.capacities k.book.history k.book.state f.sound.within f.sound.legal in
      let few : m.0 < length k.book.state.counts = (let n = sizes.counts in let l = f.sound.count in omega (arith, n, l, inside)) in
      (slice_get-get_or k.book.state.counts m.0 0 few, subst (λ (l : Limits). Step l m c answer k.book.state s') f.limits_are step)

  enters_one : (c : Call) (answer : Reply) (x' : PlainMachine) (book' : BookRun) (own' : List Made) (now' : Speakers) → IsSound (record k { book = book'; machines = set k.machines m.0 x'; own = own' })
      → book' ≡ record k.book { history = book'.history; state = book'.state } → book'.history ≡ k.book.history ++ record { m = m; k = count_of k.book m; call = c; reply = answer } ∷ []
      → length now' ≡ length f.now → Step k.book.limits m c answer k.book.state book'.state → LeadsBodies m c answer k.book.state.table f.now now' → Ties (set k.machines m.0 x') stock now'
      → Follows limits capacities script Q (record k { book = book'; machines = set k.machines m.0 x'; own = own' }) stock
  enters_one c answer x' book' own' now' sound opened entry count step leads tied =
      let e : Entry = record { m = m; k = count_of k.book m; call = c; reply = answer } in
      record {
        sound = sound;
        limits_are = ap (λ (b : BookRun). b.limits) opened ∙ f.limits_are;
        now = now';
        many = count ∙ f.many ∙ sym (ap (λ (b : BookRun). b.bodies) opened);
        said = subst (λ (h : List Entry). IsSaid AsksTold BringsLast limits capacities script h book'.state now') (sym entry)
            (says_more AsksTold BringsLast limits capacities script k.book.history k.book.state f.now now' f.said e book'.state (is_step c answer book'.state step) leads);
        whole = λ q. subst (λ (h : List Entry). IsRunOf limits capacities script h book'.state now') (sym entry)
            (runs_on limits (opening limits (length script) capacities) k.book.state book'.state (map unheard script) f.now now' k.book.history e (f.whole (weaker q)) (is_step c answer book'.state step) leads);
        ties = λ _. tied;
      }

  -- it makes a body's call
  asked_enters : (c : Call) (x' : PlainMachine) (book' : BookRun) (own' : List Made) → IsSound (record k { book = book'; machines = set k.machines m.0 x'; own = own' }) → (asked : Ask) → (machine_at k m).place ≡ place.Do asked
      → c ≡ call_for asked → Accepted (machine_at k m) m c k.book k.own x' book' own' → Follows limits capacities script Q (record k { book = book'; machines = set k.machines m.0 x'; own = own' }) stock
  asked_enters c x' book' own' sound asked at is done =
      let mine = asking asked at in
      let h : HeldParts Unit = mine.0 in
      let number : held_number X.hand.held ≡ Some h.g = ap held_number mine.1 in
      let it : IsAhead h.g asked stock f.now = (f.ties done.step.0).ahead m h.g asked inside (ap due_at at, number) in
      let s' : Speaker Commands = record { body = it.after; woke = woke_after done.answer } in
      let now' : Speakers = set f.now h.g.0 s' in
      let asks : AsksFor AsksTold BringsLast m (call_for asked) done.answer table f.now now' = record {
        g = h.g;
        runs = done.granted.has.runs h.g number;
        before = it.before;
        has = it.in_now;
        asked = asked;
        after = it.after;
        asks = it.asks;
        calls = refl;
        goes = refl;
      } in
      let leads : LeadsBodies m c done.answer table f.now now' =
      subst (λ (d : Call). LeadsBodies m d done.answer table f.now now') (sym is) (leads_asked m asked done.answer table f.now now' asks) in
      let none : due_at x'.place ≡ None = told_reply x' _ asked done.answer done.machine at in
      let hands : x'.hand ≡ hand_after table (call_for asked) done.answer X.hand = ap (λ (z : PlainMachine). z.hand) done.machine ∙ ap (λ (d : Call). hand_after table d done.answer X.hand) is in
      let leaves : Leaves h (woke_after done.answer) x'.hand =
      subst (Leaves h (woke_after done.answer)) (sym hands) (asked_leaves table asked done.answer X.hand h mine.1 mine.2) in
      enters_one c done.answer x' book' own' now' sound done.opened done.entry (length-set f.now h.g.0 s') done.step leads
      (ties_turns k.machines m x' stock f.now inside (f.ties done.step.0) h.g it.before s' it.in_now it.in_stock
      (is_told (record { g = h.g; woke = woke_after done.answer; body = tt }) x'.hand.held leaves.0) (only h.g (inl number)) (λ i a q. same_number X.hand.held h i mine.1 q.1) (not_asking x' none) (not_bringing x' none))

  -- it ends a blocking call
  left_enters : (c : Call) (x' : PlainMachine) (book' : BookRun) (own' : List Made) → IsSound (record k { book = book'; machines = set k.machines m.0 x'; own = own' }) → (number : ℕ) → (machine_at k m).place ≡ place.Leave number
      → c ≡ call.Leave number → Accepted (machine_at k m) m c k.book k.own x' book' own' → Follows limits capacities script Q (record k { book = book'; machines = set k.machines m.0 x'; own = own' }) stock
  left_enters c x' book' own' sound number at is done =
      let mine = bringing number at in
      let g : GNo = mine.0.g in
      let called : called_number X.hand.called ≡ Some g = ap called_number mine.1 in
      let brings : IsBringing X g number = (ap due_at at, called) in
      let its : Says g number stock = (f.ties done.step.0).brings m g number inside brings in
      let was = speaker_of (slice_get f.now g.0) its.body (sym its.in_stock ∙ (f.ties done.step.0).even g (none_asks g number brings)) in
      let s' : Speaker Commands = record { body = its.body; woke = woke.Number number } in
      let now' : Speakers = set f.now g.0 s' in
      let brought : Brings AsksTold BringsLast m number table f.now now' = record {
        g = g;
        calls = done.granted.has.calls g called;
        before = was.0;
        has = was.1;
        after = its.body;
        brings = (its.says ∙ ap (λ (b : Commands). asked_last b) (sym was.2), sym was.2);
        goes = refl;
      } in
      let leads : LeadsBodies m c done.answer table f.now now' = subst (λ (d : Call). LeadsBodies m d done.answer table f.now now') (sym is) brought in
      let hands : x'.hand ≡ hand_after table (call.Leave number) done.answer X.hand = ap (λ (z : PlainMachine). z.hand) done.machine ∙ ap (λ (d : Call). hand_after table d done.answer X.hand) is in
      let comes : ComesBack mine.0 number done.answer x'.hand =
      subst (ComesBack mine.0 number done.answer) (sym hands) (leave_leaves table number done.answer X.hand mine.0 mine.1 mine.2) in
      enters_one c done.answer x' book' own' now' sound done.opened done.entry (length-set f.now g.0 s') done.step leads
      (ties_turns k.machines m x' stock f.now inside (f.ties done.step.0) g was.0 s' was.1 its.in_stock
      (is_told (record { g = g; woke = woke.Number number; body = tt }) x'.hand.held (back_held mine.0 number done.answer x'.hand comes)) (only g (inr called))
      (λ i a q. absurd (let no : Some (inr number) ≡ Some (inl a) = sym brings.0 ∙ q.0 in cc)) (left_asks x' _ number done.answer done.machine at) (left_brings x' table X.hand number done.answer hands))

  -- it claims a ticket
  claim_enters : (c : Call) (x' : PlainMachine) (book' : BookRun) (own' : List Made) → IsSound (record k { book = book'; machines = set k.machines m.0 x'; own = own' }) → (r : Readiness) → due_at (machine_at k m).place ≡ None
      → c ≡ call.Claim r → Accepted (machine_at k m) m c k.book k.own x' book' own' → Follows limits capacities script Q (record k { book = book'; machines = set k.machines m.0 x'; own = own' }) stock
  claim_enters c x' book' own' sound r none is done =
      let needs : Needs m (call.Claim r) k.book.state = subst (λ (d : Call). Needs m d k.book.state) is done.granted.needs in
      let out : IsOutstanding table r = needs.2 in
      let sizes = legal_sizes k.book.limits k.book.bodies k.book.capacities k.book.history k.book.state f.sound.within f.sound.legal in
      let few : r.g.0 < length f.now =
      (let within = slice_get_within table.goroutines r.g.0 (record { status = status.Ready Out out.0; epoch = r.epoch }) out.1 in let n = sizes.goroutines in let l = f.many in omega (arith, within, n, l)) in
      let s : Speaker Commands = get_or f.now r.g.0 (unheard (record { commands = []; next = 0 })) in
      let has : slice_get f.now r.g.0 ≡ Some s = slice_get-get_or f.now r.g.0 (unheard (record { commands = []; next = 0 })) few in
      let nobody : (n : MNo) → n.0 < length k.machines → held_number (get_or k.machines n.0 no_machine).hand.held ≡ Some r.g → ⊥ =
      (λ n within held. ready_or (slice_get table.goroutines r.g.0) out.0 r.epoch n out.1 ((f.sound.each n within).has.runs r.g held)) in
      let in_stock : slice_get stock r.g.0 ≡ Some (Some s.body) =
      (f.ties done.step.0).even r.g (λ n a within q. nobody n within q.1) ∙ ap (λ (o : Option (Speaker Commands)). body_of o) has in
      let s' : Speaker Commands = record { body = s.body; woke = stored_at table r.g } in
      let now' : Speakers = set f.now r.g.0 s' in
      let takes : TakesUp AsksTold BringsLast r table f.now now' = record { before = s; has = has; goes = refl } in
      let leads : LeadsBodies m c done.answer table f.now now' = subst (λ (d : Call). LeadsBodies m d done.answer table f.now now') (sym is) takes in
      let hands : x'.hand ≡ hand_after table (call.Claim r) done.answer X.hand = ap (λ (z : PlainMachine). z.hand) done.machine ∙ ap (λ (d : Call). hand_after table d done.answer X.hand) is in
      let none' : due_at x'.place ≡ None = told_other x' _ (told.Replied done.answer) done.machine none tt in
      enters_one c done.answer x' book' own' now' sound done.opened done.entry (length-set f.now r.g.0 s') done.step leads
      (ties_turns k.machines m x' stock f.now inside (f.ties done.step.0) r.g s s' has in_stock
      (is_told (claimed_parts table r) x'.hand.held (inr (ap (λ (z : PlainHand). z.held) hands))) (λ n within held. absurd (nobody n within held))
      (λ i a q. absurd (not_asking X none i a q)) (not_asking x' none') (not_bringing x' none'))

  -- another call of its own
  own_enters : (c : Call) (x' : PlainMachine) (book' : BookRun) (own' : List Made) → IsSound (record k { book = book'; machines = set k.machines m.0 x'; own = own' }) → due_at (machine_at k m).place ≡ None → IsOwn c
      → ((r : Readiness) → c ≡ call.Claim r → ⊥) → Accepted (machine_at k m) m c k.book k.own x' book' own' → Follows limits capacities script Q (record k { book = book'; machines = set k.machines m.0 x'; own = own' }) stock
  own_enters c x' book' own' sound none own other done =
      let none' : due_at x'.place ≡ None = told_other x' _ (told.Replied done.answer) done.machine none tt in
      let keeps : KeepsGoroutines X.hand x'.hand =
      subst (KeepsGoroutines X.hand) (sym (ap (λ (z : PlainMachine). z.hand) done.machine)) (own_keeps table c done.answer X.hand own other) in
      enters_one c done.answer x' book' own' f.now sound done.opened done.entry refl done.step (leads_own m c done.answer table f.now own other)
      (ties_quiet k.machines m x' stock f.now inside (f.ties done.step.0) (not_asking X none) (not_asking x' none') (λ h e. sym keeps.0 ∙ e) (λ g n q. absurd (not_bringing x' none' g n q)))

  -- the call is accepted
  accepted : (c : Call) (x' : PlainMachine) (book' : BookRun) (own' : List Made) → IsSound (record k { book = book'; machines = set k.machines m.0 x'; own = own' }) → TellsPlace (machine_at k m).place (act.Call c)
      → Accepted (machine_at k m) m c k.book k.own x' book' own' → Follows limits capacities script Q (record k { book = book'; machines = set k.machines m.0 x'; own = own' }) stock
  accepted c x' book' own' sound (inl (asked, at, is)) done = asked_enters c x' book' own' sound asked at is done
  accepted c x' book' own' sound (inr (inl (number, at, is))) done = left_enters c x' book' own' sound number at is done
  accepted c x' book' own' sound (inr (inr (none, own))) done = elim (claim_or c) [
    | inl claim ↦ claim_enters c x' book' own' sound claim.0 none claim.1 done
    | inr other ↦ own_enters c x' book' own' sound none own other done
  ]

  -- memory is refused for a make
  unmade : (c : Call) (x' : PlainMachine) (book' : BookRun) (own' : List Made) → IsSound (record k { machines = set k.machines m.0 x'; own = own' }) → (Q → ⊥) → TellsPlace (machine_at k m).place (act.Call c)
      → Unmade (machine_at k m) m c k.book k.own x' book' own' → Follows limits capacities script Q (record k { machines = set k.machines m.0 x'; own = own' }) stock
  unmade c x' book' own' sound never (inl (asked, at, is)) want =
      let mine = asking asked at in
      let h : HeldParts Unit = mine.0 in
      let number : held_number X.hand.held ≡ Some h.g = ap held_number mine.1 in
      let it : IsAhead h.g asked stock f.now = (f.ties want.lasts).ahead m h.g asked inside (ap due_at at, number) in
      let makes : WantsMemory limits (call_for asked) k.book.state = subst (λ (l : Limits). WantsMemory l (call_for asked) k.book.state) f.limits_are (subst (λ (d : Call). WantsMemory k.book.limits d k.book.state) is want.makes) in
      let make = make_is limits k.book.state asked makes in
      let at' : X.place ≡ place.Do (ask.Make make.0) = at ∙ ap place.Do make.1 in
      let none : due_at x'.place ≡ None = told_refusal x' _ make.0 want.machine at' in
      let s' : Speaker Commands = record { body = it.after; woke = woke.NoMemory } in
      let now' : Speakers = set f.now h.g.0 s' in
      let held' : x'.hand.held ≡ Some (record h { woke = woke.NoMemory }) = ap (λ (z : PlainMachine). z.hand.held) want.machine ∙ ap (λ (o : Option (HeldParts Unit)). retold woke.NoMemory o) mine.1 in
      let skips : PassesMake AsksTold BringsLast limits k.book.state f.now now' = record {
        lasts = want.lasts;
        m = m;
        g = h.g;
        runs = want.granted.has.runs h.g number;
        before = it.before;
        has = it.in_now;
        capacity = make.0;
        after = it.after;
        asks = subst (λ (a : Ask). AsksTold it.before.body it.before.woke a it.after) make.1 it.asks;
        wants = subst (λ (a : Ask). WantsMemory limits (call_for a) k.book.state) make.1 makes;
        goes = refl;
      } in
      record {
        sound = sound;
        limits_are = f.limits_are;
        now = now';
        many = length-set f.now h.g.0 s' ∙ f.many;
        said = says_on AsksTold BringsLast limits capacities script k.book.history k.book.state f.now now' f.said (None ∷ []) refl (now', skips, (refl, refl));
        whole = λ q. absurd (never q);
        ties = λ goes. ties_turns k.machines m x' stock f.now inside (f.ties want.lasts) h.g it.before s' it.in_now it.in_stock (is_told (record h { woke = woke.NoMemory }) x'.hand.held (inr held')) (only h.g (inl number))
            (λ i a q. same_number X.hand.held h i mine.1 q.1) (not_asking x' none) (not_bringing x' none);
      }
  unmade c x' book' own' sound never (inr (inl (number, at, is))) want = absurd (subst (λ (d : Call). WantsMemory k.book.limits d k.book.state) is want.makes)
  unmade c x' book' own' sound never (inr (inr (none, own))) want = absurd (no_make k.book.limits k.book.state c own want.makes)

  -- whatever a call comes to
  calls : (c : Call) (choice : Choice) (k' : System) → IsSound k' → next_act (machine_at k m) ≡ act.Call c → (Q → IsUnmade k m k' → ⊥) → DoesAct (act.Call c) k m choice k' → Follows limits capacities script Q k' stock
  calls c choice k' sound e never d = subst (λ (j : System). Follows limits capacities script Q j stock) (sym d.4) (by_answer d.0 d.1 d.2 (subst IsSound d.4 sound) (λ q u. never q (unmade_then u)) d.3) where
    unmade_then : IsUnmade k m (record k { book = d.1; machines = set k.machines m.0 d.0; own = d.2 }) → IsUnmade k m k'
    unmade_then u = subst (IsUnmade k m) (sym d.4) u

    tells_c : TellsPlace (machine_at k m).place (act.Call c)
    tells_c = subst (TellsPlace X.place) e (tells_place (seen X) X.place)

    same_book : (x' : PlainMachine) (book' : BookRun) (own' : List Made) → book' ≡ k.book → IsSound (record k { book = book'; machines = set k.machines m.0 x'; own = own' }) → IsSound (record k { machines = set k.machines m.0 x'; own = own' })
    same_book x' book' own' same h = subst (λ (b : BookRun). IsSound (record k { book = b; machines = set k.machines m.0 x'; own = own' })) same h

    other_book : (x' : PlainMachine) (book' : BookRun) (own' : List Made) → book' ≡ k.book → Follows limits capacities script Q (record k { machines = set k.machines m.0 x'; own = own' }) stock
        → Follows limits capacities script Q (record k { book = book'; machines = set k.machines m.0 x'; own = own' }) stock
    other_book x' book' own' same h = subst (λ (b : BookRun). Follows limits capacities script Q (record k { book = b; machines = set k.machines m.0 x'; own = own' }) stock) (sym same) h

    by_answer : (x' : PlainMachine) (book' : BookRun) (own' : List Made) → IsSound (record k { book = book'; machines = set k.machines m.0 x'; own = own' })
        → (Q → IsUnmade k m (record k { book = book'; machines = set k.machines m.0 x'; own = own' }) → ⊥) → Answers (machine_at k m) m c k.book k.own x' book' own'
        → Follows limits capacities script Q (record k { book = book'; machines = set k.machines m.0 x'; own = own' }) stock
    by_answer x' book' own' sound' never' (inl done) = accepted c x' book' own' sound' tells_c done
    by_answer x' book' own' sound' never' (inr (inl stop)) = other_book x' book' own' stop.same (stops x' own' (same_book x' book' own' stop.same sound') stop.over)
    by_answer x' book' own' sound' never' (inr (inr (inl want))) = other_book x' book' own' want.same (unmade c x' book' own' (same_book x' book' own' want.same sound')
        (λ q. never' q (record { inside = inside; asked = c; asks = e; lasts = want.lasts; wants = want.makes; same = want.same })) tells_c want)
    by_answer x' book' own' sound' never' (inr (inr (inr declined))) = absurd (declined.unmet (granted k m c inside f.sound e declined.lasts))

  -- whatever the act is
  pub does : (a : Act) (choice : Choice) (k' : System) (stock' : List (Option Commands)) → IsSound k' → next_act (machine_at k m) ≡ a → TellsPlace (machine_at k m).place a → (Q → IsUnmade k m k' → ⊥)
      → DoesAct a k m choice k' → LeadsStock (wanted_by a) k m choice stock stock' → Follows limits capacities script Q k' stock'
  does (act.Call c) choice k' stock' sound e at never d same = subst (Follows limits capacities script Q k') (sym same) (calls c choice k' sound e never d)
  does act.Resume choice k' stock' sound e at never d takes = resumes choice.ask k' stock' sound d at takes
  does act.Pop choice k' stock' sound e at never d same =
      quiet_at (own_taken_from false X k.queues (queue_of k.queues (own_processor X.hand))).0 (own_taken_from false X k.queues (queue_of k.queues (own_processor X.hand))).1 k' stock' sound d same at
      (taken_quiet false X k.queues (queue_of k.queues (own_processor X.hand)) at)
  does act.Drain choice k' stock' sound e at never d same =
      quiet_at (own_taken_from true X k.queues (queue_of k.queues (own_processor X.hand))).0 (own_taken_from true X k.queues (queue_of k.queues (own_processor X.hand))).1 k' stock' sound d same at
      (taken_quiet true X k.queues (queue_of k.queues (own_processor X.hand)) at)
  does act.Push choice k' stock' sound e at never d same =
      quiet_at (pushed X k.queues X.hand.to_store choice.push_refused).0 (pushed X k.queues X.hand.to_store choice.push_refused).1 k' stock' sound d same at
      (pushed_quiet X k.queues X.hand.to_store choice.push_refused at)
  does act.Hunt choice k' stock' sound e at never d same =
      let v : PNo = victim_of X.procs (begun (seen X) choice.word) in
      quiet_at (stolen X (Some choice.word) k.queues v choice.unsure).0 (stolen X (Some choice.word) k.queues v choice.unsure).1 k' stock' sound d same at (stolen_quiet X (Some choice.word) k.queues v choice.unsure at)
  does (act.Steal v) choice k' stock' sound e at never d same =
      quiet_at (stolen X None k.queues v choice.unsure).0 (stolen X None k.queues v choice.unsure).1 k' stock' sound d same at (stolen_quiet X None k.queues v choice.unsure at)
  does act.Block choice k' stock' sound e at never d answers = blocks choice.number k' stock' sound d at answers
  does (act.Clock deadline) choice k' stock' sound e at never d same = quiet_at (after X (told.Moment choice.moment)) k.queues k' stock' sound d same at (stays (seen X) X.place (told.Moment choice.moment) at tt, λ h held. held)
  does (act.Surrender which) choice k' stock' sound e at never d same = quiet_at (given_back X which) k.queues k' stock' sound d same at (given_quiet X which at)
  does act.Nothing choice k' stock' sound e at never d same = kept limits capacities script P Q weaker k k' stock stock' d same f

-- One act more: under what was known of makes, and that none is refused by this act.
pub act_follows : (limits : Limits) (capacities : List ℕ) (script : List Commands) (P : Type 0) (k : System) (stock : List (Option Commands)) (m : MNo) (choice : Choice) (k' : System) (stock' : List (Option Commands))
    → Acts k m choice k' → LeadsStock (wanted_by (next_act (machine_at k m))) k m choice stock stock' → Follows limits capacities script P k stock
    → Follows limits capacities script (P × (¬ (IsUnmade k m k'))) k' stock'
act_follows limits capacities script P k stock m choice k' stock' acts leads f =
    elim (cases_lt m.0 (length k.machines)) [
      | inl inside ↦ does limits capacities script P (P × (¬ (IsUnmade k m k'))) (λ q. q.0) k stock f m inside (next_act (machine_at k m)) choice k' stock' (act_sound k m choice k' acts f.sound) refl
          (tells_place (seen (machine_at k m)) (machine_at k m).place) (λ q. q.1) (acts.by_place inside) leads
      | inr past ↦ kept limits capacities script P (P × (¬ (IsUnmade k m k'))) (λ q. q.0) k k' stock stock' (acts.else_none past)
          (subst (λ (x : PlainMachine). LeadsStock (wanted_by (next_act x)) k m choice stock stock') (get_or_past k.machines m.0 no_machine past) leads) f
    ]
