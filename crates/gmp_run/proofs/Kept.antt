-- A turn and a surrender keep bodies, whatever becomes of owners.
use Rattle.std.proofs.Common.{◌≡◌, ◌⊎◌, inl, inr, ℕ, Bool, true, false, Option, None, Some, IsNone, Result, Ok, Err, refl, sym, ap, subst, ◌∙◌}
use Rattle.gmp_base.specs.declared.pass.Pass.{Pass}
use Rattle.gmp_base.specs.declared.refusal.Refusal.{Refusal}
use Rattle.gmp_seq.specs.declared.call.Call.{Call}
use Rattle.gmp_seq.specs.declared.call.Call.TheVariants as call
use Rattle.gmp_seq.specs.declared.call.Reply.{Reply}
use Rattle.gmp_seq.specs.declared.call.Reply.TheVariants as reply
use Rattle.gmp_book.specs.declared.values.Values.{Values}
use Rattle.gmp_book.specs.Book.{BookContents}
use Rattle.gmp_book.specs.Hands.{back_where, claimed, is_make, told_by, way_of}
use Rattle.gmp_journal.specs.Known.{known_by}
use Rattle.gmp_driver.specs.declared.act.Act.{Act}
use Rattle.gmp_driver.specs.declared.act.Act.TheVariants as act
use Rattle.gmp_driver.specs.declared.act.Value.{Value}
use Rattle.gmp_driver.specs.declared.act.Value.TheVariants as value
use Rattle.gmp_driver.specs.declared.registers.Registers.{Registers}
use Rattle.gmp_driver.specs.Fits.{SuitsPlace}
use Rattle.gmp_driver.specs.Loads.{load_of, parts_of}
use Rattle.gmp_driver.specs.Machine.{Machine}
use Rattle.gmp_driver.specs.Registers.{joined, unused, used}
use Rattle.gmp_driver.specs.Table.{next_act}
use Rattle.gmp_driver.specs.Uses.{Uses}
use Rattle.gmp_driver.proofs.Parts.{whole}
use Rattle.gmp_driver.proofs.Uses.{uses}
use Rattle.gmp_acts.proofs.Replies.{CanReply, Goes, replies}
use Rattle.gmp_turn.specs.Surrenders.{Surrenders, book_with, load_without, surrendered}
use Rattle.gmp_turn.specs.Turns.{Turns, hand_with, is_to_claim, load_back, values_in}
use Rattle.gmp_turn.specs.Values.{AreOut, KeepsValues, body_in}
use Rattle.gmp_turn.proofs.Keeping.{stay}
use Rattle.gmp_turn.proofs.Moving.{MayGo, MayPass, body_kept, called_same, give_called, give_held, held_again, held_same}

module _ {T Q : Type 0} where
  -- bodies are kept
  abbrev pub BodiesKept : Registers T Q → Registers T Q → BookContents T Q → BookContents T Q → Type 0
  BodiesKept hand hand' book book' = KeepsValues (body_in hand) (body_in hand') book.bodies book'.bodies

  -- What a call uses and leaves suits its reply

  abbrev MayTurn : Call → Reply → Registers T Q → Type 0
  MayTurn c answer hand =
      (let u = used (act.Call c) hand in
      let l = unused (act.Call c) hand in
      MayGo (way_of answer) u.held u.called l.held l.called × MayPass answer u.processor l.processor)

  -- Park stands for each call of the goroutine that runs
  asks : (answer : Reply) (hand : Registers T Q) → hand.called ≡ None → Goes answer → MayTurn call.Gopark answer hand
  asks reply.Waits hand free can = ((refl, free, inr refl), tt)
  asks (reply.Ticket r) hand free can = (tt, tt)
  asks (reply.Channel c) hand free can = (tt, tt)
  asks (reply.Sent to) hand free can = (tt, tt)
  asks (reply.Got v sent from) hand free can = (tt, tt)
  asks (reply.Closed count) hand free can = (tt, tt)
  asks (reply.Number count) hand free can = (tt, tt)
  asks (reply.Chose i how) hand free can = (tt, tt)
  asks reply.Default hand free can = (tt, tt)
  asks (reply.Fault f) hand free can = (tt, tt)
  asks _ hand free can = absurd can

  may_turn : (c : Call) (answer : Reply) (hand : Registers T Q) → Uses c hand → CanReply c answer → MayTurn c answer hand
  may_turn call.Acquire (reply.Proc p) hand u can = (tt, (refl, u))
  may_turn call.Acquire reply.Nothing hand u can = (tt, tt)
  may_turn call.Acquire _ hand u can = absurd can
  may_turn call.Take (reply.Ticket r) hand u can = (tt, tt)
  may_turn call.Take reply.Nothing hand u can = (tt, tt)
  may_turn call.Take _ hand u can = absurd can
  may_turn (call.Put r) reply.Shelf hand u can = (tt, tt)
  may_turn (call.Put r) _ hand u can = absurd can
  may_turn (call.Claim r) reply.Held hand u can = ((refl, refl, u.1, u.2), tt)
  may_turn (call.Claim r) _ hand u can = absurd can
  may_turn call.Yield (reply.Shelved r) hand u can = ((refl, u.1, inr refl), tt)
  may_turn call.Yield _ hand u can = absurd can
  may_turn call.Exit reply.Dead hand u can = ((refl, u.1, inr refl), tt)
  may_turn call.Exit reply.MainEnded hand u can = ((refl, u.1, inr refl), tt)
  may_turn call.Exit _ hand u can = absurd can
  may_turn call.Enter (reply.Entered p woken) hand u can = ((refl, refl, u.2), refl)
  may_turn call.Enter _ hand u can = absurd can
  may_turn (call.Leave number) (reply.Runs p) hand u can = ((refl, u.1, refl), (refl, u.2))
  may_turn (call.Leave number) (reply.Shelved r) hand u can = ((u.1, refl, inl refl), tt)
  may_turn (call.Leave number) _ hand u can = absurd can
  may_turn call.Spin (reply.Answer b) hand u can = (tt, tt)
  may_turn call.Spin _ hand u can = absurd can
  may_turn call.Woken (reply.Answer b) hand u can = (tt, tt)
  may_turn call.Woken _ hand u can = absurd can
  may_turn call.Keep (reply.Answer b) hand u can = (tt, tt)
  may_turn call.Keep _ hand u can = absurd can
  may_turn call.Unspin reply.Done hand u can = (tt, tt)
  may_turn call.Unspin _ hand u can = absurd can
  may_turn call.Poke (reply.Wakes n) hand u can = (tt, tt)
  may_turn call.Poke reply.Nothing hand u can = (tt, tt)
  may_turn call.Poke _ hand u can = absurd can
  may_turn call.Declare (reply.Idle p) hand u can = (tt, refl)
  may_turn call.Declare _ hand u can = absurd can
  may_turn call.Bare reply.Done hand u can = (tt, tt)
  may_turn call.Bare _ hand u can = absurd can
  may_turn call.Park reply.Parked hand u can = (tt, tt)
  may_turn call.Park reply.Work hand u can = (tt, tt)
  may_turn call.Park reply.LookAgain hand u can = (tt, tt)
  may_turn call.Park (reply.Mind until) hand u can = (tt, tt)
  may_turn call.Park reply.AllAsleep hand u can = (tt, tt)
  may_turn call.Park _ hand u can = absurd can
  may_turn (call.Tick moment) (reply.Woke n) hand u can = (tt, tt)
  may_turn (call.Tick moment) _ hand u can = absurd can
  may_turn _ answer hand u can = asks answer hand u.1 can

  -- What is handed back

  module _ (run : ℕ) (pass behind : Pass) (u l : Registers T Q) (b : Bool) (why : Refusal) where
    -- what the machine holds then, where m: the call is a make
    abbrev again : Bool → Registers T Q
    again m = joined (parts_of (load_back behind b (back_where m why (values_in (load_of run pass u))))) l

    bodies_again : (m : Bool) (i : ℕ) → body_in (again m) i ≡ body_in (joined u l) i
    bodies_again true i = rw (held_again run why u.held l.held i, called_same run u.called) refl
    bodies_again false i = rw (held_same run u.held, called_same run u.called) refl

    bodies_kept_again : (m : Bool) (book : BookContents T Q) → AreOut (body_in (joined u l)) book.bodies → BodiesKept (joined u l) (again m) book book
    bodies_kept_again m book out = stay _ _ book.bodies (bodies_again m) out

  -- from what an act uses and leaves to what the machine holds
  onto : (a : Act) (x x' : Machine T Q) (hand' : Registers T Q) (Out : Registers T Q → Type 0) (Keeps : Registers T Q → Registers T Q → Type 0) → x'.hand ≡ hand'
      → (Out (joined (used a x.hand) (unused a x.hand)) → Keeps (joined (used a x.hand) (unused a x.hand)) hand') → Out x.hand → Keeps x.hand x'.hand
  onto a x x' hand' Out Keeps is kept out =
      subst (λ (h : Registers T Q). Keeps x.hand h) (sym is) (subst (λ (h : Registers T Q). Out h → Keeps h hand') (whole a x.hand) kept out)

  -- A turn

  module _ (x x' : Machine T Q) (book book' : BookContents T Q) (asked : Call) (word : ℕ) (is : next_act x ≡ act.Call asked) (fits : SuitsPlace x.place x.hand) where
    abbrev u : Registers T Q
    u = used (act.Call asked) x.hand

    abbrev l : Registers T Q
    l = unused (act.Call asked) x.hand

    abbrev b : Pass → Bool
    b pass = is_to_claim asked (load_of x.run pass u)

    may : (answer : Reply) → Turns x book asked word (Ok answer) x' book' → MayTurn asked answer x.hand
    may answer t = may_turn asked answer x.hand (uses x asked is fits) (replies book.log.limits t.before.m asked answer book.log.state book'.log.state t.records.step.1)

    hand_again : (why : Refusal) (t : Turns x book asked word (Err why) x' book') → x'.hand ≡ again x.run t.before t.behind u l (b t.before) why (is_make asked)
    hand_again why t =
        ap (λ (y : Machine T Q). y.hand) t.machine ∙ ap (λ (v : Values T Q). hand_with asked x.hand (load_back t.behind (b t.before) v)) t.err.2

    pub bodies_turned : (result : Result Reply Refusal) → Turns x book asked word result x' book' → AreOut (body_in x.hand) book.bodies → BodiesKept x.hand x'.hand book book'
    bodies_turned (Ok answer) t =
        onto (act.Call asked) x x' _ (λ h. AreOut (body_in h) book.bodies) (λ h h'. BodiesKept h h' book book') (ap (λ (y : Machine T Q). y.hand) t.machine)
        (λ out. body_kept x.run book.log.run (claimed asked) (told_by (known_by asked book.log.state.table) answer) book.bodies book'.bodies t.back.held t.back.called l.held l.called (way_of answer) u.held u.called
        (may answer t).0 t.hands.body out)
    bodies_turned (Err why) t =
        rw t.err.0 (onto (act.Call asked) x x' _ (λ h. AreOut (body_in h) book.bodies) (λ h h'. BodiesKept h h' book book) (hand_again why t)
        (bodies_kept_again x.run t.before t.behind u l (b t.before) why (is_make asked) book))

  -- A surrender

  module _ (x : Machine T Q) (book : BookContents T Q) where
    bodies_given_back : IsNone x.hand.held ⊎ IsNone x.hand.called → AreOut (body_in x.hand) book.bodies → (pass : Pass) (which : Option Value)
        → BodiesKept x.hand (joined (parts_of (load_without which (surrendered x pass which))) (unused (act.Surrender which) x.hand)) book (book_with which (surrendered x pass which) book)
    bodies_given_back one out pass (Some value.Held) = give_held x.run book.bodies x.hand.held x.hand.called one out
    bodies_given_back one out pass (Some value.Called) = give_called x.run book.bodies x.hand.held x.hand.called one out
    bodies_given_back one out pass _ = stay _ _ book.bodies (λ i. refl) out

    module _ (x' : Machine T Q) (book' : BookContents T Q) (which : Option Value) where
      abbrev v : Registers T Q
      v = used (act.Surrender which) x.hand

      abbrev w : Registers T Q
      w = unused (act.Surrender which) x.hand

      -- once it was given back
      done_with : (Keeps : Registers T Q → BookContents T Q → Type 0) (done : Unit) (s : Surrenders x book which (Ok done) x' book')
          → Keeps (joined (parts_of (load_without which (surrendered x s.before which))) w) (book_with which (surrendered x s.before which) book) → Keeps x'.hand book'
      done_with Keeps done s kept =
          subst (λ (k : BookContents T Q). Keeps x'.hand k) (sym s.places) (subst (λ (h : Registers T Q). Keeps h (book_with which (surrendered x s.before which) book)) (sym (ap (λ (y : Machine T Q). y.hand) s.machine)) kept)

      pub bodies_at_end : (result : Result Unit Refusal) → Surrenders x book which result x' book' → IsNone x.hand.held ⊎ IsNone x.hand.called → AreOut (body_in x.hand) book.bodies → BodiesKept x.hand x'.hand book book'
      bodies_at_end (Ok done) s one out = done_with (λ h k. BodiesKept x.hand h book k) done s (bodies_given_back one out s.before which)
      bodies_at_end (Err why) s one out =
          rw s.places (onto (act.Surrender which) x x' _ (λ h. AreOut (body_in h) book.bodies) (λ h h'. BodiesKept h h' book book) (ap (λ (y : Machine T Q). y.hand) s.machine)
          (bodies_kept_again x.run s.before s.before v w false why false book) out)
