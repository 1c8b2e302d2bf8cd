-- A turn and a surrender keep bodies and owners.
use Rattle.std.proofs.Common.{◌≡◌, ◌⊎◌, inl, inr, ℕ, Bool, true, false, Option, None, Some, IsNone, Result, Ok, Err, refl, sym, ap, subst, ◌∙◌}
use Rattle.gmp_base.specs.declared.pass.Pass.{Pass}
use Rattle.gmp_base.specs.declared.refusal.Refusal.{Refusal}
use Rattle.gmp_seq.specs.declared.call.Call.{Call}
use Rattle.gmp_seq.specs.declared.call.Call.TheVariants as call
use Rattle.gmp_seq.specs.declared.call.Reply.{Reply}
use Rattle.gmp_seq.specs.declared.call.Reply.TheVariants as reply
use Rattle.gmp_book.specs.declared.values.Values.{Values}
use Rattle.gmp_book.specs.Book.{BookContents}
use Rattle.gmp_book.specs.Hands.{back_where, claimed, is_make, told_by, way_of}
use Rattle.gmp_journal.specs.Known.{known_by}
use Rattle.gmp_driver.specs.declared.act.Act.{Act}
use Rattle.gmp_driver.specs.declared.act.Act.TheVariants as act
use Rattle.gmp_driver.specs.declared.act.Value.{Value}
use Rattle.gmp_driver.specs.declared.act.Value.TheVariants as value
use Rattle.gmp_driver.specs.declared.registers.Registers.{Registers}
use Rattle.gmp_driver.specs.Fits.{SuitsPlace}
use Rattle.gmp_driver.specs.Loads.{load_of, parts_of}
use Rattle.gmp_driver.specs.Machine.{Machine}
use Rattle.gmp_driver.specs.Registers.{joined, unused, used}
use Rattle.gmp_driver.specs.Table.{next_act}
use Rattle.gmp_driver.specs.Uses.{Uses}
use Rattle.gmp_driver.proofs.Parts.{whole}
use Rattle.gmp_driver.proofs.Uses.{uses}
use Rattle.gmp_acts.proofs.Replies.{CanReply, Goes, replies}
use Rattle.gmp_turn.specs.Surrenders.{Surrenders, book_with, load_without, surrendered}
use Rattle.gmp_turn.specs.Turns.{Turns, hand_with, is_to_claim, load_back, values_in}
use Rattle.gmp_turn.specs.Values.{AreOut, KeepsValues, body_in, owner_in}
use Rattle.gmp_turn.proofs.Keeping.{stay}
use Rattle.gmp_turn.proofs.Moving.{MayGo, MayPass, body_kept, called_same, give_called, give_held, give_owner, held_again, held_same, owner_kept, proc_same}

module _ {T Q : Type 0} where
  -- bodies and owners are kept
  abbrev pub Kept : Registers T Q → Registers T Q → BookContents T Q → BookContents T Q → Type 0
  Kept hand hand' book book' = KeepsValues (body_in hand) (body_in hand') book.bodies book'.bodies × KeepsValues (owner_in hand) (owner_in hand') book.owners book'.owners

  -- What a call uses and leaves suits its reply

  abbrev MayTurn : Call → Reply → Registers T Q → Type 0
  MayTurn c answer hand =
      (let u = used (act.Call c) hand in
      let l = unused (act.Call c) hand in
      MayGo (way_of answer) u.held u.called l.held l.called × MayPass answer u.processor l.processor)

  -- Park stands for each call of the goroutine that runs
  asks : (answer : Reply) (hand : Registers T Q) → hand.called ≡ None → Goes answer → MayTurn call.Gopark answer hand
  asks reply.Waits hand free can = ((refl, free, inr refl), tt)
  asks (reply.Ticket r) hand free can = (tt, tt)
  asks (reply.Channel c) hand free can = (tt, tt)
  asks (reply.Sent to) hand free can = (tt, tt)
  asks (reply.Got v sent from) hand free can = (tt, tt)
  asks (reply.Closed count) hand free can = (tt, tt)
  asks (reply.Number count) hand free can = (tt, tt)
  asks (reply.Chose i how) hand free can = (tt, tt)
  asks reply.Default hand free can = (tt, tt)
  asks (reply.Fault f) hand free can = (tt, tt)
  asks _ hand free can = absurd can

  may_turn : (c : Call) (answer : Reply) (hand : Registers T Q) → Uses c hand → CanReply c answer → MayTurn c answer hand
  may_turn call.Acquire (reply.Proc p) hand u can = (tt, (refl, u))
  may_turn call.Acquire reply.Nothing hand u can = (tt, tt)
  may_turn call.Acquire _ hand u can = absurd can
  may_turn call.Take (reply.Ticket r) hand u can = (tt, tt)
  may_turn call.Take reply.Nothing hand u can = (tt, tt)
  may_turn call.Take _ hand u can = absurd can
  may_turn (call.Put r) reply.Shelf hand u can = (tt, tt)
  may_turn (call.Put r) _ hand u can = absurd can
  may_turn (call.Claim r) reply.Held hand u can = ((refl, refl, u.1, u.2), tt)
  may_turn (call.Claim r) _ hand u can = absurd can
  may_turn call.Yield (reply.Shelved r) hand u can = ((refl, u.1, inr refl), tt)
  may_turn call.Yield _ hand u can = absurd can
  may_turn call.Exit reply.Dead hand u can = ((refl, u.1, inr refl), tt)
  may_turn call.Exit reply.MainEnded hand u can = ((refl, u.1, inr refl), tt)
  may_turn call.Exit _ hand u can = absurd can
  may_turn call.Enter (reply.Entered p woken) hand u can = ((refl, refl, u.2), refl)
  may_turn call.Enter _ hand u can = absurd can
  may_turn (call.Leave number) (reply.Runs p) hand u can = ((refl, u.1, refl), (refl, u.2))
  may_turn (call.Leave number) (reply.Shelved r) hand u can = ((u.1, refl, inl refl), tt)
  may_turn (call.Leave number) _ hand u can = absurd can
  may_turn call.Spin (reply.Answer b) hand u can = (tt, tt)
  may_turn call.Spin _ hand u can = absurd can
  may_turn call.Woken (reply.Answer b) hand u can = (tt, tt)
  may_turn call.Woken _ hand u can = absurd can
  may_turn call.Keep (reply.Answer b) hand u can = (tt, tt)
  may_turn call.Keep _ hand u can = absurd can
  may_turn call.Unspin reply.Done hand u can = (tt, tt)
  may_turn call.Unspin _ hand u can = absurd can
  may_turn call.Poke (reply.Wakes n) hand u can = (tt, tt)
  may_turn call.Poke reply.Nothing hand u can = (tt, tt)
  may_turn call.Poke _ hand u can = absurd can
  may_turn call.Declare (reply.Idle p) hand u can = (tt, refl)
  may_turn call.Declare _ hand u can = absurd can
  may_turn call.Bare reply.Done hand u can = (tt, tt)
  may_turn call.Bare _ hand u can = absurd can
  may_turn call.Park reply.Parked hand u can = (tt, tt)
  may_turn call.Park reply.Work hand u can = (tt, tt)
  may_turn call.Park reply.LookAgain hand u can = (tt, tt)
  may_turn call.Park (reply.Mind until) hand u can = (tt, tt)
  may_turn call.Park reply.AllAsleep hand u can = (tt, tt)
  may_turn call.Park _ hand u can = absurd can
  may_turn (call.Tick moment) (reply.Woke n) hand u can = (tt, tt)
  may_turn (call.Tick moment) _ hand u can = absurd can
  may_turn _ answer hand u can = asks answer hand u.1 can

  -- What is handed back

  module _ (run : ℕ) (pass behind : Pass) (u l : Registers T Q) (b : Bool) (why : Refusal) where
    -- what the machine holds then, where m: the call is a make
    abbrev again : Bool → Registers T Q
    again m = joined (parts_of (load_back behind b (back_where m why (values_in (load_of run pass u))))) l

    bodies_again : (m : Bool) (i : ℕ) → body_in (again m) i ≡ body_in (joined u l) i
    bodies_again true i = rw (held_again run why u.held l.held i, called_same run u.called) refl
    bodies_again false i = rw (held_same run u.held, called_same run u.called) refl

    owners_again : (m : Bool) (i : ℕ) → owner_in (again m) i ≡ owner_in (joined u l) i
    owners_again true i = rw (proc_same run u.processor) refl
    owners_again false i = rw (proc_same run u.processor) refl

    kept_again : (m : Bool) (book : BookContents T Q) → AreOut (body_in (joined u l)) book.bodies → AreOut (owner_in (joined u l)) book.owners → Kept (joined u l) (again m) book book
    kept_again m book out out' = (stay _ _ book.bodies (bodies_again m) out, stay _ _ book.owners (owners_again m) out')

  -- from what an act uses and leaves to what the machine holds
  onto : (a : Act) (x x' : Machine T Q) (hand' : Registers T Q) (book book' : BookContents T Q) → x'.hand ≡ hand'
      → (AreOut (body_in (joined (used a x.hand) (unused a x.hand))) book.bodies → AreOut (owner_in (joined (used a x.hand) (unused a x.hand))) book.owners → Kept (joined (used a x.hand) (unused a x.hand)) hand' book book')
      → AreOut (body_in x.hand) book.bodies → AreOut (owner_in x.hand) book.owners → Kept x.hand x'.hand book book'
  onto a x x' hand' book book' is kept out out' =
      subst (λ (h : Registers T Q). Kept x.hand h book book') (sym is)
      (subst (λ (h : Registers T Q). AreOut (body_in h) book.bodies → AreOut (owner_in h) book.owners → Kept h hand' book book') (whole a x.hand) kept out out')

  -- A turn

  module _ (x x' : Machine T Q) (book book' : BookContents T Q) (asked : Call) (word : ℕ) (is : next_act x ≡ act.Call asked) (fits : SuitsPlace x.place x.hand)
      (out : AreOut (body_in x.hand) book.bodies) (out' : AreOut (owner_in x.hand) book.owners) where
    abbrev u : Registers T Q
    u = used (act.Call asked) x.hand

    abbrev l : Registers T Q
    l = unused (act.Call asked) x.hand

    pub turned : (result : Result Reply Refusal) → Turns x book asked word result x' book' → Kept x.hand x'.hand book book'
    turned (Ok answer) t =
        let may = may_turn asked answer x.hand (uses x asked is fits) (replies book.log.limits t.before.m asked answer book.log.state book'.log.state t.records.step.1) in
        let told = told_by (known_by asked book.log.state.table) answer in
        onto (act.Call asked) x x' _ book book' (ap (λ (y : Machine T Q). y.hand) t.machine) (λ out out'. (
          body_kept x.run book.log.run (claimed asked) told book.bodies book'.bodies t.back.held t.back.called l.held l.called (way_of answer) u.held u.called may.0 t.hands.body out,
          owner_kept x.run book.log.run book.owners book'.owners u.processor l.processor t.back.proc answer may.1 t.hands.owner out',
        )) out out'
    turned (Err why) t =
        let given = load_of x.run t.before u in
        let b = is_to_claim asked given in
        let hand : x'.hand ≡ again x.run t.before t.behind u l b why (is_make asked) =
        ap (λ (y : Machine T Q). y.hand) t.machine ∙ ap (λ (v : Values T Q). hand_with asked x.hand (load_back t.behind b v)) t.err.2
        in
        rw t.err.0 (onto (act.Call asked) x x' _ book book hand (kept_again x.run t.before t.behind u l b why (is_make asked) book) out out')

  -- A surrender

  module _ (x : Machine T Q) (book : BookContents T Q) (one : IsNone x.hand.held ⊎ IsNone x.hand.called) (out : AreOut (body_in x.hand) book.bodies) (out' : AreOut (owner_in x.hand) book.owners) where
    given_back : (pass : Pass) (which : Option Value)
        → Kept x.hand (joined (parts_of (load_without which (surrendered x pass which))) (unused (act.Surrender which) x.hand)) book (book_with which (surrendered x pass which) book)
    given_back pass (Some value.Held) = (give_held x.run book.bodies x.hand.held x.hand.called one out, stay _ _ book.owners (λ i. refl) out')
    given_back pass (Some value.Called) = (give_called x.run book.bodies x.hand.held x.hand.called one out, stay _ _ book.owners (λ i. refl) out')
    given_back pass (Some value.Proc) = (stay _ _ book.bodies (λ i. refl) out, give_owner x.run book.owners x.hand.processor out')
    given_back pass _ = (stay _ _ book.bodies (λ i. refl) out, stay _ _ book.owners (λ i. refl) out')

    pub kept_at_end : (x' : Machine T Q) (book' : BookContents T Q) (which : Option Value) (result : Result Unit Refusal) → Surrenders x book which result x' book' → Kept x.hand x'.hand book book'
    kept_at_end x' book' which (Ok done) s =
        subst (λ (b : BookContents T Q). Kept x.hand x'.hand book b) (sym s.places)
        (subst (λ (h : Registers T Q). Kept x.hand h book (book_with which (surrendered x s.before which) book)) (sym (ap (λ (y : Machine T Q). y.hand) s.machine)) (given_back s.before which))
    kept_at_end x' book' which (Err why) s =
        let u = used (act.Surrender which) x.hand in
        let l = unused (act.Surrender which) x.hand in
        rw s.places (onto (act.Surrender which) x x' _ book book (ap (λ (y : Machine T Q). y.hand) s.machine) (kept_again x.run s.before s.before u l false why false book) out out')
