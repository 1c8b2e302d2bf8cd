-- Acts on the own queue: what they find in the registers, and in plain parts what they came to.
use Rattle.std.proofs.Common.{◌≡◌, Bool, true, false, is_some, List, [], ◌∷◌, ◌++◌, Option, None, Some, get_or, set, refl, sym, ap, subst, ◌∙◌}
use Rattle.std.proofs.lemmas.Bool.{false≢true}
use Rattle.gmp_base.specs.declared.number.PNo.{PNo}
use Rattle.gmp_base.specs.declared.number.Readiness.{Readiness}
use Rattle.gmp_driver.specs.declared.act.Act.TheVariants as act
use Rattle.gmp_driver.specs.declared.act.Told.TheVariants as told
use Rattle.gmp_driver.specs.declared.registers.ProcParts.{ProcParts}
use Rattle.gmp_driver.specs.declared.registers.Registers.{Registers}
use Rattle.gmp_driver.specs.Fits.{SuitsPlace}
use Rattle.gmp_driver.specs.Local.{pop_for, popped_for}
use Rattle.gmp_driver.specs.Machine.{Machine}
use Rattle.gmp_driver.specs.Own.{with_found}
use Rattle.gmp_driver.specs.Seen.{number_of, own_processor}
use Rattle.gmp_driver.specs.Table.{after, next_act}
use Rattle.gmp_driver.proofs.OwnQueue.{pop_finds, push_finds}
use Rattle.gmp_acts.proofs.Plain.{after_plain, number_plain}
use Rattle.gmp_acts.specs.Acts.{WithQueues, own_taken, own_taken_from, pushed, queue_of, with_queue}
use Rattle.gmp_acts.specs.Hands.{PlainHand, PlainMachine, plain, plain_machine}
use Rattle.gmp_core.specs.Queues.{Pops}
use Rattle.gmp_core.proofs.Landing.{without_stored}

-- what an act finds

some_of : {A : Type 0} (o : Option A) → is_some o ≡ true → (a : A) × (o ≡ Some a)
some_of None some = absurd (false≢true some)
some_of (Some a) some = (a, refl)

own_of : {Q : Type 0} (o : Option (ProcParts Q)) → is_some o ≡ true → number_of o ≡ None → ⊥
own_of None some e = false≢true some
own_of (Some y) some e = cc

pub pop_owns : {T Q : Type 0} (x : Machine T Q) (is_to_store : Bool) → next_act x ≡ pop_for is_to_store → SuitsPlace x.place x.hand → own_processor x.hand ≡ None → ⊥
pop_owns x is_to_store next fits e = own_of x.hand.processor (pop_finds x is_to_store next fits) e

pub push_owns : {T Q : Type 0} (x : Machine T Q) → next_act x ≡ act.Push → SuitsPlace x.place x.hand → own_processor x.hand ≡ None → ⊥
push_owns x next fits e = own_of x.hand.processor (push_finds x next fits).0 e

pub found_ticket : {T Q : Type 0} → (x : Machine T Q) → next_act x ≡ act.Push → SuitsPlace x.place x.hand → (r : Readiness) × (x.hand.to_store ≡ Some r)
found_ticket x next fits = some_of x.hand.to_store (push_finds x next fits).1

-- In plain parts

found_plain : {T Q : Type 0} (r : Readiness) (is_to_store : Bool) (hand : Registers T Q) → plain (with_found r is_to_store hand) ≡ with_found r is_to_store (plain hand)
found_plain r false hand = refl
found_plain r true hand = refl

module _ {T Q : Type 0} (x now : Machine T Q) (queues queues' : List (List Readiness)) (p : PNo) (own : own_processor x.hand ≡ Some p) where
  own_plain : own_processor (plain x.hand) ≡ Some p
  own_plain = number_plain x.hand.processor ∙ own

  -- the ticket is one to claim, or to store
  module _ (is_to_store : Bool) where
    in_its_queue : (m : PlainMachine) → (let l : WithQueues = (m, queues') in l ≡ own_taken_from is_to_store (plain_machine x) queues (get_or queues p.0 []))
        → let l : WithQueues = (m, queues') in l ≡ own_taken is_to_store (plain_machine x) queues
    in_its_queue m e = subst (λ (o : Option PNo). let l : WithQueues = (m, queues') in l ≡ own_taken_from is_to_store (plain_machine x) queues (queue_of queues o)) (sym own_plain) e

    none_of : (q : List Readiness) → Pops queues p q None queues' → let l : WithQueues = (after (plain_machine x) told.Empty, queues') in l ≡ own_taken_from is_to_store (plain_machine x) queues q
    none_of [] k = ap (λ (qs : List (List Readiness)). let l : WithQueues = (after (plain_machine x) told.Empty, qs) in l) k.1
    none_of (r ∷ rest) k = (let e : None ≡ Some r = k.0 in absurd cc)

    pub was_empty : Pops queues p (get_or queues p.0 []) None queues' → now ≡ after x told.Empty → let l : WithQueues = (plain_machine now, queues') in l ≡ own_taken is_to_store (plain_machine x) queues
    was_empty k e =
        ap (λ (m : PlainMachine). let l : WithQueues = (m, queues') in l) (ap (λ (y : Machine T Q). plain_machine y) e ∙ after_plain x told.Empty)
        ∙ in_its_queue (after (plain_machine x) told.Empty) (none_of (get_or queues p.0 []) k)

    abbrev taker : Readiness → PlainMachine
    taker r = record (plain_machine x) { hand = with_found r is_to_store (plain x.hand) }

    first_of : (r : Readiness) (q : List Readiness) → Pops queues p q (Some r) queues' → let l : WithQueues = (after (taker r) (popped_for is_to_store), queues') in l ≡ own_taken_from is_to_store (plain_machine x) queues q
    first_of r [] k = (let e : Some r ≡ None = k.0 in absurd cc)
    first_of r (t ∷ rest) k = (
        let same : r ≡ t = cc in
        let all : queues' ≡ with_queue queues (own_processor (plain x.hand)) rest = k.1 ∙ ap (λ (o : Option PNo). with_queue queues o rest) (sym own_plain) in
        ap (λ (u : Readiness). let l : WithQueues = (after (taker u) (popped_for is_to_store), queues') in l) same
        ∙ ap (λ (qs : List (List Readiness)). let l : WithQueues = (after (taker t) (popped_for is_to_store), qs) in l) all)

    pub was_got : (r : Readiness) → Pops queues p (get_or queues p.0 []) (Some r) queues' → now ≡ after (record x { hand = with_found r is_to_store x.hand }) (popped_for is_to_store)
        → let l : WithQueues = (plain_machine now, queues') in l ≡ own_taken is_to_store (plain_machine x) queues
    was_got r k e =
        ap (λ (m : PlainMachine). let l : WithQueues = (m, queues') in l) (
        ap (λ (y : Machine T Q). plain_machine y) e ∙ after_plain (record x { hand = with_found r is_to_store x.hand }) (popped_for is_to_store)
        ∙ ap (λ (h : PlainHand). after (record (plain_machine x) { hand = h }) (popped_for is_to_store)) (found_plain r is_to_store x.hand)
        )
        ∙ in_its_queue (after (taker r) (popped_for is_to_store)) (first_of r (get_or queues p.0 []) k)

  pub was_pushed : (r : Readiness) → x.hand.to_store ≡ Some r → queues' ≡ set queues p.0 (get_or queues p.0 [] ++ r ∷ []) → now ≡ after (record x { hand = without_stored x.hand }) told.Pushed
      → let l : WithQueues = (plain_machine now, queues') in l ≡ pushed (plain_machine x) queues x.hand.to_store false
  was_pushed r has put e =
      let pusher : PlainMachine = record (plain_machine x) { hand = record (plain x.hand) { to_store = None } } in
      ap (λ (m : PlainMachine). let l : WithQueues = (m, queues') in l) (ap (λ (y : Machine T Q). plain_machine y) e ∙ after_plain (record x { hand = without_stored x.hand }) told.Pushed)
      ∙ ap (λ (qs : List (List Readiness)). let l : WithQueues = (after pusher told.Pushed, qs) in l) (put ∙ ap (λ (o : Option PNo). with_queue queues o (queue_of queues o ++ r ∷ [])) (sym own_plain))
      ∙ ap (λ (o : Option Readiness). pushed (plain_machine x) queues o false) (sym has)

pub was_refused : {T Q : Type 0} → (x now : Machine T Q) (queues : List (List Readiness)) → (r : Readiness) × (x.hand.to_store ≡ Some r) → now ≡ after x told.PushRefused
    → let l : WithQueues = (plain_machine now, queues) in l ≡ pushed (plain_machine x) queues x.hand.to_store true
was_refused {T} {Q} x now queues has e =
    ap (λ (m : PlainMachine). let l : WithQueues = (m, queues) in l) (ap (λ (y : Machine T Q). plain_machine y) e ∙ after_plain x told.PushRefused)
    ∙ ap (λ (o : Option Readiness). pushed (plain_machine x) queues o true) (sym has.1)
