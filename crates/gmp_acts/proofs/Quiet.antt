-- Where the last machine that was awake parks, nothing is to be done before a blocking call ends.
use Rattle.std.proofs.Common.{◌≡◌, ◌≢◌, inl, inr, ℕ, zero, suc, ◌<◌, ◌≤◌, Bool, true, false, ◌==◌, ◌&&◌, if◌then◌else◌, List, [], ◌∷◌, length, take, get_or, refl, sym, ap, ◌∙◌, subst, arith, Option, None, Some, is_some, sum_by}
use Rattle.std.proofs.lemmas.Bool.{cases_eq, eq-eqb, false≢true, false_from_ne_true}
use Rattle.std.proofs.lemmas.Option.{slice_get-get_or}
use Rattle.std.specs.List.{slice_get, list_any}
use Rattle.std.specs.Option.{is_none, option_map, option_map_or}
use Rattle.gmp_base.specs.declared.number.MNo.{MNo}
use Rattle.gmp_base.specs.declared.number.PNo.{PNo}
use Rattle.gmp_base.specs.declared.number.Readiness.{Readiness}
use Rattle.gmp_seq.proofs.Asleep.{fails_at}
use Rattle.gmp_seq.proofs.InOrder.{legal_in_order}
use Rattle.gmp_seq.proofs.Needed.{held_from, row_taken, some_place}
use Rattle.gmp_seq.proofs.Sizes.{legal_sizes}
use Rattle.gmp_seq.specs.declared.status.Goroutine.{Goroutine}
use Rattle.gmp_seq.specs.declared.status.Mode.{Mode}
use Rattle.gmp_seq.specs.declared.status.Mode.TheVariants as mode
use Rattle.gmp_seq.specs.declared.status.TicketPlace.TheVariants.{Shelf, Out}
use Rattle.gmp_seq.specs.declared.status.Status.{Status}
use Rattle.gmp_seq.specs.declared.status.Status.TheVariants as status
use Rattle.gmp_seq.specs.Laws.{IsInOrder, HasSizes, is_ready}
use Rattle.gmp_seq.specs.Machines.{Holds, IsAwake, IsBare, has_processor, is_marked, some_idle}
use Rattle.gmp_seq.specs.Step.{has_work}
use Rattle.gmp_seq.specs.Table.{deadline_of, earlier, is_astir, is_calling, is_out, is_ready_or_running, is_shelved, least_deadline, least_of, minded, some_status}
use Rattle.gmp_driver.proofs.Uses.{none_of}
use Rattle.gmp_driver.specs.declared.place.Place.{Place}
use Rattle.gmp_driver.specs.declared.place.Place.TheVariants as place
use Rattle.gmp_driver.specs.Fits.{SuitsPlace}
use Rattle.gmp_acts.specs.Hands.{PlainHand, PlainMachine}
use Rattle.gmp_acts.specs.Lookouts.{IsQuiet, IsWatched, has_passed}
use Rattle.gmp_acts.specs.Sound.{Agrees, IsSound, ModeAt}
use Rattle.gmp_acts.specs.System.{System, machine_at, no_machine, queue_at, in_hand, in_queue, is_ticket, out}
use Rattle.gmp_acts.proofs.Kept.{numbered}
use Rattle.gmp_acts.proofs.Whole.{sum_zero}

-- who isn't awake has no ticket in hand; nor has who is at Park
still_hand : (here : Place) (what : Option Mode) (hand : PlainHand) → (what ≡ Some mode.Awake → ⊥) → ModeAt here what → SuitsPlace here hand → (hand.to_claim ≡ None) × (hand.to_store ≡ None)
still_hand place.Block what hand still d f = (none_of hand.to_claim f.has_to_claim, none_of hand.to_store f.has_to_store)
still_hand (place.Leave number) what hand still d f = (none_of hand.to_claim f.has_to_claim, none_of hand.to_store f.has_to_store)
still_hand place.Rest what hand still d f = (none_of hand.to_claim f.has_to_claim, none_of hand.to_store f.has_to_store)
still_hand _ what hand still d f = absurd (still d)

park_hand : (here : Place) (hand : PlainHand) → here ≡ place.Park → SuitsPlace here hand → (hand.to_claim ≡ None) × (hand.to_store ≡ None)
park_hand here hand at f = by_fits (subst (λ (p : Place). SuitsPlace p hand) at f) where
  by_fits : SuitsPlace place.Park hand → (hand.to_claim ≡ None) × (hand.to_store ≡ None)
  by_fits g = (none_of hand.to_claim g.has_to_claim, none_of hand.to_store g.has_to_store)

no_tickets : (r : Readiness) (hand : PlainHand) → (hand.to_claim ≡ None) × (hand.to_store ≡ None) → in_hand r hand ≡ 0
no_tickets r hand (claim, store) = (let a : is_ticket r hand.to_claim ≡ 0 = ap (is_ticket r) claim in let b : is_ticket r hand.to_store ≡ 0 = ap (is_ticket r) store in omega (arith, a, b))

-- a list with an element that passes
passes_at : {A : Type 0} (p : A → Bool) (xs : List A) (i : ℕ) (x : A) → slice_get xs i ≡ Some x → p x ≡ true → list_any p xs ≡ true
passes_at p xs i x at pass = by_test (list_any p xs) refl where
  by_test : (b : Bool) → list_any p xs ≡ b → b ≡ true
  by_test true e = refl
  by_test false e = sym (fails_at p xs i x e at) ∙ pass

-- without a least deadline there is none
both_none : (a b : Option ℕ) → earlier a b ≡ None → (a ≡ None) × (b ≡ None)
both_none None b e = (refl, e)
both_none (Some x) None e = absurd (let no : Some x ≡ None = e in cc)
both_none (Some x) (Some y) e = absurd (let no : ⊥ = cc in no)

none_stands : (gs : List Goroutine) (i : ℕ) (x : Goroutine) → least_of gs ≡ None → slice_get gs i ≡ Some x → deadline_of x.status ≡ None
none_stands [] i x e at = absurd (let no : None ≡ Some x = at in cc)
none_stands (y ∷ gs) zero x e at =
    let same : y ≡ x = (let all : Some y ≡ Some x = at in cc) in
    subst (λ (z : Goroutine). deadline_of z.status ≡ None) same (both_none (deadline_of y.status) (least_of gs) e).0
none_stands (y ∷ gs) (suc i) x e at = none_stands gs i x (both_none (deadline_of y.status) (least_of gs) e).1 at

module _ (k : System) (m : MNo) (inside : m.0 < length k.machines) (s : IsSound k) (goes : k.book.state.outcome ≡ None)
    (watched : (q : PNo) → queue_at k q ≢ [] → IsWatched k q)
    (at : (machine_at k m).place ≡ place.Park) (bare : IsBare k.book.state.machines m) (unmarked : is_marked k.book.state.machines m ≡ false)
    (alone : (n : MNo) → n ≢ m → IsAwake k.book.state.machines n → ⊥) where
  order : IsInOrder k.book.limits k.book.state
  order = legal_in_order k.book.limits k.book.bodies k.book.capacities k.book.history k.book.state s.within s.legal

  sizes : HasSizes k.book.limits k.book.bodies k.book.state
  sizes = legal_sizes k.book.limits k.book.bodies k.book.capacities k.book.history k.book.state s.within s.legal

  -- whoever is awake is m
  is_m : (n : MNo) → IsAwake k.book.state.machines n → n ≡ m
  is_m n awake = elim (cases_eq n.0 m.0) [
    | inl same ↦ numbered m n same
    | inr differ ↦ absurd (alone n (λ e. differ (ap (λ (i : MNo). i.0) e)) awake)
  ]

  -- nobody holds a processor
  none_holds : (n : MNo) (p : PNo) → Holds k.book.state.machines n p → ⊥
  none_holds n p h =
      let same : n ≡ m = is_m n (order.together.holder n p h) in
      let mine : Holds k.book.state.machines m p = subst (λ (i : MNo). Holds k.book.state.machines i p) same h in
      false≢true (sym bare.1 ∙ held_from k.book.state.machines m p mine)

  one_idle : some_idle k.book.state.machines ≡ true
  one_idle =
      let some : 1 ≤ k.book.limits.procs = s.within.procs.0 in
      let rows = sizes.holders in
      let first = slice_get-get_or k.book.state.machines.holders 0 None (omega (arith, some, rows)) in
      by_holder (get_or k.book.state.machines.holders 0 None) first
    where
      by_holder : (o : Option MNo) → slice_get k.book.state.machines.holders 0 ≡ Some o → some_idle k.book.state.machines ≡ true
      by_holder None e = passes_at is_none (take k.book.state.machines.active k.book.state.machines.holders) 0 None (row_taken k.book.state.machines.active k.book.state.machines.holders 0 None order.active.0 e) refl
      by_holder (Some n) e = absurd (none_holds n (record { 0 = 0 }) e)

  -- no ticket is on the shelf, in a hand or in a queue
  none_shelved : has_work k.book.state ≡ false → some_status is_shelved k.book.state.table ≡ false
  none_shelved none = false_from_ne_true _ (λ e.
      let work : has_work k.book.state ≡ true = ap (λ (b : Bool). b && some_idle k.book.state.machines) e ∙ one_idle in
      false≢true (sym none ∙ work))

  no_hand : (r : Readiness) (i : ℕ) → i < length k.machines → in_hand r (get_or k.machines i no_machine).hand ≡ 0
  no_hand r i there =
      let n : MNo = record { 0 = i } in
      let his : Agrees k.book n (machine_at k n) = s.each n there in
      let fits : SuitsPlace (machine_at k n).place (machine_at k n).hand = his.driver.fits (ap is_some his.has_pass) in
      elim (cases_eq i m.0) [
        | inl same ↦
            let is : n ≡ m = numbered m n same in
            no_tickets r (machine_at k n).hand (park_hand (machine_at k n).place (machine_at k n).hand (ap (λ (j : MNo). (machine_at k j).place) is ∙ at) fits)
        | inr differ ↦
            no_tickets r (machine_at k n).hand (still_hand (machine_at k n).place (slice_get k.book.state.machines.modes n.0) (machine_at k n).hand
            (alone n (λ e. differ (ap (λ (j : MNo). j.0) e))) (his.sees goes).does fits)
      ]

  no_queue : (q : PNo) → queue_at k q ≡ []
  no_queue q = by_list (queue_at k q) refl where
    by_watch : IsWatched k q → ⊥
    by_watch (inl (n, look)) =
        let same : n ≡ m = is_m n look.awake in
        elim look.looks [
          | inl ahead ↦
              let passed : has_passed (machine_at k n).place q ≡ true = ap (λ (j : MNo). has_passed (machine_at k j).place q) same ∙ ap (λ (p : Place). has_passed p q) at in
              false≢true (sym ahead ∙ passed)
          | inr marked ↦ false≢true (sym unmarked ∙ ap (λ (j : MNo). is_marked k.book.state.machines j) (sym same) ∙ marked)
        ]
    by_watch (inr all) =
        let calling : slice_get k.book.state.machines.modes m.0 ≡ Some mode.Calling = all m inside in
        let both : Some mode.Calling ≡ Some mode.Awake = sym calling ∙ bare.0 in cc

    by_list : (l : List Readiness) → queue_at k q ≡ l → l ≡ []
    by_list [] e = refl
    by_list (t ∷ rest) e = absurd (by_watch (watched q (λ none. let no : t ∷ rest ≡ [] = sym e ∙ none in cc)))

  none_out : (r : Readiness) → out r k.book.state.table ≡ 0
  none_out r =
      let hands : sum_by (λ (x : PlainMachine). in_hand r x.hand) k.machines ≡ 0 = sum_zero (λ (x : PlainMachine). in_hand r x.hand) k.machines no_machine (no_hand r) in
      let queues : sum_by (in_queue r) k.queues ≡ 0 = sum_zero (in_queue r) k.queues [] (λ i there. ap (in_queue r) (no_queue (record { 0 = i }))) in
      let all = s.all_tickets r goes in
      omega (arith, hands, queues, all)

  out_at : (i : ℕ) (x : Goroutine) → slice_get k.book.state.table.goroutines i ≡ Some x → is_out x.status ≡ true → ⊥
  out_at i x row is =
      let r : Readiness = record { g = record { 0 = i }; epoch = x.epoch } in
      let one : out r k.book.state.table ≡ 1 =
      ap (λ (o : Option Goroutine). if option_map_or (λ (y : Goroutine). is_out y.status && (y.epoch == x.epoch)) o false then 1 else 0) row
      ∙ ap (λ (b : Bool). if b && (x.epoch == x.epoch) then 1 else 0) is ∙ ap (λ (b : Bool). if b then 1 else 0) (eq-eqb x.epoch x.epoch refl) in
      let none = none_out r in
      omega (arith, one, none)

  -- no goroutine that does this is there
  idle_status : has_work k.book.state ≡ false → (i : ℕ) (x : Goroutine) → slice_get k.book.state.table.goroutines i ≡ Some x → is_ready_or_running x.status ≡ true → ⊥
  idle_status none i x row pass = by_status x.status refl pass where
    by_status : (z : Status) → x.status ≡ z → is_ready_or_running z ≡ true → ⊥
    by_status (status.Ready Shelf a) is e =
        false≢true (sym (fails_at (λ (y : Goroutine). is_shelved y.status) k.book.state.table.goroutines i x (none_shelved none) row) ∙ ap is_shelved is)
    by_status (status.Ready Out a) is e = out_at i x row (ap is_out is)
    by_status (status.Running n) is e =
        let runs = order.together.runner (record { 0 = i }) n (ap (λ (o : Option Goroutine). option_map (λ (y : Goroutine). y.status) o) row ∙ ap Some is) in
        let same : n ≡ m = is_m n runs.0 in
        let mine : has_processor k.book.state.machines m ≡ true = subst (λ (j : MNo). has_processor k.book.state.machines j ≡ true) same runs.1 in
        false≢true (sym bare.1 ∙ mine)
    by_status _ is e = false≢true e

  ready_is : (z : Status) → is_ready z ≡ true → is_ready_or_running z ≡ true
  ready_is (status.Ready p a) e = refl
  ready_is _ e = absurd (false≢true e)

  pub quiet : has_work k.book.state ≡ false → some_status is_astir k.book.state.table ≡ true → minded k.book.state.table ≡ None → IsQuiet k.book.state
  quiet none astir minds = record {
    nobody_ready = false_from_ne_true _ (λ e.
        let place = some_place (λ (x : Goroutine). is_ready x.status) k.book.state.table.goroutines e in
        idle_status none place.0 place.1 place.2 (ready_is place.1.status place.3));
    no_deadline = no_deadline;
    some_call =
        let place = some_place (λ (x : Goroutine). is_astir x.status) k.book.state.table.goroutines astir in
        calls place.0 place.1 place.2 place.1.status refl place.3;
  } where
    none_goes : some_status is_ready_or_running k.book.state.table ≡ false
    none_goes = false_from_ne_true _ (λ e.
        let place = some_place (λ (x : Goroutine). is_ready_or_running x.status) k.book.state.table.goroutines e in
        idle_status none place.0 place.1 place.2 place.3)

    no_deadline : least_deadline k.book.state.table ≡ None
    no_deadline = sym (ap (λ (b : Bool). if b then None else least_deadline k.book.state.table) none_goes) ∙ minds

    calls : (i : ℕ) (x : Goroutine) → slice_get k.book.state.table.goroutines i ≡ Some x → (z : Status) → x.status ≡ z → is_astir z ≡ true → some_status is_calling k.book.state.table ≡ true
    calls i x row (status.Calling n) is e = passes_at (λ (y : Goroutine). is_calling y.status) k.book.state.table.goroutines i x row (ap is_calling is)
    calls i x row (status.Ready p a) is e = absurd (idle_status none i x row (ap is_ready_or_running is))
    calls i x row (status.Running n) is e = absurd (idle_status none i x row (ap is_ready_or_running is))
    calls i x row (status.Waiting w) is e =
        let stands : deadline_of x.status ≡ None = none_stands k.book.state.table.goroutines i x no_deadline row in
        let until : w.until ≡ None = sym (ap deadline_of is) ∙ stands in
        absurd (false≢true (sym (ap is_some until) ∙ e))
    calls i x row _ is e = absurd (false≢true e)
