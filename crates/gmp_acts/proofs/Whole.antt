-- The headline of what is sound, and the opening.
use Rattle.std.proofs.Common.{◌≡◌, ◌⊎◌, inl, inr, ℕ, zero, suc, ◌+◌, ◌-◌, ◌<◌, ◌≤◌, Bool, true, false, ◌==◌, ◌&&◌, if◌then◌else◌, List, [], ◌∷◌, map, length, get_or, replicate, refl, sym, ap, ◌∙◌, subst, ⊎_elim, arith, Option, Some, None, sum_by}
use Rattle.std.specs.List.{filter, slice_get}
use Rattle.std.specs.Option.{option_map, option_map_or, unwrap_or}
use Rattle.std.proofs.lemmas.Bool.{cases_lt}
use Rattle.std.proofs.lemmas.List.{get_or_past, length-replicate, get_or-replicate}
use Rattle.std.proofs.lemmas.List.FromFn.{length-map-range_with_len, get_or-map-range_with_len}
use Rattle.std.proofs.lemmas.List.Folds.{sum_by-replicate}
use Rattle.std.proofs.lemmas.List.Sums.{sum_by-cons}
use Rattle.gmp_base.specs.declared.number.GNo.{GNo}
use Rattle.gmp_base.specs.declared.number.MNo.{MNo}
use Rattle.gmp_base.specs.declared.number.Readiness.{Readiness}
use Rattle.gmp_seq.proofs.Claims.{claimed_at_most_once}
use Rattle.gmp_seq.proofs.OneEach.{one_each}
use Rattle.gmp_seq.specs.declared.call.Call.{Call}
use Rattle.gmp_seq.specs.declared.call.Entry.{Entry}
use Rattle.gmp_seq.specs.declared.call.Limits.{Limits}
use Rattle.gmp_seq.specs.declared.call.Reply.{Reply}
use Rattle.gmp_seq.specs.declared.status.Goroutine.{Goroutine}
use Rattle.gmp_seq.specs.declared.status.Mode.TheVariants as mode
use Rattle.gmp_seq.specs.declared.status.TicketPlace.TheVariants.{Shelf, Out}
use Rattle.gmp_seq.specs.declared.status.Status.{Status}
use Rattle.gmp_seq.specs.declared.status.Status.TheVariants as status
use Rattle.gmp_seq.specs.Fits.{AreLimits}
use Rattle.gmp_seq.specs.Run.{made}
use Rattle.gmp_seq.specs.State.{State, opening, first_goroutine, dormant}
use Rattle.gmp_seq.specs.Table.{IsHeld, is_out, is_shelved}
use Rattle.gmp_seq.specs.Laws.{is_ready}
use Rattle.gmp_acts.specs.Hands.{PlainMachine}
use Rattle.gmp_acts.specs.declared.made.Made.{Made}
use Rattle.gmp_acts.specs.System.{System, machine_at, no_machine, held_number, called_number, elsewhere, in_hand, in_queue, on_shelf, out, readied, made_of}
use Rattle.gmp_acts.specs.Headline.{Headline, HasInHand, machine_at_start, opening_run, opening_system}
use Rattle.gmp_acts.specs.Sound.{Agrees, IsSound}

-- What a machine has in hand is its own

past_machine : (k : System) (m : MNo) → length k.machines ≤ m.0 → machine_at k m ≡ no_machine
past_machine k m past = get_or_past k.machines m.0 no_machine past

held_by : (k : System) (m : MNo) (g : GNo) → IsSound k → HasInHand k m g → IsHeld k.book.state.table g m
held_by k m g s h =
    elim (cases_lt m.0 (length k.machines)) [
      | inl inside ↦ ⊎_elim (λ runs. inl ((s.each m inside).has.runs g runs)) (λ calls. inr ((s.each m inside).has.calls g calls)) h
      | inr past ↦ absurd (⊎_elim
          (λ runs. let no : None ≡ Some g = sym (ap (λ (x : PlainMachine). held_number x.hand.held) (past_machine k m past)) ∙ runs in cc)
          (λ calls. let no : None ≡ Some g = sym (ap (λ (x : PlainMachine). called_number x.hand.called) (past_machine k m past)) ∙ calls in cc) h)
    ]

-- The machine's calls are its entries

own_is_made : (h : List Entry) (m : MNo) → map (λ (x : Made). (x.call, x.reply)) (filter (λ (x : Made). x.m.0 == m.0) (map made_of h)) ≡ made h m
own_is_made [] m = refl
own_is_made (e ∷ h) m = by_test (e.m.0 == m.0) (own_is_made h m) where
  by_test : (b : Bool) → ◌≡◌ {A = List (Call × Reply)} (map (λ (x : Made). (x.call, x.reply)) (filter (λ (x : Made). x.m.0 == m.0) (map made_of h))) (made h m) → ◌≡◌ {A = List (Call × Reply)} (map (λ (x : Made). (x.call, x.reply)) (if b then made_of e ∷ filter (λ (x : Made). x.m.0 == m.0) (map made_of h) else filter (λ (x : Made). x.m.0 == m.0) (map made_of h)))
      (map (λ (x : Entry). (x.call, x.reply)) (if b then e ∷ filter (λ (x : Entry). x.m.0 == m.0) h else filter (λ (x : Entry). x.m.0 == m.0) h))
  by_test true rest = ap (λ (l : List (Call × Reply)). (e.call, e.reply) ∷ l) rest
  by_test false rest = rest

-- A ready goroutine's ticket is on the shelf or out

-- 1 where the row has r's epoch, and a status that passes the test
abbrev one : Readiness → (Status → Bool) → Option Goroutine → ℕ
one r t o = if option_map_or (λ (x : Goroutine). t x.status && (x.epoch == r.epoch)) o false then 1 else 0

row_one : (r : Readiness) (s : Status) (b : Bool)
    → ◌≡◌ {A = ℕ} ((if is_shelved s && b then 1 else 0) + (if is_out s && b then 1 else 0)) (if is_ready s && b then 1 else 0)
row_one r (status.Ready Shelf a) true = refl
row_one r (status.Ready Shelf a) false = refl
row_one r (status.Ready Out a) true = refl
row_one r (status.Ready Out a) false = refl
row_one r _ b = refl

row_most : (s : Status) (b : Bool) → (if is_ready s && b then 1 else 0) ≤ 1
row_most (status.Ready p a) true = omega arith
row_most (status.Ready p a) false = omega arith
row_most _ b = omega arith

ready_is : (k : System) (r : Readiness) → (on_shelf r k.book.state.table + out r k.book.state.table ≡ readied r k.book.state.table) × (readied r k.book.state.table ≤ 1)
ready_is k r = by_row (slice_get k.book.state.table.goroutines r.g.0) where
  by_row : (o : Option Goroutine) → (one r is_shelved o + one r is_out o ≡ one r is_ready o) × (one r is_ready o ≤ 1)
  by_row None = (refl, omega arith)
  by_row (Some x) = (row_one r x.status (x.epoch == r.epoch), row_most x.status (x.epoch == r.epoch))

pub headline_of : (k : System) → IsSound k → Headline k.book.run k.book.limits k.book.bodies k.book.capacities k
headline_of k s = record {
  opened = record { run = refl; limits = refl; bodies = refl; capacities = refl };
  machines = s.count;
  legal = s.legal;
  calls = λ m. ap (λ (l : List Made). map (λ (x : Made). (x.call, x.reply)) (filter (λ (x : Made). x.m.0 == m.0) l)) (sym s.own) ∙ own_is_made k.book.history m;
  held_once = λ m n g a b. (one_each k.book.limits k.book.bodies k.book.capacities k.book.history k.book.state s.legal).one_machine g m n (held_by k m g s a) (held_by k n g s b);
  runs = λ m g inside goes. ((s.each m (there m inside)).sees goes).runs g;
  in_call = λ m g inside goes. ((s.each m (there m inside)).sees goes).calls g;
  claimed_once = λ r. claimed_at_most_once k.book.limits (opening k.book.limits k.book.bodies k.book.capacities) k.book.state k.book.history r s.legal;
  one_place = λ r goes. (let all = s.all_tickets r goes in let ready = (ready_is k r).0 in omega (arith, all, ready));
  one_at_most = λ r. (let most = s.tickets r in let sum = (ready_is k r).0 in omega (arith, most, sum));
  once = λ r. (ready_is k r).1;
} where
  there : (m : MNo) → m.0 < k.book.limits.machines → m.0 < length k.machines
  there m inside = (let e = s.count in omega (arith, e, inside))

-- The opening

pub sum_zero : {A : Type 0} (f : A → ℕ) (xs : List A) (d : A) → ((i : ℕ) → i < length xs → f (get_or xs i d) ≡ 0) → sum_by f xs ≡ 0
sum_zero f [] d h = refl
sum_zero f (x ∷ xs) d h =
    let first : f x ≡ 0 = h 0 (omega arith) in
    let rest : sum_by f xs ≡ 0 = sum_zero f xs d (λ i l. h (suc i) (omega arith)) in
    omega (arith, first, rest, sum_by-cons f x xs)

-- what a list of equal elements has
same_row : {A : Type 0} (n i : ℕ) (x y : A) → slice_get (replicate n x) i ≡ Some y → x ≡ y
same_row zero i x y at = absurd cc
same_row (suc n) zero x y at = cc
same_row (suc n) (suc i) x y at = same_row n i x y at

pub row_there : {A : Type 0} (n i : ℕ) (x : A) → i < n → slice_get (replicate n x) i ≡ Some x
row_there zero i x h = absurd (omega arith)
row_there (suc n) zero x h = refl
row_there (suc n) (suc i) x h = row_there n i x (omega arith)

not_spinning : (n i : ℕ) → unwrap_or (slice_get (replicate n false) i) false ≡ false
not_spinning zero i = refl
not_spinning (suc n) zero = refl
not_spinning (suc n) (suc i) = not_spinning n i

opening_status : (n i : ℕ) (x : Goroutine) → slice_get (first_goroutine ∷ replicate n dormant) i ≡ Some x → (x ≡ first_goroutine) ⊎ (x ≡ dormant)
opening_status n zero x at = inl (let same : x ≡ first_goroutine = cc in same)
opening_status n (suc i) x at = inr (sym (same_row n i dormant x at))

module _ (is_fair : Bool) (run : ℕ) (limits : Limits) (bodies : ℕ) (capacities : List ℕ) (are : AreLimits limits bodies capacities) where
  abbrev start : State
  start = opening limits bodies capacities

  none_out : (r : Readiness) → out r start.table ≡ 0
  none_out r = by_row (slice_get start.table.goroutines r.g.0) refl where
    by_row : (o : Option Goroutine) → slice_get start.table.goroutines r.g.0 ≡ o → one r is_out o ≡ 0
    by_row None at = refl
    by_row (Some x) at = elim (opening_status (bodies - 1) r.g.0 x at) [
      | inl is ↦ ap (λ (y : Goroutine). one r is_out (Some y)) is
      | inr is ↦ ap (λ (y : Goroutine). one r is_out (Some y)) is
    ]

  none_manned : (g : GNo) (m : MNo) → IsHeld start.table g m → ⊥
  none_manned g m h = by_row (slice_get start.table.goroutines g.0) refl where
    by_row : (o : Option Goroutine) → slice_get start.table.goroutines g.0 ≡ o → ⊥
    by_row None at = ⊎_elim
        (λ runs. let no : None ≡ Some (status.Running m) = ap (λ (o : Option Goroutine). option_map (λ (x : Goroutine). x.status) o) (sym at) ∙ runs in cc)
        (λ calls. let no : None ≡ Some (status.Calling m) = ap (λ (o : Option Goroutine). option_map (λ (x : Goroutine). x.status) o) (sym at) ∙ calls in cc) h
    by_row (Some x) at =
        let status_is : (s : Status) → IsHeld start.table g m → (Some x.status ≡ Some (status.Running m)) ⊎ (Some x.status ≡ Some (status.Calling m)) =
        λ s k. ⊎_elim
        (λ runs. inl (ap (λ (o : Option Goroutine). option_map (λ (x : Goroutine). x.status) o) (sym at) ∙ runs))
        (λ calls. inr (ap (λ (o : Option Goroutine). option_map (λ (x : Goroutine). x.status) o) (sym at) ∙ calls)) k in
        elim (opening_status (bodies - 1) g.0 x at) [
          | inl is ↦ ⊎_elim (λ runs. let e : Some (status.Ready Shelf _) ≡ Some (status.Running m) = ap (λ (y : Goroutine). Some y.status) (sym is) ∙ runs in cc)
              (λ calls. let e : Some (status.Ready Shelf _) ≡ Some (status.Calling m) = ap (λ (y : Goroutine). Some y.status) (sym is) ∙ calls in cc) (status_is x.status h)
          | inr is ↦ ⊎_elim (λ runs. let e : Some status.Dormant ≡ Some (status.Running m) = ap (λ (y : Goroutine). Some y.status) (sym is) ∙ runs in cc)
              (λ calls. let e : Some status.Dormant ≡ Some (status.Calling m) = ap (λ (y : Goroutine). Some y.status) (sym is) ∙ calls in cc) (status_is x.status h)
        ]

  starts : (m : MNo) → m.0 < limits.machines → Agrees (opening_run run limits bodies capacities) m (machine_at_start is_fair run limits m.0)
  starts m inside = record {
    driver = record {
      some_procs = are.procs.0;
      few_procs = are.procs.1;
      few_turns = omega arith;
      pass = refl;
      fits = λ h. record { has_processor = refl; has_held = refl; has_called = refl; has_to_claim = refl; has_to_store = refl };
    };
    pass = record { run = run; m = m; calls = 0; seen = 0 };
    has_pass = refl;
    run = (refl, refl);
    its = refl;
    turn = sym (get_or-replicate limits.machines m.0 0 0 inside);
    seen = omega arith;
    procs = refl;
    few = tt;
    ended = λ e. absurd e;
    sees = λ goes. record {
      holds = λ p. (λ e. absurd (let no : None ≡ Some p = e in cc), λ h. absurd (let no : None ≡ Some m = same_row limits.procs p.0 None (Some m) h in cc));
      runs = λ g. (λ e. absurd (let no : None ≡ Some g = e in cc), λ h. absurd (none_manned g m (inl h)));
      calls = λ g. (λ e. absurd (let no : None ≡ Some g = e in cc), λ h. absurd (none_manned g m (inr h)));
      does = row_there limits.machines m.0 mode.Awake inside;
      spinning = not_spinning limits.machines m.0;
    };
    has = record {
      holds = λ p e. absurd (let no : None ≡ Some p = e in cc);
      runs = λ g e. absurd (let no : None ≡ Some g = e in cc);
      calls = λ g e. absurd (let no : None ≡ Some g = e in cc);
    };
  }

  at_start : (m : MNo) → m.0 < limits.machines → machine_at (opening_system is_fair run limits bodies capacities) m ≡ machine_at_start is_fair run limits m.0
  at_start m inside = get_or-map-range_with_len (machine_at_start is_fair run limits) 0 limits.machines m.0 m.0 no_machine inside (omega arith)

  none_elsewhere : (r : Readiness) → elsewhere r (opening_system is_fair run limits bodies capacities) ≡ 0
  none_elsewhere r =
      let queues : sum_by (in_queue r) (replicate limits.procs []) ≡ 0 = sum_by-replicate (in_queue r) limits.procs [] ∙ omega arith in
      let hands : sum_by (λ (x : PlainMachine). in_hand r x.hand) (opening_system is_fair run limits bodies capacities).machines ≡ 0 =
      sum_zero (λ (x : PlainMachine). in_hand r x.hand) (opening_system is_fair run limits bodies capacities).machines no_machine
      (λ i l. ap (λ (x : PlainMachine). in_hand r x.hand) (at_start (record { 0 = i }) (let n = length-map-range_with_len (machine_at_start is_fair run limits) 0 limits.machines in omega (arith, l, n)))) in
      omega (arith, queues, hands)

  pub opening_sound : IsSound (opening_system is_fair run limits bodies capacities)
  opening_sound =
      let count = length-map-range_with_len (machine_at_start is_fair run limits) 0 limits.machines in
      record {
        within = are;
        legal = refl;
        own = refl;
        count = count;
        queues = length-replicate limits.procs [];
        each = λ m l. (let inside : m.0 < limits.machines = omega (arith, l, count) in subst (Agrees (opening_run run limits bodies capacities) m) (sym (at_start m inside)) (starts m inside));
        tickets = λ r. (let a = none_elsewhere r in omega (arith, a));
        all_tickets = λ r goes. none_elsewhere r ∙ sym (none_out r);
      }
