-- Each act keeps that whatever stands in a queue is watched, and that no work is left asleep.
use Rattle.std.proofs.Common.{◌≡◌, ◌≢◌, ◌⊎◌, inl, inr, ℕ, ◌<◌, Bool, true, false, List, [], ◌∷◌, length, get_or, set, replicate, refl, sym, ap, ◌∙◌, subst, arith, Option, None, Some, get_or-set_same, get_or-set_other}
use Rattle.std.proofs.lemmas.Bool.{cases_eq, cases_lt, false≢true}
use Rattle.std.proofs.lemmas.List.{length-set, length-replicate, get_or_past, get_or-replicate, set-get_or}
use Rattle.std.proofs.lemmas.Option.{slice_get-map, slice_get-get_or, slice_get_within}
use Rattle.std.specs.List.{slice_get, list_any}
use Rattle.std.specs.Option.{option_map, unwrap_or}
use Rattle.gmp_base.specs.declared.ask.Ask.TheVariants as ask
use Rattle.gmp_base.specs.declared.number.MNo.{MNo}
use Rattle.gmp_base.specs.declared.number.PNo.{PNo}
use Rattle.gmp_base.specs.declared.number.Readiness.{Readiness}
use Rattle.gmp_base.specs.declared.refusal.Refusal.TheVariants.{OutOfMemory}
use Rattle.gmp_seq.proofs.Asleep.{fails_at}
use Rattle.gmp_seq.proofs.Epochs.{at_set, slice_get-set_same}
use Rattle.gmp_seq.proofs.InOrder.{legal_in_order}
use Rattle.gmp_seq.proofs.Needed.{some_place}
use Rattle.gmp_seq.proofs.Sizes.{legal_sizes}
use Rattle.gmp_seq.specs.declared.call.Call.{Call}
use Rattle.gmp_seq.specs.declared.call.Call.TheVariants as call
use Rattle.gmp_seq.specs.declared.call.Limits.{Limits}
use Rattle.gmp_seq.specs.declared.call.Reply.{Reply}
use Rattle.gmp_seq.specs.declared.call.Reply.TheVariants as reply
use Rattle.gmp_seq.specs.declared.status.Mode.{Mode}
use Rattle.gmp_seq.specs.declared.status.Mode.TheVariants as mode
use Rattle.gmp_seq.specs.Fits.{AreLimits}
use Rattle.gmp_seq.specs.Laws.{HasSizes, IsInOrder}
use Rattle.gmp_seq.specs.Machines.{Enters, IsAwake, IsParked, Machines, awake_marked, is_awake_mode, is_marked, is_parked_mode, set_holder, set_mode}
use Rattle.gmp_seq.specs.Step.{Effect}
use Rattle.gmp_driver.specs.declared.act.Act.{Act}
use Rattle.gmp_driver.specs.declared.act.Act.TheVariants as act
use Rattle.gmp_driver.specs.declared.act.Told.{Told}
use Rattle.gmp_driver.specs.declared.act.Told.TheVariants as told
use Rattle.gmp_driver.specs.declared.act.Tried.TheVariants as tried
use Rattle.gmp_driver.specs.declared.act.Value.{Value}
use Rattle.gmp_driver.specs.declared.place.Place.{Place}
use Rattle.gmp_driver.specs.declared.place.Place.TheVariants as place
use Rattle.gmp_driver.specs.Hunt.{begun, victim_of}
use Rattle.gmp_driver.specs.Local.{MayCome}
use Rattle.gmp_driver.specs.Seen.{own_processor, seen, seen_of}
use Rattle.gmp_driver.specs.Table.{act_at, after, next_act, next_place}
use Rattle.gmp_acts.specs.declared.choice.Choice.{Choice}
use Rattle.gmp_acts.specs.declared.made.Made.{Made}
use Rattle.gmp_acts.specs.Acts.{Accepted, Acts, ActsAll, Answers, DoesAct, Unmade, given_back, own_taken_from, pushed, queue_of, stolen, stolen_from, with_local, with_queue, with_ticket}
use Rattle.gmp_acts.specs.Hands.{PlainHand, PlainMachine, hand_after, hand_unmade}
use Rattle.gmp_acts.specs.Headline.{opening_system}
use Rattle.gmp_acts.specs.Lookouts.{IsLookout, IsQuiet, IsWatched, IsWatchful, NoWorkIsAsleep, has_passed}
use Rattle.gmp_acts.specs.Sound.{Agrees, IsEnd, IsSound, ModeAt}
use Rattle.gmp_acts.specs.System.{BookRun, System, machine_at, no_machine, queue_at}
use Rattle.gmp_acts.proofs.Gears.{mode_kept}
use Rattle.gmp_acts.proofs.Granted.{granted}
use Rattle.gmp_acts.proofs.Kept.{numbered}
use Rattle.gmp_acts.proofs.Moving.{act_sound, found, memory_is}
use Rattle.gmp_acts.proofs.Passing.{IsPassing, IsUp, Leaves, after_call, passes, up_after_push}
use Rattle.gmp_acts.proofs.Quiet.{quiet}
use Rattle.gmp_acts.proofs.Replies.{replies}
use Rattle.gmp_acts.proofs.Whole.{opening_sound, row_there}

-- Who enters a blocking call

marks_awake : (w : Machines) (n : MNo) → IsAwake w n → is_marked (awake_marked w) n ≡ true
marks_awake w n awake = ap (λ (o : Option Bool). unwrap_or o false) (slice_get-map is_awake_mode w.modes n.0 ∙ ap (λ (o : Option Mode). option_map is_awake_mode o) awake)

-- whoever is awake then is marked
all_marked : (m : MNo) (answer : Reply) (old new : Machines) → Enters m answer old new → (n : MNo) → IsAwake new n → is_marked new n ≡ true
all_marked m (reply.Entered p None) old new (holds, none, is) =
    subst (λ (w : Machines). (n : MNo) → IsAwake w n → is_marked w n ≡ true) (sym is) (marks_awake (set_mode (set_holder old p None) m mode.Calling))
all_marked m (reply.Entered p (Some j)) old new (holds, parked, is) =
    subst (λ (w : Machines). (n : MNo) → IsAwake w n → is_marked w n ≡ true) (sym is) (marks_awake (set_mode (set_mode (set_holder old p None) m mode.Calling) j mode.Awake))
all_marked m _ old new h = absurd h

-- where one is parked then, another is awake
one_awake : (m : MNo) (answer : Reply) (old new : Machines) → IsAwake old m → Enters m answer old new → (n : MNo) → IsParked new n → (j : MNo) × IsAwake new j
one_awake m (reply.Entered p None) old new awake (holds, none, is) n parked =
    let at : slice_get (set old.modes m.0 mode.Calling) n.0 ≡ Some mode.Parked = sym (ap (λ (w : Machines). slice_get w.modes n.0) is) ∙ parked in
    let before : slice_get old.modes n.0 ≡ Some mode.Parked = at_set (λ (o : Option Mode). o ≡ Some mode.Parked → slice_get old.modes n.0 ≡ Some mode.Parked) old.modes m.0 n.0 mode.Calling (λ same e. cc) (λ e. e) at in
    absurd (false≢true (sym (fails_at is_parked_mode old.modes n.0 mode.Parked none before)))
one_awake m (reply.Entered p (Some j)) old new awake (holds, parked, is) n there =
    let apart : j ≢ m = (λ (e : j ≡ m). let both : Some mode.Parked ≡ Some mode.Awake = sym parked ∙ ap (λ (i : MNo). slice_get old.modes i.0) e ∙ awake in cc) in
    let still : slice_get (set old.modes m.0 mode.Calling) j.0 ≡ Some mode.Parked = mode_kept old.modes m j mode.Calling apart ∙ parked in
    (j, ap (λ (w : Machines). slice_get w.modes j.0) is ∙ slice_get-set_same (set old.modes m.0 mode.Calling) j.0 mode.Awake mode.Parked still)
one_awake m _ old new awake h n parked = absurd h

awake_is : (x : Mode) → is_awake_mode x ≡ true → x ≡ mode.Awake
awake_is mode.Awake e = refl
awake_is _ e = absurd (false≢true e)

-- Acts on what a machine alone holds and on local queues

-- what machine m owes to queue q: it wasn't empty before, and m hasn't passed it by this act; or m is awake and hasn't passed it
abbrev Owes : System → MNo → PlainMachine → PNo → Type 0
Owes k m x q = ((queue_at k q ≢ []) × (has_passed x.place q ≡ true → has_passed (machine_at k m).place q ≡ true)) ⊎ (IsAwake k.book.state.machines m × (has_passed x.place q ≡ false))

module _ (k : System) (m : MNo) (inside : m.0 < length k.machines) (w : IsWatchful k) where
  -- the system then
  abbrev moved : List (List Readiness) → PlainMachine → System
  moved queues x = record k { queues = queues; machines = set k.machines m.0 x }

  moved_watchful : (queues : List (List Readiness)) (x : PlainMachine) → (k.book.state.outcome ≡ None → (q : PNo) → get_or queues q.0 [] ≢ [] → Owes k m x q)
      → IsWatchful (record k { queues = queues; machines = set k.machines m.0 x })
  moved_watchful queues x owes = record { watched = λ goes q some. by_debt goes q (owes goes q some); awake = w.awake } where
    long : length (set k.machines m.0 x) ≡ length k.machines
    long = length-set k.machines m.0 x

    still_looks : (q : PNo) (n : MNo) → (has_passed x.place q ≡ true → has_passed (machine_at k m).place q ≡ true) → IsLookout k q n → (has_passed (machine_at (moved queues x) n).place q ≡ false) ⊎ (is_marked k.book.state.machines n ≡ true)
    still_looks q n back look = elim look.looks [
      | inl ahead ↦ elim (cases_eq n.0 m.0) [
        | inl same ↦
            let here : machine_at (moved queues x) n ≡ x = ap (λ (i : ℕ). get_or (set k.machines m.0 x) i no_machine) same ∙ get_or-set_same k.machines m.0 x no_machine inside in
            let was : has_passed (machine_at k m).place q ≡ false = ap (λ (i : ℕ). has_passed (get_or k.machines i no_machine).place q) (sym same) ∙ ahead in
            inl (ap (λ (y : PlainMachine). has_passed y.place q) here ∙ by_test was (has_passed x.place q) refl)
        | inr differ ↦ inl (ap (λ (y : PlainMachine). has_passed y.place q) (get_or-set_other k.machines m.0 n.0 x no_machine differ) ∙ ahead)
      ]
      | inr marked ↦ inr marked
    ] where
      by_test : has_passed (machine_at k m).place q ≡ false → (b : Bool) → has_passed x.place q ≡ b → b ≡ false
      by_test was true e = absurd (false≢true (sym was ∙ back e))
      by_test was false e = refl

    by_debt : k.book.state.outcome ≡ None → (q : PNo) → Owes k m x q → IsWatched (moved queues x) q
    by_debt goes q (inl (some, back)) = elim (w.watched goes q some) [
      | inl watch ↦ inl (watch.0, record { inside = (let l = watch.1.inside in omega (arith, l, long)); awake = watch.1.awake; looks = still_looks q watch.0 back watch.1 })
      | inr all ↦ inr (λ n there. all n (omega (arith, there, long)))
    ]
    by_debt goes q (inr (awake, ahead)) =
        inl (m, record { inside = omega (arith, inside, long); awake = awake; looks = inl (ap (λ (y : PlainMachine). has_passed y.place q) (get_or-set_same k.machines m.0 x no_machine inside) ∙ ahead) })

-- A call that is accepted
module _ (k : System) (m : MNo) (c : Call) (x : PlainMachine) (book : BookRun) (own : List Made) (inside : m.0 < length k.machines) (s : IsSound k) (acts : next_act (machine_at k m) ≡ act.Call c)
    (done : Accepted (machine_at k m) m c k.book k.own x book own) (sound : IsSound (record k { book = book; machines = set k.machines m.0 x; own = own })) (w : IsWatchful k) where
  abbrev called : System
  called = record k { book = book; machines = set k.machines m.0 x; own = own }

  as_long : length (set k.machines m.0 x) ≡ length k.machines
  as_long = length-set k.machines m.0 x

  there : Leaves (machine_at k m).place c done.answer x.place
  there = subst (Leaves (machine_at k m).place c done.answer) (sym (ap (λ (y : PlainMachine). y.place) done.machine))
      (after_call (seen (machine_at k m)) (seen_of (machine_at k m).procs (machine_at k m).fresh (machine_at k m).turns (machine_at k m).aside (hand_after k.book.state.table c done.answer (machine_at k m).hand)) (machine_at k m).place c done.answer acts
      (replies k.book.limits m c done.answer k.book.state book.state done.step.1))

  up_awake : book.state.outcome ≡ None → IsUp x.place → IsAwake book.state.machines m
  up_awake goes up =
      let mine : Agrees book m (machine_at called m) = sound.each m (omega (arith, inside, as_long)) in
      let does : ModeAt (machine_at called m).place (slice_get book.state.machines.modes m.0) = (mine.sees goes).does in
      up.awake (slice_get book.state.machines.modes m.0) (subst (λ (y : PlainMachine). ModeAt y.place (slice_get book.state.machines.modes m.0)) (get_or-set_same k.machines m.0 x no_machine inside) does)

  row_inside : (n : MNo) (z : Mode) → slice_get book.state.machines.modes n.0 ≡ Some z → n.0 < length called.machines
  row_inside n z at =
      let sizes : HasSizes book.limits book.bodies book.state = legal_sizes book.limits book.bodies book.capacities book.history book.state sound.within sound.legal in
      let rows = sizes.modes in
      let count = sound.count in
      let within = slice_get_within book.state.machines.modes n.0 z at in
      omega (arith, rows, count, within)

  before : (n : MNo) → n.0 < length called.machines → n.0 < length k.machines
  before n l = omega (arith, l, as_long)

  -- m is at the lookout
  up_looks : book.state.outcome ≡ None → IsUp x.place → (q : PNo) → IsWatched called q
  up_looks goes up q =
      inl (m, record { inside = omega (arith, inside, as_long); awake = up_awake goes up; looks = inl (ap (λ (y : PlainMachine). has_passed y.place q) (get_or-set_same k.machines m.0 x no_machine inside) ∙ up.ahead q) })

  -- m goes into a blocking call
  enters : c ≡ call.Enter → Enters m done.answer k.book.state.machines book.state.machines
  enters is = (subst (λ (d : Call). Effect k.book.limits m d done.answer k.book.state book.state) is done.step.1).2.1

  was_awake : c ≡ call.Enter → IsAwake k.book.state.machines m
  was_awake is =
      let runs = subst (λ (d : Call). Effect k.book.limits m d done.answer k.book.state book.state) is done.step.1 in
      (order.together.runner runs.0 m runs.1).0
    where
      order : IsInOrder k.book.limits k.book.state
      order = legal_in_order k.book.limits k.book.bodies k.book.capacities k.book.history k.book.state s.within s.legal

  enter_looks : c ≡ call.Enter → (q : PNo) → IsWatched called q
  enter_looks is q = by_awake (list_any is_awake_mode book.state.machines.modes) refl where
    by_mode : list_any is_awake_mode book.state.machines.modes ≡ false → (n : MNo) (z : Mode) → slice_get book.state.machines.modes n.0 ≡ Some z → slice_get book.state.machines.modes n.0 ≡ Some mode.Calling
    by_mode none n mode.Calling at = at
    by_mode none n mode.Awake at = absurd (false≢true (sym (fails_at is_awake_mode book.state.machines.modes n.0 mode.Awake none at)))
    by_mode none n mode.Parked at =
        let other = one_awake m done.answer k.book.state.machines book.state.machines (was_awake is) (enters is) n at in
        absurd (false≢true (sym (fails_at is_awake_mode book.state.machines.modes other.0.0 mode.Awake none other.1)))

    by_awake : (b : Bool) → list_any is_awake_mode book.state.machines.modes ≡ b → IsWatched called q
    by_awake true some =
        let row = some_place is_awake_mode book.state.machines.modes some in
        let n : MNo = record { 0 = row.0 } in
        let awake : IsAwake book.state.machines n = row.2 ∙ ap (λ (z : Mode). Some z) (awake_is row.1 row.3) in
        inl (n, record { inside = row_inside n mode.Awake awake; awake = awake; looks = inr (all_marked m done.answer k.book.state.machines book.state.machines (enters is) n awake) })
    by_awake false none = inr (λ n l.
        let sizes : HasSizes book.limits book.bodies book.state = legal_sizes book.limits book.bodies book.capacities book.history book.state sound.within sound.legal in
        let rows = sizes.modes in
        let count = sound.count in
        by_mode none n _ (slice_get-get_or book.state.machines.modes n.0 mode.Awake (omega (arith, rows, count, l))))

  -- m parks
  abbrev Stops : Type 0
  Stops = (c ≡ call.Park) × (done.answer ≡ reply.Parked)

  parks : Stops → Effect k.book.limits m call.Park reply.Parked k.book.state book.state
  parks (is, answers) = subst (λ (a : Reply). Effect k.book.limits m call.Park a k.book.state book.state) answers (subst (λ (d : Call). Effect k.book.limits m d done.answer k.book.state book.state) is done.step.1)

  modes_parked : (p : Stops) (n : MNo) → n ≢ m → slice_get book.state.machines.modes n.0 ≡ slice_get k.book.state.machines.modes n.0
  modes_parked p n ne = ap (λ (v : Machines). slice_get v.modes n.0) (parks p).1.6 ∙ mode_kept k.book.state.machines.modes m n mode.Parked ne

  park_looks : (machine_at k m).place ≡ place.Park → Stops → (q : PNo) → queue_at k q ≢ [] → IsWatched called q
  park_looks at p q some = by_watch (w.watched done.step.0 q some) where
    by_watch : IsWatched k q → IsWatched called q
    by_watch (inl (n, look)) = elim (cases_eq n.0 m.0) [
      | inl same ↦
          let is : n ≡ m = numbered m n same in
          absurd (elim look.looks [
            | inl ahead ↦
                let passed : has_passed (machine_at k n).place q ≡ true = ap (λ (j : MNo). has_passed (machine_at k j).place q) is ∙ ap (λ (z : Place). has_passed z q) at in
                false≢true (sym ahead ∙ passed)
            | inr marked ↦ false≢true (sym (parks p).1.3 ∙ ap (λ (j : MNo). is_marked k.book.state.machines j) (sym is) ∙ marked)
          ])
      | inr differ ↦
          let ne : n ≢ m = (λ (e : n ≡ m). differ (ap (λ (i : MNo). i.0) e)) in
          inl (
            n,
            record {
              inside = (let l = look.inside in omega (arith, l, as_long));
              awake = modes_parked p n ne ∙ look.awake;
              looks = elim look.looks [
                | inl ahead ↦ inl (ap (λ (y : PlainMachine). has_passed y.place q) (get_or-set_other k.machines m.0 n.0 x no_machine differ) ∙ ahead)
                | inr marked ↦ inr (ap (λ (v : Machines). is_marked v n) (parks p).1.6 ∙ marked)
              ];
            },
          )
    ]
    by_watch (inr all) =
        let calling : slice_get k.book.state.machines.modes m.0 ≡ Some mode.Calling = all m inside in
        let both : Some mode.Calling ≡ Some mode.Awake = sym calling ∙ (parks p).0.0 in absurd (let no : ⊥ = cc in no)

  -- m is told that it wasn't woken
  abbrev Rests : Type 0
  Rests = (c ≡ call.Woken) × (done.answer ≡ reply.Answer false)

  rests : Rests → Effect k.book.limits m call.Woken (reply.Answer false) k.book.state book.state
  rests (is, answers) = subst (λ (a : Reply). Effect k.book.limits m call.Woken a k.book.state book.state) answers (subst (λ (d : Call). Effect k.book.limits m d done.answer k.book.state book.state) is done.step.1)

  rest_looks : x.place ≡ place.Rest → Rests → (q : PNo) → queue_at k q ≢ [] → IsWatched called q
  rest_looks at p q some = by_watch (w.watched done.step.0 q some) where
    same : book.state.machines ≡ k.book.state.machines
    same = (rests p).0.1

    by_watch : IsWatched k q → IsWatched called q
    by_watch (inl (n, look)) = inl (
      n,
      record {
        inside = (let l = look.inside in omega (arith, l, as_long));
        awake = ap (λ (v : Machines). slice_get v.modes n.0) same ∙ look.awake;
        looks = elim (cases_eq n.0 m.0) [
          | inl here ↦
              let is : machine_at called n ≡ x = ap (λ (i : ℕ). get_or (set k.machines m.0 x) i no_machine) here ∙ get_or-set_same k.machines m.0 x no_machine inside in
              inl (ap (λ (y : PlainMachine). has_passed y.place q) is ∙ ap (λ (z : Place). has_passed z q) at)
          | inr differ ↦ elim look.looks [
            | inl ahead ↦ inl (ap (λ (y : PlainMachine). has_passed y.place q) (get_or-set_other k.machines m.0 n.0 x no_machine differ) ∙ ahead)
            | inr marked ↦ inr (ap (λ (v : Machines). is_marked v n) same ∙ marked)
          ]
        ];
      },
    )
    by_watch (inr all) = inr (λ n l. ap (λ (v : Machines). slice_get v.modes n.0) same ∙ all n (before n l))

  called_watched : book.state.outcome ≡ None → (q : PNo) → queue_at k q ≢ [] → IsWatched called q
  called_watched goes q some = by_place there where
    by_place : Leaves (machine_at k m).place c done.answer x.place → IsWatched called q
    by_place (inl up) = up_looks goes up q
    by_place (inr (inl is)) = enter_looks is q
    by_place (inr (inr (inl (at, is, answers)))) = park_looks at (is, answers) q some
    by_place (inr (inr (inr (was, at, is, answers)))) = rest_looks at (is, answers) q some

  called_awake : NoWorkIsAsleep called
  called_awake goes nobody n parked = by_place there where
    by_place : Leaves (machine_at k m).place c done.answer x.place → IsQuiet book.state
    by_place (inl up) = absurd (nobody m (up_awake goes up))
    by_place (inr (inl is)) = (let other = one_awake m done.answer k.book.state.machines book.state.machines (was_awake is) (enters is) n parked in absurd (nobody other.0 other.1))
    by_place (inr (inr (inl (at, is, answers)))) =
        let p : Stops = (is, answers) in
        let h = (parks p).1 in
        let was : IsQuiet k.book.state = quiet k m inside s done.step.0 (w.watched done.step.0) at (parks p).0 h.3 (λ j ne awake. nobody j (modes_parked p j ne ∙ awake)) h.0 h.1 h.2 in
        record {
          nobody_ready = rw h.4 was.nobody_ready;
          no_deadline = rw h.4 was.no_deadline;
          some_call = rw h.4 was.some_call;
        }
    by_place (inr (inr (inr (was, at, is, answers)))) =
        let h = rests (is, answers) in
        let stays : IsQuiet k.book.state = w.awake done.step.0 (λ j awake. nobody j (ap (λ (v : Machines). slice_get v.modes j.0) h.0.1 ∙ awake)) n (ap (λ (v : Machines). slice_get v.modes n.0) (sym h.0.1) ∙ parked) in
        record {
          nobody_ready = rw h.1 stays.nobody_ready;
          no_deadline = rw h.1 stays.no_deadline;
          some_call = rw h.1 stays.some_call;
        }

  pub call_watchful : IsWatchful called
  call_watchful = record { watched = called_watched; awake = called_awake }

-- One act of machine m

queue_inside : (qs : List (List Readiness)) (p : ℕ) → get_or qs p [] ≢ [] → p < length qs
queue_inside qs p some = elim (cases_lt p (length qs)) [ inl l ↦ l | inr past ↦ absurd (some (get_or_past qs p [] past)) ]

module _ (k : System) (m : MNo) (inside : m.0 < length k.machines) (s : IsSound k) (w : IsWatchful k) where
  abbrev X : PlainMachine
  X = machine_at k m

  mine : Agrees k.book m (machine_at k m)
  mine = s.each m inside

  -- m passes no queue by this, unless it found that queue empty
  passes_none : (a : Act) (what : Told) (hand : PlainHand) (q : PNo) → next_act (machine_at k m) ≡ a → MayCome a what → queue_at k q ≢ []
      → ((v : PNo) → (machine_at k m).place ≡ place.Scan v → what ≡ told.Tried tried.Empty → queue_at k v ≡ [])
      → has_passed (after (record (machine_at k m) { hand = hand }) what).place q ≡ true → has_passed (machine_at k m).place q ≡ true
  passes_none a what hand q e may some empty passed =
      by_passes (passes (seen X) (seen_of X.procs X.fresh X.turns X.aside hand) q X.place what (subst (λ (b : Act). MayCome b what) (sym e) may) passed)
    where
      by_passes : (has_passed X.place q ≡ true) ⊎ IsPassing X.procs q X.place what → has_passed X.place q ≡ true
      by_passes (inl before) = before
      by_passes (inr p) = absurd (elim p.that [
        | inl same ↦ some (ap (λ (i : ℕ). get_or k.queues i []) same ∙ empty p.v p.scans p.finds_none)
        | inr past ↦
            let l = queue_inside k.queues q.0 some in
            let procs = mine.procs in
            let queues = s.queues in
            omega (arith, past, l, procs, queues)
      ])

  -- the machine is told something, and the queues stay
  told_watchful : (a : Act) (what : Told) → next_act (machine_at k m) ≡ a → MayCome a what → ((v : PNo) → (machine_at k m).place ≡ place.Scan v → what ≡ told.Tried tried.Empty → queue_at k v ≡ [])
      → IsWatchful (with_local k m (after (machine_at k m) what, k.queues))
  told_watchful a what e may empty = moved_watchful k m inside w k.queues (after X what) (λ goes q some. inl (some, passes_none a what X.hand q e may some empty))

  -- a ticket is taken from queue p
  took_watchful : (a : Act) (p : ℕ) (t : Readiness) (rest : List Readiness) (what : Told) (hand : PlainHand) → next_act (machine_at k m) ≡ a → MayCome a what → (what ≡ told.Tried tried.Empty → ⊥)
      → get_or k.queues p [] ≡ t ∷ rest → IsWatchful (with_local k m (after (record (machine_at k m) { hand = hand }) what, set k.queues p rest))
  took_watchful a p t rest what hand e may got is =
      moved_watchful k m inside w (set k.queues p rest) (after (record X { hand = hand }) what)
      (λ goes q some. let before : queue_at k q ≢ [] = was_some q some in inl (before, passes_none a what hand q e may before (λ v scans none. absurd (got none))))
    where
      was_some : (q : PNo) → get_or (set k.queues p rest) q.0 [] ≢ [] → queue_at k q ≢ []
      was_some q some none = elim (cases_eq q.0 p) [
        | inl same ↦ (let no : t ∷ rest ≡ [] = sym is ∙ ap (λ (i : ℕ). get_or k.queues i []) (sym same) ∙ none in cc)
        | inr differ ↦ some (get_or-set_other k.queues p q.0 rest [] differ ∙ none)
      ]

  pops : (o : Option PNo) (queue : List Readiness) → own_processor (machine_at k m).hand ≡ o → queue_of k.queues o ≡ queue → next_act (machine_at k m) ≡ act.Pop
      → IsWatchful (with_local k m (own_taken_from false (machine_at k m) k.queues queue))
  pops o [] own is e = told_watchful act.Pop told.Empty e tt (λ v at none. absurd (let no : ⊥ = cc in no))
  pops None (t ∷ rest) own is e = absurd (let no : [] ≡ t ∷ rest = is in cc)
  pops (Some p) (t ∷ rest) own is e =
      subst (λ (q : Option PNo). IsWatchful (with_local k m (after (record X { hand = record X.hand { to_claim = Some t } }) told.Got, with_queue k.queues q rest))) (sym own)
      (took_watchful act.Pop p.0 t rest told.Got (record X.hand { to_claim = Some t }) e tt (λ none. cc) is)

  drains : (o : Option PNo) (queue : List Readiness) → own_processor (machine_at k m).hand ≡ o → queue_of k.queues o ≡ queue → next_act (machine_at k m) ≡ act.Drain
      → IsWatchful (with_local k m (own_taken_from true (machine_at k m) k.queues queue))
  drains o [] own is e = told_watchful act.Drain told.Empty e tt (λ v at none. absurd (let no : ⊥ = cc in no))
  drains None (t ∷ rest) own is e = absurd (let no : [] ≡ t ∷ rest = is in cc)
  drains (Some p) (t ∷ rest) own is e =
      subst (λ (q : Option PNo). IsWatchful (with_local k m (after (record X { hand = record X.hand { to_store = Some t } }) told.Drained, with_queue k.queues q rest))) (sym own)
      (took_watchful act.Drain p.0 t rest told.Drained (record X.hand { to_store = Some t }) e tt (λ none. cc) is)

  steals : (v : PNo) (queue : List Readiness) → get_or k.queues v.0 [] ≡ queue → next_act (machine_at k m) ≡ act.Steal v → IsWatchful (with_local k m (stolen_from (machine_at k m) None k.queues v queue))
  steals v [] is e = told_watchful (act.Steal v) (told.Tried tried.Empty) e tt
      (λ u at none. let same : act.Steal u ≡ act.Steal v = ap (λ (p : Place). act_at (seen X) p) (sym at) ∙ e in let one : u ≡ v = cc in ap (λ (j : PNo). queue_at k j) one ∙ is)
  steals v (t ∷ rest) is e = took_watchful (act.Steal v) v.0 t rest (told.Tried (tried.Got (length (t ∷ rest)))) (with_ticket t X.hand X.hand.to_claim) e tt (λ none. cc) is

  steals_or : (v : PNo) (lost : Bool) → next_act (machine_at k m) ≡ act.Steal v → IsWatchful (with_local k m (stolen (machine_at k m) None k.queues v lost))
  steals_or v true e = told_watchful (act.Steal v) (told.Tried tried.Unsure) e tt (λ u at none. absurd (let no : ⊥ = cc in no))
  steals_or v false e = steals v (get_or k.queues v.0 []) refl e

  hunts : (word : ℕ) (v : PNo) (queue : List Readiness) → get_or k.queues v.0 [] ≡ queue → next_act (machine_at k m) ≡ act.Hunt → IsWatchful (with_local k m (stolen_from (machine_at k m) (Some word) k.queues v queue))
  hunts word v [] is e = told_watchful act.Hunt (told.Drew word tried.Empty) e tt (λ u at none. absurd (let no : ⊥ = cc in no))
  hunts word v (t ∷ rest) is e = took_watchful act.Hunt v.0 t rest (told.Drew word (tried.Got (length (t ∷ rest)))) (with_ticket t X.hand X.hand.to_claim) e tt (λ none. cc) is

  hunts_or : (word : ℕ) (v : PNo) (lost : Bool) → next_act (machine_at k m) ≡ act.Hunt → IsWatchful (with_local k m (stolen (machine_at k m) (Some word) k.queues v lost))
  hunts_or word v true e = told_watchful act.Hunt (told.Drew word tried.Unsure) e tt (λ u at none. absurd (let no : ⊥ = cc in no))
  hunts_or word v false e = hunts word v (get_or k.queues v.0 []) refl e

  -- who pushes is awake then, and has passed no queue
  push_watchful : (queues : List (List Readiness)) (hand : PlainHand) → next_act (machine_at k m) ≡ act.Push
      → IsSound (record k { queues = queues; machines = set k.machines m.0 (after (record (machine_at k m) { hand = hand }) told.Pushed) })
      → IsWatchful (with_local k m (after (record (machine_at k m) { hand = hand }) told.Pushed, queues))
  push_watchful queues hand e sound =
      let y : PlainMachine = after (record X { hand = hand }) told.Pushed in
      let up : IsUp y.place = up_after_push (seen X) (seen_of X.procs X.fresh X.turns X.aside hand) X.place (subst (λ (b : Act). MayCome b told.Pushed) (sym e) tt) in
      let long = length-set k.machines m.0 y in
      moved_watchful k m inside w queues y (λ goes q some.
      let now = (sound.each m (omega (arith, inside, long))).sees goes in
      inr (up.awake (slice_get k.book.state.machines.modes m.0) (subst (λ (z : PlainMachine). ModeAt z.place (slice_get k.book.state.machines.modes m.0)) (get_or-set_same k.machines m.0 y no_machine inside) now.does), up.ahead q))

  pushes : (o : Option Readiness) (refused : Bool) → (machine_at k m).hand.to_store ≡ o → next_act (machine_at k m) ≡ act.Push → IsSound (with_local k m (pushed (machine_at k m) k.queues o refused))
      → IsWatchful (with_local k m (pushed (machine_at k m) k.queues o refused))
  pushes None refused is e sound = subst (λ (ms : List PlainMachine). IsWatchful (record k { machines = ms })) (sym (set-get_or k.machines m.0 no_machine)) w
  pushes (Some t) true is e sound = told_watchful act.Push told.PushRefused e tt (λ u at none. absurd (let no : ⊥ = cc in no))
  pushes (Some t) false is e sound = push_watchful _ (record X.hand { to_store = None }) e sound

  -- after the outcome nothing is claimed
  over_watchful : (y : PlainMachine) → k.book.state.outcome ≢ None → IsWatchful (record k { machines = set k.machines m.0 y })
  over_watchful y over = record { watched = λ goes. absurd (over goes); awake = λ goes. absurd (over goes) }

  surrenders : (which : Option Value) → next_act (machine_at k m) ≡ act.Surrender which → IsWatchful (record k { machines = set k.machines m.0 (given_back (machine_at k m) which) })
  surrenders which e = over_watchful (given_back X which) (mine.ended (subst IsEnd (sym (found k m inside s (act.Surrender which) e).0) tt))

  at_parts : (x x' : PlainMachine) (book book' : BookRun) (own own' : List Made) → x' ≡ x → book' ≡ book → own' ≡ own → IsWatchful (record k { book = book; machines = set k.machines m.0 x; own = own })
      → IsWatchful (record k { book = book'; machines = set k.machines m.0 x'; own = own' })
  at_parts x x' book book' own own' ex eb eo h = rw (ex, eb, eo) h

  -- a make that wanted memory
  wants : (capacity : ℕ) → next_act (machine_at k m) ≡ act.Call (call.Make capacity)
      → IsWatchful (record k { machines = set k.machines m.0 (after (record (machine_at k m) { hand = hand_unmade (machine_at k m).hand }) (told.Refused OutOfMemory)) })
  wants capacity e =
      let at : X.place ≡ place.Do (ask.Make capacity) = found k m inside s (act.Call (call.Make capacity)) e in
      let y : PlainMachine = after (record X { hand = hand_unmade X.hand }) (told.Refused OutOfMemory) in
      let goes_on : y.place ≡ place.Run = ap (λ (p : Place). next_place (seen_of X.procs X.fresh X.turns X.aside (hand_unmade X.hand)) p (told.Refused OutOfMemory)) at in
      moved_watchful k m inside w k.queues y (λ goes q some.
      inl (some, λ passed. absurd (let no : has_passed y.place q ≡ false = ap (λ (p : Place). has_passed p q) goes_on in false≢true (sym no ∙ passed))))

  unmade_watchful : (asked : Call) (x' : PlainMachine) (book' : BookRun) (own' : List Made) → next_act (machine_at k m) ≡ act.Call asked → Unmade (machine_at k m) m asked k.book k.own x' book' own'
      → IsWatchful (record k { book = book'; machines = set k.machines m.0 x'; own = own' })
  unmade_watchful asked x' book' own' e want =
      let memory = memory_is k.book.limits asked k.book.state want.makes in
      at_parts _ x' k.book book' k.own own' want.machine want.same want.none (wants memory.0 (e ∙ ap act.Call memory.1))

  -- whatever a call comes to
  answers : (asked : Call) (x' : PlainMachine) (book' : BookRun) (own' : List Made) → next_act (machine_at k m) ≡ act.Call asked → IsSound (record k { book = book'; machines = set k.machines m.0 x'; own = own' })
      → Answers (machine_at k m) m asked k.book k.own x' book' own' → IsWatchful (record k { book = book'; machines = set k.machines m.0 x'; own = own' })
  answers asked x' book' own' e sound (inl done) = call_watchful k m asked x' book' own' inside s e done sound w
  answers asked x' book' own' e sound (inr (inl stop)) = at_parts x' x' k.book book' k.own own' refl stop.same stop.none (over_watchful x' stop.over)
  answers asked x' book' own' e sound (inr (inr (inl want))) = unmade_watchful asked x' book' own' e want
  answers asked x' book' own' e sound (inr (inr (inr declined))) = absurd (declined.unmet (granted k m asked inside s e declined.lasts))

  pub does_watchful : (a : Act) (choice : Choice) (k' : System) → next_act (machine_at k m) ≡ a → DoesAct a k m choice k' → IsSound k' → IsWatchful k'
  does_watchful (act.Call asked) choice k' e d sound = subst IsWatchful (sym d.4) (answers asked d.0 d.1 d.2 e (subst IsSound d.4 sound) d.3)
  does_watchful act.Pop choice k' e d sound = subst IsWatchful (sym d) (pops (own_processor X.hand) (queue_of k.queues (own_processor X.hand)) refl refl e)
  does_watchful act.Drain choice k' e d sound = subst IsWatchful (sym d) (drains (own_processor X.hand) (queue_of k.queues (own_processor X.hand)) refl refl e)
  does_watchful act.Push choice k' e d sound = subst IsWatchful (sym d) (pushes X.hand.to_store choice.push_refused refl e (subst IsSound d sound))
  does_watchful act.Hunt choice k' e d sound = subst IsWatchful (sym d) (hunts_or choice.word (victim_of X.procs (begun (seen X) choice.word)) choice.unsure e)
  does_watchful (act.Steal v) choice k' e d sound = subst IsWatchful (sym d) (steals_or v choice.unsure e)
  does_watchful act.Resume choice k' e d sound = subst IsWatchful (sym d) (told_watchful act.Resume (told.Asked choice.ask) e tt (λ u at none. absurd (let no : ⊥ = cc in no)))
  does_watchful act.Block choice k' e d sound = subst IsWatchful (sym d) (told_watchful act.Block (told.Number choice.number) e tt (λ u at none. absurd (let no : ⊥ = cc in no)))
  does_watchful (act.Clock deadline) choice k' e d sound = subst IsWatchful (sym d) (told_watchful (act.Clock deadline) (told.Moment choice.moment) e tt (λ u at none. absurd (let no : ⊥ = cc in no)))
  does_watchful (act.Surrender which) choice k' e d sound = subst IsWatchful (sym d) (surrenders which e)
  does_watchful act.Nothing choice k' e d sound = subst IsWatchful (sym d) w

-- Every act keeps it.
pub act_watchful : (k : System) (m : MNo) (choice : Choice) (k' : System) → Acts k m choice k' → IsSound k → IsWatchful k → IsWatchful k'
act_watchful k m choice k' acts s w =
    elim (cases_lt m.0 (length k.machines)) [
      | inl inside ↦ does_watchful k m inside s w (next_act (machine_at k m)) choice k' refl (acts.by_place inside) (act_sound k m choice k' acts s)
      | inr past ↦ subst IsWatchful (sym (acts.else_none past)) w
    ]

pub all_watchful : (moves : List (MNo × Choice)) (k k' : System) → ActsAll k moves k' → IsSound k → IsWatchful k → IsWatchful k'
all_watchful [] k k' all s w = subst IsWatchful (sym all) w
all_watchful (move ∷ moves) k k' all s w = all_watchful moves all.0 k' all.2 (act_sound k move.0 move.1 all.0 all.1 s) (act_watchful k move.0 move.1 all.0 all.1 s w)

-- The opening: all queues are empty, and all machines awake
pub opening_watchful : (is_fair : Bool) (run : ℕ) (limits : Limits) (bodies : ℕ) (capacities : List ℕ) → AreLimits limits bodies capacities → IsWatchful (opening_system is_fair run limits bodies capacities)
opening_watchful is_fair run limits bodies capacities are = record {
  watched = λ goes q some. absurd (some (no_queue q));
  awake = λ goes nobody m parked. absurd (
      let row = row_there limits.machines 0 mode.Awake (let a = are.procs.0 in let b = are.machines.0 in omega (arith, a, b)) in
      nobody (record { 0 = 0 }) row);
} where
  none : List Readiness
  none = []

  no_queue : (q : PNo) → queue_at (opening_system is_fair run limits bodies capacities) q ≡ []
  no_queue q = elim (cases_lt q.0 limits.procs) [
    | inl inside ↦ get_or-replicate limits.procs q.0 none none inside
    | inr past ↦ get_or_past (replicate limits.procs none) q.0 none (let l = length-replicate limits.procs none in omega (arith, l, past))
  ]

pub awake_after : (is_fair : Bool) (run : ℕ) (limits : Limits) (bodies : ℕ) (capacities : List ℕ) (moves : List (MNo × Choice)) (end : System) → AreLimits limits bodies capacities
    → ActsAll (opening_system is_fair run limits bodies capacities) moves end → NoWorkIsAsleep end
awake_after is_fair run limits bodies capacities moves end are all =
    (all_watchful moves (opening_system is_fair run limits bodies capacities) end all (opening_sound is_fair run limits bodies capacities are) (opening_watchful is_fair run limits bodies capacities are)).awake
