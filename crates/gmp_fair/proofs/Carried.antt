-- Where an act may carry a ticket: between queues, hands and the shelf.
use Rattle.std.proofs.Common.{◌≡◌, ◌⊎◌, inl, inr, ℕ, zero, suc, ◌+◌, ◌<◌, ◌≤◌, Bool, true, false, List, [], ◌∷◌, ◌++◌, length, get_or, set, is_some, refl, sym, ap, subst, ◌∙◌, arith, Option, None, Some, if◌then◌else◌}
use Rattle.std.proofs.lemmas.Bool.{cases_eq, cases_lt, false≢true}
use Rattle.std.proofs.lemmas.List.{get_or-set_other, get_or-set_same, get_or_past, length-set}
use Rattle.gmp_base.specs.declared.number.MNo.{MNo}
use Rattle.gmp_base.specs.declared.number.PNo.{PNo}
use Rattle.gmp_base.specs.declared.number.Readiness.{Readiness}
use Rattle.gmp_seq.specs.declared.call.Call.{Call}
use Rattle.gmp_seq.specs.declared.call.Call.TheVariants as call
use Rattle.gmp_seq.specs.declared.call.Reply.{Reply}
use Rattle.gmp_driver.specs.declared.act.Act.{Act}
use Rattle.gmp_driver.specs.declared.act.Act.TheVariants as act
use Rattle.gmp_driver.specs.declared.act.Told.TheVariants as told
use Rattle.gmp_driver.specs.declared.place.Place.{Place}
use Rattle.gmp_driver.specs.declared.place.Place.TheVariants as place
use Rattle.gmp_driver.specs.Fits.{SuitsPlace}
use Rattle.gmp_driver.specs.Hunt.{begun, victim_of}
use Rattle.gmp_driver.specs.Own.{with_found}
use Rattle.gmp_driver.specs.Seen.{own_processor, seen}
use Rattle.gmp_driver.specs.Table.{act_at, after, claim_call, next_act}
use Rattle.gmp_acts.specs.declared.choice.Choice.{Choice}
use Rattle.gmp_acts.specs.declared.made.Made.{Made}
use Rattle.gmp_acts.specs.Acts.{Accepted, Acts, Answers, DoesAct, MakesCall, own_taken_from, pushed, queue_of, stolen, stolen_from, with_local, with_queue, with_ticket}
use Rattle.gmp_acts.specs.Hands.{PlainHand, PlainMachine, hand_after}
use Rattle.gmp_acts.specs.Sound.{Agrees, IsEnd, IsSound}
use Rattle.gmp_acts.specs.System.{BookRun, System, count_of_all, in_hand, is_ticket, machine_at, no_machine, on_shelf, queue_at, readied}
use Rattle.gmp_acts.proofs.Moving.{queue_within}
use Rattle.gmp_acts.proofs.Replies.{CanReply, replies}
use Rattle.gmp_fair.specs.Fair.{IsBehind, Stands, steals_more}
use Rattle.gmp_fair.proofs.Given.{claimed_is_spent, gained, shelved_is_old, ticket_is}
use Rattle.gmp_fair.proofs.Hands.{HasTicketAt, MadeAt, drained_place, hand_left, holds_at, hunted_place, made_at, popped_place, stolen_place, taken_place}

-- Queues

module _ (r : Readiness) where
  in_none : (j : ℕ) → IsBehind j r [] → ⊥
  in_none j h = (let no : None ≡ Some r = h in cc)

  stands_last : (l : List Readiness) (t : Readiness) (j : ℕ) → IsBehind j r (l ++ t ∷ []) → Stands r l ⊎ (t ≡ r)
  stands_last [] t zero h = inr cc
  stands_last [] t (suc j) h = absurd (in_none j h)
  stands_last (y ∷ l) t zero h = inl (0, h)
  stands_last (y ∷ l) t (suc j) h = elim (stands_last l t j h) [ inl w ↦ inl (suc w.0, w.1) | inr e ↦ inr e ]

  -- what is left of a queue stood in it
  first_gone : (qs : List (List Readiness)) (v p : ℕ) (t : Readiness) (rest : List Readiness) → get_or qs v [] ≡ t ∷ rest → Stands r (get_or (set qs v rest) p []) → Stands r (get_or qs p [])
  first_gone qs v p t rest is h = elim (cases_eq p v) [
    | inl same ↦
        let now : get_or (set qs v rest) p [] ≡ rest = ap (λ (i : ℕ). get_or (set qs v rest) i []) same ∙ get_or-set_same qs v rest [] (queue_within qs v t rest is) in
        let was : get_or qs p [] ≡ t ∷ rest = ap (λ (i : ℕ). get_or qs i []) same ∙ is in
        let there : Stands r rest = subst (Stands r) now h in
        subst (Stands r) (sym was) (suc there.0, there.1)
    | inr other ↦ subst (Stands r) (get_or-set_other qs v p rest [] other) h
  ]

  -- whoever stands in it after a push stood in it, or was pushed
  last_came : (qs : List (List Readiness)) (q p : ℕ) (t : Readiness) → Stands r (get_or (set qs q (get_or qs q [] ++ t ∷ [])) p []) → Stands r (get_or qs p []) ⊎ (t ≡ r)
  last_came qs q p t h = elim (cases_eq p q) [
    | inl same ↦ elim (cases_lt q (length qs)) [
      | inl within ↦
          let now : get_or (set qs q (get_or qs q [] ++ t ∷ [])) p [] ≡ get_or qs q [] ++ t ∷ [] = ap (λ (i : ℕ). get_or (set qs q (get_or qs q [] ++ t ∷ [])) i []) same ∙ get_or-set_same qs q (get_or qs q [] ++ t ∷ []) [] within in
          let there : Stands r (get_or qs q [] ++ t ∷ []) = subst (Stands r) now h in
          elim (stands_last (get_or qs q []) t there.0 there.1) [ inl w ↦ inl (subst (λ (i : ℕ). Stands r (get_or qs i [])) (sym same) w) | inr e ↦ inr e ]
      | inr past ↦
          let none : get_or (set qs q (get_or qs q [] ++ t ∷ [])) p [] ≡ [] = get_or_past (set qs q (get_or qs q [] ++ t ∷ [])) p [] (let l = length-set qs q (get_or qs q [] ++ t ∷ []) in omega (arith, past, same, l)) in
          let there : Stands r [] = subst (Stands r) none h in absurd (in_none there.0 there.1)
    ]
    | inr other ↦ inl (subst (Stands r) (get_or-set_other qs q p (get_or qs q [] ++ t ∷ []) [] other) h)
  ]

module _ (k : System) (n : MNo) (choice : Choice) (k' : System) (inside : n.0 < length k.machines) (acts : Acts k n choice k') where
  abbrev X : PlainMachine
  X = machine_at k n

  does : DoesAct (next_act (machine_at k n)) k n choice k'
  does = acts.by_place inside

  at_own : (x : PlainMachine) → get_or (set k.machines n.0 x) n.0 no_machine ≡ x
  at_own x = get_or-set_same k.machines n.0 x no_machine inside

  -- an act leaves the book as it was, or all queues
  pub apart : (k'.book ≡ k.book) ⊎ (k'.queues ≡ k.queues)
  apart = by (next_act (machine_at k n)) does where
    by : (a : Act) → DoesAct a k n choice k' → (k'.book ≡ k.book) ⊎ (k'.queues ≡ k.queues)
    by (act.Call c) d = inr (ap (λ (s : System). s.queues) d.4)
    by act.Pop d = inl (ap (λ (s : System). s.book) d)
    by act.Drain d = inl (ap (λ (s : System). s.book) d)
    by act.Push d = inl (ap (λ (s : System). s.book) d)
    by act.Hunt d = inl (ap (λ (s : System). s.book) d)
    by (act.Steal v) d = inl (ap (λ (s : System). s.book) d)
    by act.Resume d = inl (ap (λ (s : System). s.book) d)
    by act.Block d = inl (ap (λ (s : System). s.book) d)
    by (act.Clock deadline) d = inl (ap (λ (s : System). s.book) d)
    by (act.Surrender which) d = inl (ap (λ (s : System). s.book) d)
    by act.Nothing d = inl (ap (λ (s : System). s.book) d)

  -- Into a queue: only who pushes puts a ticket into one
  module _ (r : Readiness) (p : PNo) where
    abbrev pub Came : Type 0
    Came = Stands r (queue_at k p) ⊎ ((next_act (machine_at k n) ≡ act.Push) × ((machine_at k n).hand.to_store ≡ Some r))

    took : (b : Bool) (o : Option PNo) (queue : List Readiness) → own_processor (machine_at k n).hand ≡ o → queue_of k.queues o ≡ queue
        → Stands r (get_or (own_taken_from b (machine_at k n) k.queues queue).1 p.0 []) → Stands r (queue_at k p)
    took b o [] own is h = h
    took b None (t ∷ rest) own is h = absurd (let no : [] ≡ t ∷ rest = is in cc)
    took b (Some q) (t ∷ rest) own is h = first_gone r k.queues q.0 p.0 t rest is (subst (λ (o : Option PNo). Stands r (get_or (with_queue k.queues o rest) p.0 [])) own h)

    stole_from : (drawn : Option ℕ) (v : PNo) (queue : List Readiness) → get_or k.queues v.0 [] ≡ queue → Stands r (get_or (stolen_from (machine_at k n) drawn k.queues v queue).1 p.0 []) → Stands r (queue_at k p)
    stole_from drawn v [] is h = h
    stole_from drawn v (t ∷ rest) is h = first_gone r k.queues v.0 p.0 t rest is h

    stole : (drawn : Option ℕ) (v : PNo) (lost : Bool) → Stands r (get_or (stolen (machine_at k n) drawn k.queues v lost).1 p.0 []) → Stands r (queue_at k p)
    stole drawn v true h = h
    stole drawn v false h = stole_from drawn v (get_or k.queues v.0 []) refl h

    put : (o : Option PNo) (t : Readiness) → Stands r (get_or (with_queue k.queues o (queue_of k.queues o ++ t ∷ [])) p.0 []) → Stands r (queue_at k p) ⊎ (t ≡ r)
    put None t h = inl h
    put (Some q) t h = last_came r k.queues q.0 p.0 t h

    push : (o : Option Readiness) (refused : Bool) → (machine_at k n).hand.to_store ≡ o → next_act (machine_at k n) ≡ act.Push → Stands r (get_or (pushed (machine_at k n) k.queues o refused).1 p.0 []) → Came
    push None refused is e h = inl h
    push (Some t) true is e h = inl h
    push (Some t) false is e h = elim (put (own_processor (machine_at k n).hand) t h) [ inl w ↦ inl w | inr same ↦ inr (e, is ∙ ap Some same) ]

    pub came_from : Stands r (queue_at k' p) → Came
    came_from = by (next_act (machine_at k n)) refl does where
      by : (a : Act) → next_act (machine_at k n) ≡ a → DoesAct a k n choice k' → Stands r (queue_at k' p) → Came
      by (act.Call c) e d h = inl (subst (λ (s : System). Stands r (queue_at s p)) d.4 h)
      by act.Pop e d h = inl (took false (own_processor X.hand) (queue_of k.queues (own_processor X.hand)) refl refl (subst (λ (s : System). Stands r (queue_at s p)) d h))
      by act.Drain e d h = inl (took true (own_processor X.hand) (queue_of k.queues (own_processor X.hand)) refl refl (subst (λ (s : System). Stands r (queue_at s p)) d h))
      by act.Push e d h = push X.hand.to_store choice.push_refused refl e (subst (λ (s : System). Stands r (queue_at s p)) d h)
      by act.Hunt e d h = inl (stole (Some choice.word) (victim_of X.procs (begun (seen X) choice.word)) choice.unsure (subst (λ (s : System). Stands r (queue_at s p)) d h))
      by (act.Steal v) e d h = inl (stole None v choice.unsure (subst (λ (s : System). Stands r (queue_at s p)) d h))
      by act.Resume e d h = inl (subst (λ (s : System). Stands r (queue_at s p)) d h)
      by act.Block e d h = inl (subst (λ (s : System). Stands r (queue_at s p)) d h)
      by (act.Clock deadline) e d h = inl (subst (λ (s : System). Stands r (queue_at s p)) d h)
      by (act.Surrender which) e d h = inl (subst (λ (s : System). Stands r (queue_at s p)) d h)
      by act.Nothing e d h = inl (subst (λ (s : System). Stands r (queue_at s p)) d h)

  module _ (queue shelf : ℕ) where
    -- Out of a queue: whoever takes a ticket from one has it to claim, or for the shelf
    abbrev pub Found : System → Type 0
    Found s = (s.queues ≡ k.queues) ⊎ ((hand_left (machine_at s n).place queue shelf ≤ shelf) ⊎ ((r : Readiness) → in_hand r (machine_at s n).hand ≤ in_hand r (machine_at k n).hand))

    -- the machine was told so, and holds this
    goes : (x : PlainMachine) (queues : List (List Readiness)) → hand_left x.place queue shelf ≤ shelf → Found (with_local k n (x, queues))
    goes x queues h = inr (inl (let e : hand_left (get_or (set k.machines n.0 x) n.0 no_machine).place queue shelf ≡ hand_left x.place queue shelf = ap (λ (y : PlainMachine). hand_left y.place queue shelf) (at_own x) in omega (arith, e, h)))

    found_own : (b : Bool) (l : List Readiness) → next_act (machine_at k n) ≡ (if b then act.Drain else act.Pop) → Found (with_local k n (own_taken_from b (machine_at k n) k.queues l))
    found_own b [] e = inl refl
    found_own true (t ∷ rest) e =
        goes _ _ (drained_place (seen (record X { hand = with_found t true X.hand })) queue shelf X.place (subst (λ (a : Act). MadeAt a X.place) e (made_at (seen X) X.place)))
    found_own false (t ∷ rest) e =
        goes _ _ (popped_place (seen (record X { hand = with_found t false X.hand })) queue shelf X.place (subst (λ (a : Act). MadeAt a X.place) e (made_at (seen X) X.place)))

    found_hunt : (word : ℕ) (v : PNo) (lost : Bool) → next_act (machine_at k n) ≡ act.Hunt → Found (with_local k n (stolen (machine_at k n) (Some word) k.queues v lost))
    found_hunt word v true e = inl refl
    found_hunt word v false e = by (get_or k.queues v.0 []) where
      by : (l : List Readiness) → Found (with_local k n (stolen_from (machine_at k n) (Some word) k.queues v l))
      by [] = inl refl
      by (t ∷ rest) = goes _ _ (hunted_place (seen (record X { hand = with_ticket t X.hand X.hand.to_claim })) queue shelf X.place word (length (t ∷ rest)) (subst (λ (a : Act). MadeAt a X.place) e (made_at (seen X) X.place)))

    found_steal : (v : PNo) (lost : Bool) → next_act (machine_at k n) ≡ act.Steal v → steals_more (machine_at k n).place ≡ false → Found (with_local k n (stolen (machine_at k n) None k.queues v lost))
    found_steal v true e single = inl refl
    found_steal v false e single = by (get_or k.queues v.0 []) where
      by : (l : List Readiness) → Found (with_local k n (stolen_from (machine_at k n) None k.queues v l))
      by [] = inl refl
      by (t ∷ rest) = goes _ _ (stolen_place (seen (record X { hand = with_ticket t X.hand X.hand.to_claim })) queue shelf X.place v (length (t ∷ rest)) (subst (λ (a : Act). MadeAt a X.place) e (made_at (seen X) X.place)) single)

    found_push : (o : Option Readiness) (refused : Bool) → Found (with_local k n (pushed (machine_at k n) k.queues o refused))
    found_push None refused = inl refl
    found_push (Some t) true = inl refl
    found_push (Some t) false = inr (inr (λ r.
        (let e : in_hand r (get_or (set k.machines n.0 (after (record X { hand = record X.hand { to_store = None } }) told.Pushed)) n.0 no_machine).hand ≡ is_ticket r X.hand.to_claim + 0 =
        ap (λ (y : PlainMachine). in_hand r y.hand) (at_own (after (record X { hand = record X.hand { to_store = None } }) told.Pushed)) in
        omega (arith, e))))

    pub found : steals_more (machine_at k n).place ≡ false → Found k'
    found single = by (next_act (machine_at k n)) refl does where
      by : (a : Act) → next_act (machine_at k n) ≡ a → DoesAct a k n choice k' → Found k'
      by (act.Call c) e d = inl (ap (λ (s : System). s.queues) d.4)
      by act.Pop e d = subst Found (sym d) (found_own false (queue_of k.queues (own_processor X.hand)) e)
      by act.Drain e d = subst Found (sym d) (found_own true (queue_of k.queues (own_processor X.hand)) e)
      by act.Push e d = subst Found (sym d) (found_push X.hand.to_store choice.push_refused)
      by act.Hunt e d = subst Found (sym d) (found_hunt choice.word (victim_of X.procs (begun (seen X) choice.word)) choice.unsure e)
      by (act.Steal v) e d = subst Found (sym d) (found_steal v choice.unsure e single)
      by act.Resume e d = inl (ap (λ (s : System). s.queues) d)
      by act.Block e d = inl (ap (λ (s : System). s.queues) d)
      by (act.Clock deadline) e d = inl (ap (λ (s : System). s.queues) d)
      by (act.Surrender which) e d = inl (ap (λ (s : System). s.queues) d)
      by act.Nothing e d = inl (ap (λ (s : System). s.queues) d)

    -- Off the shelf: whoever takes a ticket from there has it to claim
    module _ (r : Readiness) (on : on_shelf r k.book.state.table ≡ 1) (none : in_hand r (machine_at k n).hand ≡ 0) where
      abbrev pub Taken : System → Type 0
      Taken s = (s.book ≡ k.book) ⊎ (hand_left (machine_at s n).place queue shelf ≡ 0)

      accepted_take : (c : Call) (x : PlainMachine) (book : BookRun) (own : List Made) → next_act (machine_at k n) ≡ act.Call c → Accepted (machine_at k n) n c k.book k.own x book own → 1 ≤ in_hand r x.hand
          → hand_left x.place queue shelf ≡ 0
      accepted_take c x book own e done some =
          let hand : in_hand r x.hand ≡ in_hand r (hand_after k.book.state.table c done.answer X.hand) = ap (λ (y : PlainMachine). in_hand r y.hand) done.machine in
          elim (gained r k.book.limits n c done.answer k.book.state book.state X.hand done.step.1 (omega (arith, hand, some))) [
            | inl had ↦ absurd (omega (arith, had, none))
            | inr came ↦ elim came [
              | inl take ↦
                  let at : MadeAt (act.Call call.Take) X.place = subst (λ (a : Act). MadeAt a X.place) (e ∙ ap act.Call take) (made_at (seen X) X.place) in
                  let can : CanReply call.Take done.answer = subst (λ (d : Call). CanReply d done.answer) take (replies k.book.limits n c done.answer k.book.state book.state done.step.1) in
                  ap (λ (y : PlainMachine). hand_left y.place queue shelf) done.machine ∙ taken_place (seen (record X { pass = Some (record done.granted.may.pass { calls = done.granted.may.pass.calls + 1; seen = count_of_all book }); hand = hand_after k.book.state.table c done.answer X.hand })) X.place done.answer queue shelf at can
              | inr new ↦ absurd (shelved_is_old r k.book.state.table on new)
            ]
          ]

      pub taken : 1 ≤ in_hand r (machine_at k' n).hand → Taken k'
      taken some = by (next_act (machine_at k n)) refl does where
        answers : (c : Call) (x : PlainMachine) (book : BookRun) (own : List Made) → next_act (machine_at k n) ≡ act.Call c → Answers (machine_at k n) n c k.book k.own x book own → 1 ≤ in_hand r x.hand
            → (book ≡ k.book) ⊎ (hand_left x.place queue shelf ≡ 0)
        answers c x book own e (inl done) h = inr (accepted_take c x book own e done h)
        answers c x book own e (inr (inl stop)) h = inl stop.same
        answers c x book own e (inr (inr (inl want))) h = inl want.same
        answers c x book own e (inr (inr (inr declined))) h = inl declined.same

        by : (a : Act) → next_act (machine_at k n) ≡ a → DoesAct a k n choice k' → Taken k'
        by (act.Call c) e d =
            let now : machine_at k' n ≡ d.0 = ap (λ (s : System). machine_at s n) d.4 ∙ at_own d.0 in
            let h : in_hand r (machine_at k' n).hand ≡ in_hand r d.0.hand = ap (λ (y : PlainMachine). in_hand r y.hand) now in
            elim (answers c d.0 d.1 d.2 e d.3 (omega (arith, h, some))) [
              | inl same ↦ inl (ap (λ (s : System). s.book) d.4 ∙ same)
              | inr less ↦ inr (ap (λ (y : PlainMachine). hand_left y.place queue shelf) now ∙ less)
            ]
        by act.Pop e d = inl (ap (λ (s : System). s.book) d)
        by act.Drain e d = inl (ap (λ (s : System). s.book) d)
        by act.Push e d = inl (ap (λ (s : System). s.book) d)
        by act.Hunt e d = inl (ap (λ (s : System). s.book) d)
        by (act.Steal v) e d = inl (ap (λ (s : System). s.book) d)
        by act.Resume e d = inl (ap (λ (s : System). s.book) d)
        by act.Block e d = inl (ap (λ (s : System). s.book) d)
        by (act.Clock deadline) e d = inl (ap (λ (s : System). s.book) d)
        by (act.Surrender which) e d = inl (ap (λ (s : System). s.book) d)
        by act.Nothing e d = inl (ap (λ (s : System). s.book) d)

    -- Onto the shelf: whoever puts a ticket there had it to store, or had found it
    module _ (r : Readiness) (s : IsSound k) (lasts : k.book.state.outcome ≡ None) (single : steals_more (machine_at k n).place ≡ false) (some : 1 ≤ in_hand r (machine_at k n).hand)
        (none : in_hand r (machine_at k' n).hand ≡ 0) (ready : readied r k'.book.state.table ≡ 1) where
      abbrev Put : Place → Type 0
      Put here = (k'.book ≡ k.book) ⊎ (shelf ≤ hand_left here queue shelf)

      mine : Agrees k.book n (machine_at k n)
      mine = s.each n inside

      fits : SuitsPlace (machine_at k n).place (machine_at k n).hand
      fits = mine.driver.fits (ap is_some mine.has_pass)

      -- a call that leaves it in hand
      keeps : (c : Call) → ((answer : Reply) (hand : PlainHand) → hand_after k.book.state.table c answer hand ≡ hand) → MakesCall k n c k' → k'.book ≡ k.book
      keeps c same d =
          let now : machine_at k' n ≡ d.0 = ap (λ (s : System). machine_at s n) d.4 ∙ at_own d.0 in
          let h : in_hand r (machine_at k' n).hand ≡ in_hand r d.0.hand = ap (λ (y : PlainMachine). in_hand r y.hand) now in
          elim d.3 [
            | inl done ↦ absurd (let e : in_hand r d.0.hand ≡ in_hand r X.hand = ap (λ (y : PlainMachine). in_hand r y.hand) done.machine ∙ ap (in_hand r) (same done.answer X.hand) in omega (arith, h, e, some, none))
            | inr rest ↦ elim rest [
              | inl stop ↦ ap (λ (s : System). s.book) d.4 ∙ stop.same
              | inr rest ↦ elim rest [
                | inl want ↦ ap (λ (s : System). s.book) d.4 ∙ want.same
                | inr declined ↦ ap (λ (s : System). s.book) d.4 ∙ declined.same
              ]
            ]
          ]

      -- its claim
      spends : (t : Readiness) → t ≡ r → MakesCall k n (call.Claim t) k' → k'.book ≡ k.book
      spends t is d = elim d.3 [
        | inl done ↦ absurd (
            let book : readied r k'.book.state.table ≡ readied r d.1.state.table = ap (λ (s : System). readied r s.book.state.table) d.4 in
            let spent : readied t d.1.state.table ≡ 0 = claimed_is_spent t n done.answer k.book.state.table d.1.state.table done.step.1.2.0 in
            let spent' : readied r d.1.state.table ≡ 0 = subst (λ (u : Readiness). readied u d.1.state.table ≡ 0) is spent in
            omega (arith, book, spent', ready))
        | inr rest ↦ elim rest [
          | inl stop ↦ ap (λ (s : System). s.book) d.4 ∙ stop.same
          | inr rest ↦ elim rest [
            | inl want ↦ ap (λ (s : System). s.book) d.4 ∙ want.same
            | inr declined ↦ ap (λ (s : System). s.book) d.4 ∙ declined.same
          ]
        ]
      ]

      claims : (b : Bool) (o : Option Readiness) → (machine_at k n).hand.to_claim ≡ o → (machine_at k n).hand.to_store ≡ None → DoesAct (if b then act.Call call.Poke else claim_call o) k n choice k' → k'.book ≡ k.book
      claims true o is store d = keeps call.Poke (λ answer hand. refl) d
      claims false None is store d = ap (λ (s : System). s.book) d
      claims false (Some t) is store d =
          let a : is_ticket r X.hand.to_claim ≡ is_ticket r (Some t) = ap (is_ticket r) is in
          let b : is_ticket r X.hand.to_store ≡ 0 = ap (is_ticket r) store in
          spends t (let e : Some t ≡ Some r = ticket_is r (Some t) (omega (arith, a, b, some)) in cc) d

      no_some : (o : Option Readiness) → is_some o ≡ false → o ≡ None
      no_some None e = refl
      no_some (Some t) e = absurd (false≢true (sym e))

      pub shelved : Put (machine_at k n).place
      shelved = by (machine_at k n).place refl (holds_at r (machine_at k n).place (machine_at k n).hand fits some) where
        by : (here : Place) → (machine_at k n).place ≡ here → HasTicketAt here → Put here
        by place.Store at h = inr (omega arith)
        by place.PutStore at h = inr (omega arith)
        by place.PutDrain at h = inr (omega arith)
        by place.Have at h = inr (omega arith)
        by place.PutHave at h = inr (omega arith)
        by place.Unspin at h = inl (keeps call.Unspin (λ answer hand. refl) (subst (λ (a : Act). DoesAct a k n choice k') (ap (act_at (seen (machine_at k n))) at) does))
        by place.Claim at h =
            let f = subst (λ (p : Place). SuitsPlace p (machine_at k n).hand) at fits in
            inl (claims (machine_at k n).fresh (machine_at k n).hand.to_claim refl (no_some (machine_at k n).hand.to_store f.has_to_store) (subst (λ (a : Act). DoesAct a k n choice k') (ap (act_at (seen (machine_at k n))) at) does))
        by place.Over at h = absurd (mine.ended (subst IsEnd (sym at) tt) lasts)
        by _ at h = absurd (false≢true (sym single ∙ ap steals_more at ∙ h))
