-- How many tickets a machine may still claim while a ticket stands in lines. No act raises it.
use Rattle.std.proofs.Common.{◌≡◌, ◌≢◌, ◌⊎◌, inl, inr, ℕ, suc, ◌+◌, ◌-◌, ◌*◌, ◌<◌, ◌≤◌, Bool, true, false, if◌then◌else◌, nat_le, is_some, List, [], length, get_or, count_by, sym, ap, subst, ◌∙◌, arith, None, Some, sum_by}
use Rattle.std.proofs.Math.Nat.{mul-suc}
use Rattle.std.proofs.lemmas.Bool.{cases_eq, cases_lt, false≢true}
use Rattle.std.proofs.lemmas.List.Sums.{sum_by_push}
use Rattle.std.proofs.lemmas.Option.{slice_get_within}
use Rattle.gmp_base.specs.declared.number.GNo.{GNo}
use Rattle.gmp_base.specs.declared.number.MNo.{MNo}
use Rattle.gmp_base.specs.declared.number.PNo.{PNo}
use Rattle.gmp_base.specs.declared.number.Readiness.{Readiness}
use Rattle.gmp_seq.specs.declared.call.Call.{Call}
use Rattle.gmp_seq.specs.declared.call.Entry.{Entry}
use Rattle.gmp_driver.specs.declared.act.Act.{Act}
use Rattle.gmp_driver.specs.declared.act.Act.TheVariants as act
use Rattle.gmp_driver.specs.declared.place.Place.{Place}
use Rattle.gmp_driver.specs.Seen.{seen}
use Rattle.gmp_driver.specs.Table.{after, next_act}
use Rattle.gmp_acts.specs.declared.choice.Choice.{Choice}
use Rattle.gmp_acts.specs.declared.made.Made.{Made}
use Rattle.gmp_acts.specs.Acts.{Acts, Answers, DoesAct}
use Rattle.gmp_acts.specs.Hands.{PlainMachine}
use Rattle.gmp_acts.specs.System.{BookRun, System, count_of, in_hand, in_queue, is_same, is_ticket, machine_at, on_shelf, queue_at}
use Rattle.gmp_acts.proofs.Onward.{act_opened}
use Rattle.gmp_fair.specs.Fair.{InTurn, IsBehind, Stands, claims_of, is_claim_by, steals_more}
use Rattle.gmp_fair.specs.Waits.{IsWaiting, claimed_past, lines_of}
use Rattle.gmp_fair.proofs.Carried.{apart, came_from, found, shelved, taken}
use Rattle.gmp_fair.proofs.Counts.{leaves_counts, of_most}
use Rattle.gmp_fair.proofs.Few.{mul_mono, short_queue, short_shelf}
use Rattle.gmp_fair.proofs.Hands.{HasTicketAt, MadeAt, at_most, hand_left, holds_at, made_at, stays_below}
use Rattle.gmp_fair.proofs.Lines.{one_if, stands_counts, ticket_self}
use Rattle.gmp_fair.proofs.Queue.{QueueCounts, queue_begins, queue_done, queue_few, queue_there, step_queue}
use Rattle.gmp_fair.proofs.Served.{Kept, kept_on, kept_procs, kept_turns}
use Rattle.gmp_fair.proofs.Shapes.{Rests, Tells, same_number, shape}
use Rattle.gmp_fair.proofs.Shelf.{ShelfCounts, shelf_begins, shelf_done, shelf_few, step_shelf}
use Rattle.gmp_fair.proofs.Weights.{weight}
use Rattle.gmp_fair.proofs.Where.{Where, hands, in_one_hand, in_one_queue, in_two_hands, in_two_queues, one_place, queued, stands_in, stands_on, where_is}

abbrev queue_weight : ℕ → PNo → PlainMachine → ℕ
queue_weight procs p x = weight (Some p) (32 * procs) (queue_done p.0 procs) x.place x.turns x.aside

abbrev shelf_weight : PlainMachine → ℕ
shelf_weight x = weight None 32 shelf_done x.place x.turns x.aside

-- by where the ticket stands: each line costs so much for each place in it, and a ticket that leaves a queue may come onto the shelf
abbrev pub Left : Readiness → MNo → ℕ → ℕ → List GNo → System → ℕ → Type 0
Left r m procs bodies line k c =
    ((on_shelf r k.book.state.table ≡ 1) × (j : ℕ) × IsBehind j r.g line × (32 * suc j ≤ c + shelf_weight (machine_at k m)))
    ⊎ (((p : PNo) × (j : ℕ) × IsBehind j r (queue_at k p) × (32 * procs * suc j + 32 * bodies ≤ c + queue_weight procs p (machine_at k m)))
    ⊎ ((a : MNo) × (a.0 < length k.machines) × (1 ≤ in_hand r (machine_at k a).hand) × (hand_left (machine_at k a).place (32 * procs * bodies) (32 * bodies) ≤ c)))

-- one budget for all
pub left_at_first : (r : Readiness) (m : MNo) (procs bodies : ℕ) (line : List GNo) (k : System) → Kept m procs k → k.book.bodies ≡ bodies → IsWaiting r line k → Left r m procs bodies line k (32 * procs * bodies + 32 * bodies)
left_at_first r m procs bodies line k kept are w = by (where_is r line k kept.sound w) where
  by : Where r k → Left r m procs bodies line k (32 * procs * bodies + 32 * bodies)
  by (inl on) =
      let st = stands_on r line k w.shelf on in
      let within : st.0 < length line = slice_get_within line st.0 r.g st.1 in
      let short = short_shelf m procs bodies k line kept are w.shelf in
      inl (on, st.0, st.1, omega (arith, within, short))
  by (inr (inl (p, st))) =
      let within : st.0 < length (queue_at k p) = slice_get_within (queue_at k p) st.0 r st.1 in
      let short = short_queue m procs bodies k p kept are (queue_there k p r st.0 st.1) in
      let more = mul_mono (32 * procs) (suc st.0) bodies (omega (arith, within, short)) in
      inr (inl (p, st.0, st.1, omega (arith, more)))
  by (inr (inr (a, inside, some))) = inr (inr (a, inside, some, at_most (machine_at k a).place (32 * procs * bodies) (32 * bodies)))

-- One act

module _ (r : Readiness) (m : MNo) (procs bodies : ℕ) (line next : List GNo) (k : System) (n : MNo) (choice : Choice) (k' : System)
    (kept : Kept m procs k) (are : k.book.bodies ≡ bodies) (acts : Acts k n choice k') (turn : InTurn line next) (w : IsWaiting r line k) (w' : IsWaiting r next k') where
  kept' : Kept m procs k'
  kept' = kept_on m procs k n choice k' kept acts

  one : on_shelf r k.book.state.table + queued r k + hands r k ≡ 1
  one = one_place r line k kept.sound w

  one' : on_shelf r k'.book.state.table + queued r k' + hands r k' ≡ 1
  one' = one_place r next k' kept'.sound w'

  -- Claims

  grow : claims_of k m ≤ claims_of k' m
  grow = elim (cases_lt n.0 (length k.machines)) [
    | inl inside ↦ by (next_act (machine_at k n)) (acts.by_place inside)
    | inr past ↦ (let e = ap (λ (s : System). claims_of s m) (acts.else_none past) in omega (arith, e))
  ] where
    same : k'.book ≡ k.book → claims_of k m ≤ claims_of k' m
    same e = (let f : claims_of k' m ≡ claims_of k m = ap (λ (b : BookRun). count_by (is_claim_by m) b.history) e in omega (arith, f))

    answers : (c : Call) (x : PlainMachine) (book : BookRun) (own : List Made) → Answers (machine_at k n) n c k.book k.own x book own → k'.book ≡ book → claims_of k m ≤ claims_of k' m
    answers c x book own (inl done) is =
        let a = ap (λ (b : BookRun). count_by (is_claim_by m) b.history) is in
        let b = ap (count_by (is_claim_by m)) done.entry in
        let e : Entry = record { m = n; k = count_of k.book n; call = c; reply = done.answer } in
        let d = sum_by_push (λ (u : Entry). one_if (is_claim_by m u)) k.book.history e in
        omega (arith, a, b, d)
    answers c x book own (inr (inl stop)) is = same (is ∙ stop.same)
    answers c x book own (inr (inr (inl want))) is = same (is ∙ want.same)
    answers c x book own (inr (inr (inr declined))) is = same (is ∙ declined.same)

    by : (a : Act) → DoesAct a k n choice k' → claims_of k m ≤ claims_of k' m
    by (act.Call c) d = answers c d.0 d.1 d.2 d.3 (ap (λ (s : System). s.book) d.4)
    by act.Pop d = same (ap (λ (s : System). s.book) d)
    by act.Drain d = same (ap (λ (s : System). s.book) d)
    by act.Push d = same (ap (λ (s : System). s.book) d)
    by act.Hunt d = same (ap (λ (s : System). s.book) d)
    by (act.Steal v) d = same (ap (λ (s : System). s.book) d)
    by act.Resume d = same (ap (λ (s : System). s.book) d)
    by act.Block d = same (ap (λ (s : System). s.book) d)
    by (act.Clock deadline) d = same (ap (λ (s : System). s.book) d)
    by (act.Surrender which) d = same (ap (λ (s : System). s.book) d)
    by act.Nothing d = same (ap (λ (s : System). s.book) d)

  past_most : claimed_past m r k k' + claims_of k m ≤ claims_of k' m
  past_most = by (nat_le 1 (lines_of r k)) where
    by : (b : Bool) → (if b then claims_of k' m - claims_of k m else 0) + claims_of k m ≤ claims_of k' m
    by true = (let g = grow in omega (arith, g))
    by false = (let g = grow in omega (arith, g))

  past_none : lines_of r k ≡ 0 → claimed_past m r k k' ≡ 0
  past_none none = ap (λ (i : ℕ). if nat_le 1 i then claims_of k' m - claims_of k m else 0) none

  -- What an act leaves

  any_apart : (k'.book ≡ k.book) ⊎ (k'.queues ≡ k.queues)
  any_apart = elim (cases_lt n.0 (length k.machines)) [
    | inl inside ↦ apart k n choice k' inside acts
    | inr past ↦ inl (ap (λ (s : System). s.book) (acts.else_none past))
  ]

  shelf_same : k'.book ≡ k.book → on_shelf r k'.book.state.table ≡ on_shelf r k.book.state.table
  shelf_same e = ap (λ (b : BookRun). on_shelf r b.state.table) e

  queue_same : (p : PNo) → k'.queues ≡ k.queues → in_queue r (queue_at k' p) ≡ in_queue r (queue_at k p)
  queue_same p e = ap (λ (qs : List (List Readiness)). in_queue r (get_or qs p.0 [])) e

  queued_same : k'.queues ≡ k.queues → queued r k' ≡ queued r k
  queued_same e = ap (λ (qs : List (List Readiness)). sum_by (in_queue r) qs) e

  abbrev Acting : MNo → Type 0
  Acting a = (a ≡ n) × (n.0 < length k.machines)

  own_or_same : (a : MNo) → Acting a ⊎ (machine_at k' a ≡ machine_at k a)
  own_or_same a = elim (cases_lt n.0 (length k.machines)) [
    | inl inside ↦ elim (cases_eq a.0 n.0) [
      | inl same ↦ inl (same_number a n same, inside)
      | inr other ↦ inr (((shape k n choice k' inside acts).others a (λ e. other (ap (λ (q : MNo). q.0) e))).now)
    ]
    | inr past ↦ inr (ap (λ (s : System). machine_at s a) (acts.else_none past))
  ]

  hand_same : (a : MNo) → machine_at k' a ≡ machine_at k a → in_hand r (machine_at k' a).hand ≡ in_hand r (machine_at k a).hand
  hand_same a e = ap (λ (x : PlainMachine). in_hand r x.hand) e

  in_queues : (s : System) (p : PNo) → Stands r (queue_at s p) → 1 ≤ in_queue r (queue_at s p)
  in_queues s p st = stands_counts is_same ticket_self (queue_at s p) st.0 r st.1

  is_queued : (s : System) (p : PNo) → Stands r (queue_at s p) → 1 ≤ queued r s
  is_queued s p st = (let a = in_queues s p st in let b = in_one_queue r s p in omega (arith, a, b))

  within_procs : (p : PNo) (j : ℕ) → IsBehind j r (queue_at k p) → p.0 < procs
  within_procs p j h = (let a = queue_there k p r j h in let b = kept.sound.queues in let c = kept.procs_are in omega (arith, a, b, c))

  single : (a : MNo) → a.0 < length k.machines → steals_more (machine_at k a).place ≡ false
  single a inside = (kept.steady a inside).single

  abbrev pub Step : ℕ → Type 0
  Step c = (c' : ℕ) × Left r m procs bodies next k' c' × (claimed_past m r k k' + c' ≤ c)

  -- From the shelf

  module _ (c : ℕ) (on : on_shelf r k.book.state.table ≡ 1) (j : ℕ) (behind : IsBehind j r.g line) (cost : 32 * suc j ≤ c + shelf_weight (machine_at k m)) where
    shelf_stays : on_shelf r k'.book.state.table ≡ 1 → Step c
    shelf_stays on' =
        let one = step_shelf r.g m procs k n choice k' line next j kept acts turn w.shelf w'.shelf behind (stands_on r next k' w'.shelf on') in
        let i : ℕ = one.0 in
        let counts : ShelfCounts procs m k k' j i = one.2 in
        let most = of_most None 32 procs shelf_done (shelf_few procs) (shelf_begins procs) (machine_at k' m) (kept'.steady m kept'.inside) (kept_procs m procs k' kept') (kept_turns m procs k' kept') in
        let p = past_most in
        (c - claimed_past m r k k', inl (on', i, one.1, omega (arith, counts, most, p, cost)), omega (arith, counts, most, p, cost))

    shelf_left : (a : MNo) → a.0 < length k'.machines → 1 ≤ in_hand r (machine_at k' a).hand → on_shelf r k'.book.state.table ≡ 0 → hand_left (machine_at k' a).place (32 * procs * bodies) (32 * bodies) ≡ 0 → n.0 < length k.machines → Step c
    shelf_left a there some off less inside =
        let left = leaves_counts None 32 procs shelf_done (shelf_few procs) (shelf_begins procs) k n k' m (shape k n choice k' inside acts)
        (kept.steady m kept.inside) (kept_procs m procs k kept) (kept_turns m procs k kept) (kept'.steady m kept'.inside) (kept_procs m procs k' kept') (kept_turns m procs k' kept') in
        let p = past_most in let g = grow in
        (0, inr (inr (a, there, some, omega (arith, less))), omega (arith, left, p, g, cost))

    pub from_shelf : Step c
    from_shelf = by (where_is r next k' kept'.sound w') where
      none : (a : MNo) → in_hand r (machine_at k a).hand ≡ 0
      none a = (let x = one in let y = in_one_hand r k a in omega (arith, x, y, on))

      own : (a : MNo) → a.0 < length k'.machines → 1 ≤ in_hand r (machine_at k' a).hand → Acting a → Step c
      own a there some (is, inside) =
          let some' : 1 ≤ in_hand r (machine_at k' n).hand = subst (λ (q : MNo). 1 ≤ in_hand r (machine_at k' q).hand) is some in
          let off : on_shelf r k'.book.state.table ≡ 0 = (let x = one' in let y = in_one_hand r k' a in omega (arith, x, y, some)) in
          elim (taken k n choice k' inside acts (32 * procs * bodies) (32 * bodies) r on (none n) some') [
            | inl same ↦ absurd (let e = shelf_same same in omega (arith, e, off, on))
            | inr less ↦ shelf_left a there some off (subst (λ (q : MNo). hand_left (machine_at k' q).place (32 * procs * bodies) (32 * bodies) ≡ 0) (sym is) less) inside
          ]

      by : Where r k' → Step c
      by (inl on') = shelf_stays on'
      by (inr (inl (p, st))) = absurd (
          let q = is_queued k' p st in let x = one in let x' = one' in
          elim any_apart [ inl same ↦ (let e = shelf_same same in omega (arith, e, on, q, x')) | inr same ↦ (let e = queued_same same in omega (arith, e, on, q, x)) ])
      by (inr (inr (a, there, some))) = elim (own_or_same a) [
        | inl acting ↦ own a there some acting
        | inr same ↦ absurd (let e = hand_same a same in let z = none a in omega (arith, e, z, some))
      ]

  -- From a queue

  module _ (c : ℕ) (p : PNo) (j : ℕ) (behind : IsBehind j r (queue_at k p)) (cost : 32 * procs * suc j + 32 * bodies ≤ c + queue_weight procs p (machine_at k m)) where
    there : p.0 < procs
    there = within_procs p j behind

    queue_stays : Stands r (queue_at k' p) → Step c
    queue_stays st =
        let one = step_queue r p m procs there k n choice k' j kept acts behind st in
        let i : ℕ = one.0 in
        let counts : QueueCounts p.0 procs there m k k' j i = one.2 in
        let most = of_most (Some p) (32 * procs) procs (queue_done p.0 procs) (queue_few p.0 procs there) (queue_begins p.0 procs there) (machine_at k' m) (kept'.steady m kept'.inside) (kept_procs m procs k' kept') (kept_turns m procs k' kept') in
        let s = mul-suc (32 * procs) i in
        let g = past_most in
        (c - claimed_past m r k k', inr (inl (p, i, one.1, omega (arith, counts, most, g, s, cost))), omega (arith, counts, most, g, s, cost))

    queue_left : (a : MNo) → a.0 < length k'.machines → 1 ≤ in_hand r (machine_at k' a).hand → hand_left (machine_at k' a).place (32 * procs * bodies) (32 * bodies) ≤ 32 * bodies → n.0 < length k.machines → Step c
    queue_left a here some less inside =
        let left = leaves_counts (Some p) (32 * procs) procs (queue_done p.0 procs) (queue_few p.0 procs there) (queue_begins p.0 procs there) k n k' m (shape k n choice k' inside acts)
        (kept.steady m kept.inside) (kept_procs m procs k kept) (kept_turns m procs k kept) (kept'.steady m kept'.inside) (kept_procs m procs k' kept') (kept_turns m procs k' kept') in
        let s = mul-suc (32 * procs) j in
        let e = past_most in let g = grow in
        (32 * bodies, inr (inr (a, here, some, less)), omega (arith, left, e, g, s, cost))

    pub from_queue : Step c
    from_queue = elim (cases_lt (in_queue r (queue_at k' p)) 1) [
      | inr some ↦ queue_stays (stands_in r (queue_at k' p) some)
      | inl gone ↦ by gone (where_is r next k' kept'.sound w')
    ] where
      here : 1 ≤ in_queue r (queue_at k p)
      here = in_queues k p (j, behind)

      none : (a : MNo) → in_hand r (machine_at k a).hand ≡ 0
      none a = (let x = one in let y = in_one_hand r k a in let q = is_queued k p (j, behind) in omega (arith, x, y, q))

      own : in_queue r (queue_at k' p) < 1 → (a : MNo) → a.0 < length k'.machines → 1 ≤ in_hand r (machine_at k' a).hand → Acting a → Step c
      own gone a near some (is, inside) =
          let some' : 1 ≤ in_hand r (machine_at k' n).hand = subst (λ (q : MNo). 1 ≤ in_hand r (machine_at k' q).hand) is some in
          elim (found k n choice k' inside acts (32 * procs * bodies) (32 * bodies) (single n inside)) [
            | inl same ↦ absurd (let e = queue_same p same in let h = here in omega (arith, e, h, gone))
            | inr found ↦ elim found [
              | inl less ↦ queue_left a near some (subst (λ (q : MNo). hand_left (machine_at k' q).place (32 * procs * bodies) (32 * bodies) ≤ 32 * bodies) (sym is) less) inside
              | inr fewer ↦ absurd (let f = fewer r in let z = none n in omega (arith, f, z, some'))
            ]
          ]

      into : in_queue r (queue_at k' p) < 1 → (q : PNo) → Stands r (queue_at k' q) → ⊥
      into gone q st = elim (cases_eq p.0 q.0) [
        | inl same ↦
            let e : in_queue r (queue_at k' p) ≡ in_queue r (queue_at k' q) = ap (λ (i : ℕ). in_queue r (get_or k'.queues i [])) same in
            let h = in_queues k' q st in omega (arith, e, h, gone)
        | inr other ↦ elim (cases_lt n.0 (length k.machines)) [
          | inl inside ↦ elim (came_from k n choice k' inside acts r q st) [
            | inl was ↦ (let a = in_queues k q was in let b = here in let two = in_two_queues r k p q other in let x = one in omega (arith, a, b, two, x))
            | inr pushed ↦
                let store : is_ticket r (machine_at k n).hand.to_store ≡ 1 = ap (is_ticket r) pushed.1 ∙ ap (λ (b : Bool). if b then 1 else 0) (ticket_self r) in
                let z = none n in omega (arith, store, z)
          ]
          | inr past ↦
              let e : in_queue r (queue_at k' p) ≡ in_queue r (queue_at k p) = ap (λ (s : System). in_queue r (queue_at s p)) (acts.else_none past) in
              let h = here in omega (arith, e, h, gone)
        ]
      ]

      by : in_queue r (queue_at k' p) < 1 → Where r k' → Step c
      by gone (inl on) = absurd (
          let h = here in let q = is_queued k p (j, behind) in let x = one in
          elim any_apart [ inl same ↦ (let e = shelf_same same in omega (arith, e, on, q, x)) | inr same ↦ (let e = queue_same p same in omega (arith, e, h, gone)) ])
      by gone (inr (inl (q, st))) = absurd (into gone q st)
      by gone (inr (inr (a, near, some))) = elim (own_or_same a) [
        | inl acting ↦ own gone a near some acting
        | inr same ↦ absurd (let e = hand_same a same in let z = none a in omega (arith, e, z, some))
      ]

  -- From a hand, in which nothing is counted

  module _ (c : ℕ) (a : MNo) (inside : a.0 < length k.machines) (some : 1 ≤ in_hand r (machine_at k a).hand) (cost : hand_left (machine_at k a).place (32 * procs * bodies) (32 * bodies) ≤ c) where
    no_past : claimed_past m r k k' ≡ 0
    no_past = past_none (let x = one in let y = in_one_hand r k a in omega (arith, x, y, some))

    holds : HasTicketAt (machine_at k a).place
    holds = (let mine = kept.sound.each a inside in holds_at r (machine_at k a).place (machine_at k a).hand (mine.driver.fits (ap is_some mine.has_pass)) some)

    -- it holds the ticket no more, so it acted
    abbrev Gone : Type 0
    Gone = in_hand r (machine_at k' a).hand ≡ 0

    acted : Gone → (a ≡ n) × (n.0 < length k.machines)
    acted gone = elim (own_or_same a) [
      | inl acting ↦ acting
      | inr same ↦ absurd (let e = hand_same a same in omega (arith, e, some, gone))
    ]

    onto_shelf : on_shelf r k'.book.state.table ≡ 1 → Gone → Step c
    onto_shelf on gone =
        let is = acted gone in
        let some' : 1 ≤ in_hand r (machine_at k n).hand = subst (λ (q : MNo). 1 ≤ in_hand r (machine_at k q).hand) is.0 some in
        let gone' : in_hand r (machine_at k' n).hand ≡ 0 = subst (λ (q : MNo). in_hand r (machine_at k' q).hand ≡ 0) is.0 gone in
        let st = stands_on r next k' w'.shelf on in
        let near : st.0 < length next = slice_get_within next st.0 r.g st.1 in
        let are' : k'.book.bodies ≡ bodies = (act_opened k n choice k' acts).bodies ∙ are in
        let short = short_shelf m procs bodies k' next kept' are' w'.shelf in
        let z = no_past in
        elim (shelved k n choice k' is.1 acts (32 * procs * bodies) (32 * bodies) r kept.sound w.lasts (single n is.1) some' gone' w'.ready) [
          | inl same ↦ absurd (let e = shelf_same same in let x = one in let y = in_one_hand r k a in omega (arith, e, on, x, y, some))
          | inr least ↦
              let least' : 32 * bodies ≤ hand_left (machine_at k a).place (32 * procs * bodies) (32 * bodies) = subst (λ (q : MNo). 32 * bodies ≤ hand_left (machine_at k q).place (32 * procs * bodies) (32 * bodies)) (sym is.0) least in
              (32 * suc st.0, inl (on, st.0, st.1, omega arith), omega (arith, z, near, short, least', cost))
        ]

    into_queue : (p : PNo) → Stands r (queue_at k' p) → Gone → Step c
    into_queue p st gone =
        let is = acted gone in
        let near : st.0 < length (queue_at k' p) = slice_get_within (queue_at k' p) st.0 r st.1 in
        let are' : k'.book.bodies ≡ bodies = (act_opened k n choice k' acts).bodies ∙ are in
        let short = short_queue m procs bodies k' p kept' are' (queue_there k' p r st.0 st.1) in
        let more = mul_mono (32 * procs) (suc st.0) bodies (omega (arith, near, short)) in
        let z = no_past in
        elim (came_from k n choice k' is.1 acts r p st) [
          | inl was ↦ absurd (let q = is_queued k p was in let x = one in let y = in_one_hand r k a in omega (arith, q, x, y, some))
          | inr pushed ↦ elim (subst (λ (d : Act). MadeAt d (machine_at k n).place) pushed.0 (made_at (seen (machine_at k n)) (machine_at k n).place)) [
            | inl at ↦
                let all : hand_left (machine_at k a).place (32 * procs * bodies) (32 * bodies) ≡ 32 * procs * bodies + 32 * bodies =
                ap (λ (q : MNo). hand_left (machine_at k q).place (32 * procs * bodies) (32 * bodies)) is.0 ∙ ap (λ (h : Place). hand_left h (32 * procs * bodies) (32 * bodies)) at in
                (32 * procs * suc st.0 + 32 * bodies, inr (inl (p, st.0, st.1, omega arith)), omega (arith, z, more, all, cost))
            | inr stealing ↦ absurd (false≢true (sym (single n is.1) ∙ stealing))
          ]
        ]

    in_same_hand : a.0 < length k'.machines → 1 ≤ in_hand r (machine_at k' a).hand → Step c
    in_same_hand there still = (c, inr (inr (a, there, still, less)), (let z = no_past in omega (arith, z))) where
      own : Acting a → hand_left (machine_at k' a).place (32 * procs * bodies) (32 * bodies) ≤ c
      own (is, within) = by (shape k n choice k' within acts).own where
        by : Tells k n k' ⊎ Rests k n k' → hand_left (machine_at k' a).place (32 * procs * bodies) (32 * bodies) ≤ c
        by (inl t) =
            let now : machine_at k' a ≡ after (record (machine_at k a) { pass = t.pass; hand = t.hand }) t.what = subst (λ (q : MNo). machine_at k' q ≡ after (record (machine_at k q) { pass = t.pass; hand = t.hand }) t.what) (sym is) t.now in
            let e : hand_left (machine_at k' a).place (32 * procs * bodies) (32 * bodies) ≡ hand_left (after (record (machine_at k a) { pass = t.pass; hand = t.hand }) t.what).place (32 * procs * bodies) (32 * bodies) = ap (λ (x : PlainMachine). hand_left x.place (32 * procs * bodies) (32 * bodies)) now in
            let l = stays_below (seen (record (machine_at k a) { pass = t.pass; hand = t.hand })) (32 * procs * bodies) (32 * bodies) (machine_at k a).place t.what holds (single a inside) in
            omega (arith, e, l, cost)
        by (inr s) =
            let now : machine_at k' a ≡ machine_at k a = subst (λ (q : MNo). machine_at k' q ≡ machine_at k q) (sym is) s.now in
            let e = ap (λ (x : PlainMachine). hand_left x.place (32 * procs * bodies) (32 * bodies)) now in
            omega (arith, e, cost)

      less : hand_left (machine_at k' a).place (32 * procs * bodies) (32 * bodies) ≤ c
      less = elim (own_or_same a) [
        | inl acting ↦ own acting
        | inr same ↦ (let e = ap (λ (x : PlainMachine). hand_left x.place (32 * procs * bodies) (32 * bodies)) same in omega (arith, e, cost))
      ]

    pub from_hand : Step c
    from_hand = by (where_is r next k' kept'.sound w') where
      other : (b : MNo) → a.0 ≢ b.0 → 1 ≤ in_hand r (machine_at k' b).hand → ⊥
      other b ne there = elim (own_or_same b) [
        | inr same ↦ (let e = hand_same b same in let two = in_two_hands r k a b ne in let x = one in omega (arith, e, two, x, some, there))
        | inl acting ↦ elim (own_or_same a) [
          | inr same ↦ (let e = hand_same a same in let two = in_two_hands r k' a b ne in let x = one' in omega (arith, e, two, x, some, there))
          | inl too ↦ ne (ap (λ (q : MNo). q.0) (too.0 ∙ sym acting.0))
        ]
      ]

      by : Where r k' → Step c
      by (inl on) = onto_shelf on (let x = one' in let y = in_one_hand r k' a in omega (arith, x, y, on))
      by (inr (inl (p, st))) = into_queue p st (let q = is_queued k' p st in let x = one' in let y = in_one_hand r k' a in omega (arith, x, y, q))
      by (inr (inr (b, near, there))) = elim (cases_eq a.0 b.0) [
        | inl same ↦ in_same_hand (omega (arith, near, same)) (subst (λ (i : ℕ). 1 ≤ in_hand r (machine_at k' (let q : MNo = record { 0 = i } in q)).hand) (sym same) there)
        | inr ne ↦ absurd (other b ne there)
      ]

  pub goes_on : (c : ℕ) → Left r m procs bodies line k c → Step c
  goes_on c (inl (on, j, behind, cost)) = from_shelf c on j behind cost
  goes_on c (inr (inl (p, j, behind, cost))) = from_queue c p j behind cost
  goes_on c (inr (inr (a, inside, some, cost))) = from_hand c a inside some cost
