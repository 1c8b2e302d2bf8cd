-- A local queue: once in so many looks aside its first ticket is taken, whoever holds its processor.
use Rattle.std.proofs.Common.{◌≡◌, ◌⊎◌, inl, inr, ℕ, suc, ◌+◌, ◌-◌, ◌*◌, ◌<◌, ◌≤◌, ◌==◌, ◌&&◌, nat_lt, Bool, true, false, if◌then◌else◌, List, [], ◌∷◌, ◌++◌, length, get_or, set, is_some, refl, sym, ap, subst, ◌∙◌, arith, Option, None, Some, count_by, add-one}
use Rattle.std.proofs.lemmas.Bool.{cases_eq, cases_lt, eq-eqb, eqb-true, false≢true, ltb-false, ltb-true}
use Rattle.std.proofs.lemmas.List.{get_or-set_same, get_or_past, length-append}
use Rattle.std.proofs.lemmas.List.Sums.{get_or-le-sum_by}
use Rattle.std.specs.List.{slice_get}
use Rattle.std.specs.Option.{option_map_or}
use Rattle.gmp_base.specs.declared.number.MNo.{MNo}
use Rattle.gmp_base.specs.declared.number.PNo.{PNo}
use Rattle.gmp_base.specs.declared.number.Readiness.{Readiness}
use Rattle.gmp_seq.specs.declared.status.Goroutine.{Goroutine}
use Rattle.gmp_seq.specs.Table.{Table, is_out}
use Rattle.gmp_driver.specs.declared.act.Act.{Act}
use Rattle.gmp_driver.specs.declared.act.Told.TheVariants as told
use Rattle.gmp_driver.specs.declared.act.Tried.TheVariants as tried
use Rattle.gmp_driver.specs.declared.place.Aside.{Aside}
use Rattle.gmp_driver.specs.declared.place.Aside.TheVariants as looks
use Rattle.gmp_driver.specs.declared.place.Place.{Place}
use Rattle.gmp_driver.specs.declared.place.Place.TheVariants as place
use Rattle.gmp_driver.specs.Seen.{seen}
use Rattle.gmp_driver.specs.Table.{act_at, after, next_aside, next_place, next_turns}
use Rattle.gmp_acts.specs.declared.choice.Choice.{Choice}
use Rattle.gmp_acts.specs.Acts.{Acts, DoesAct, stolen, stolen_from, with_local}
use Rattle.gmp_acts.specs.Hands.{PlainMachine}
use Rattle.gmp_acts.specs.System.{System, in_queue, is_same, machine_at, no_machine, out, queue_at}
use Rattle.gmp_acts.proofs.Moving.{queue_within}
use Rattle.gmp_fair.specs.Fair.{IsBehind, IsWithin, Stands, WaitsInQueue, claims_of}
use Rattle.gmp_fair.proofs.Lines.{Nearer, nearer, stands_counts, ticket_self}
use Rattle.gmp_fair.proofs.Shapes.{Shape, shape}
use Rattle.gmp_fair.proofs.Weights.{Begins, base, is_at, weight}
use Rattle.gmp_fair.proofs.Counts.{Comes, Counts, act_counts, adds, bound, none_yet, of}
use Rattle.gmp_fair.proofs.Served.{Kept, kept_on, kept_procs, kept_turns}

-- Looks

-- how many queues were looked at since that of p, where v is next
abbrev pub steps : ℕ → ℕ → ℕ → ℕ
steps p procs v = if nat_lt v p then p - (v + 1) else p + procs - (v + 1)

abbrev pub queue_done : ℕ → ℕ → Option Aside → ℕ
queue_done p procs (Some (looks.Shelf v)) = 32 * steps p procs v.0
queue_done p procs (Some (looks.Queue v)) = 32 * steps p procs v.0 + 16
queue_done p procs None = 0

few_steps : (p procs v : ℕ) → p < procs → v < procs → steps p procs v + 1 ≤ procs
few_steps p procs v a b = by (nat_lt v p) refl where
  by : (c : Bool) → nat_lt v p ≡ c → (if c then p - (v + 1) else p + procs - (v + 1)) + 1 ≤ procs
  by true e = (let l = ltb-true v p e in omega (arith, a, b, l))
  by false e = (let l = ltb-false v p e in omega (arith, a, b, l))

-- a further one
one_step : (p procs v u : ℕ) → p < procs → v < procs → (v ≡ p → ⊥) → ((v ≡ 0) × (u + 1 ≡ procs)) ⊎ (u + 1 ≡ v) → steps p procs v + 1 ≤ steps p procs u
one_step p procs v u a b other next = by (nat_lt v p) (nat_lt u p) refl refl where
  above : p ≤ v → p < v
  above l = elim (cases_lt p v) [ inl less ↦ less | inr more ↦ absurd (other (omega (arith, l, more))) ]

  by : (c d : Bool) → nat_lt v p ≡ c → nat_lt u p ≡ d → (if c then p - (v + 1) else p + procs - (v + 1)) + 1 ≤ (if d then p - (u + 1) else p + procs - (u + 1))
  by true true e f = (let l = ltb-true v p e in let n = ltb-true u p f in elim next [ inl first ↦ (let x = first.0 in let y = first.1 in omega (arith, a, b, l, n, x, y)) | inr y ↦ omega (arith, a, b, l, n, y) ])
  by true false e f = (let l = ltb-true v p e in let n = ltb-false u p f in elim next [ inl first ↦ (let x = first.0 in let y = first.1 in omega (arith, a, b, l, n, x, y)) | inr y ↦ omega (arith, a, b, l, n, y) ])
  by false true e f = (let l = above (ltb-false v p e) in let n = ltb-true u p f in elim next [ inl first ↦ (let x = first.0 in omega (arith, l, x)) | inr y ↦ omega (arith, a, b, l, n, y) ])
  by false false e f = (let l = above (ltb-false v p e) in let n = ltb-false u p f in elim next [ inl first ↦ (let x = first.0 in omega (arith, l, x)) | inr y ↦ omega (arith, a, b, l, n, y) ])

before_is : (procs v : ℕ) → v < procs → ((v ≡ 0) × ((if v == 0 then procs - 1 else v - 1) + 1 ≡ procs)) ⊎ ((if v == 0 then procs - 1 else v - 1) + 1 ≡ v)
before_is procs v l = by (v == 0) refl where
  by : (b : Bool) → (v == 0) ≡ b → ((v ≡ 0) × ((if b then procs - 1 else v - 1) + 1 ≡ procs)) ⊎ ((if b then procs - 1 else v - 1) + 1 ≡ v)
  by true e = inl (eqb-true v 0 e, omega (arith, l))
  by false e = inr (elim (cases_eq v 0) [ inl z ↦ absurd (false≢true (sym e ∙ eq-eqb v 0 z)) | inr nz ↦ omega (arith, nz) ])

module _ (p procs : ℕ) (there : p < procs) where
  abbrev pub P : Option PNo
  P = Some (record { 0 = p })

  pub queue_few : (a : Option Aside) → IsWithin procs a → is_some a ≡ true → queue_done p procs a + 16 ≤ 32 * procs
  queue_few (Some (looks.Shelf v)) w f = (let s = few_steps p procs v.0 there w in omega (arith, s))
  queue_few (Some (looks.Queue v)) w f = (let s = few_steps p procs v.0 there w in omega (arith, s))
  queue_few None w f = absurd (false≢true f)

  pub queue_begins : (a : Option Aside) → IsWithin procs a → is_some a ≡ true → Begins (Some (record { 0 = p })) (32 * procs) (queue_done p procs) procs a
  queue_begins (Some (looks.Shelf v)) w f = inr (omega arith)
  queue_begins (Some (looks.Queue v)) w f = elim (cases_eq v.0 p) [
    | inl same ↦ inl (eq-eqb v.0 p same)
    | inr other ↦ inr (let s = one_step p procs v.0 _ there w other (before_is procs v.0 w) in omega (arith, s))
  ]
  queue_begins None w f = absurd (false≢true f)

abbrev pub QueueCounts : (p procs : ℕ) → p < procs → MNo → System → System → ℕ → ℕ → Type 0
QueueCounts p procs there m k k' j i = Counts (Some (record { 0 = p })) (32 * procs) procs (queue_done p procs) (queue_few p procs there) (queue_begins p procs there) k k' m j i

-- At the queue

at_queue : (here : Place) (p : PNo) → is_at here (Some p) ≡ true → (v : PNo) × (here ≡ place.Peek v) × ((v.0 == p.0) ≡ true)
at_queue (place.Peek v) p e = (v, refl, e)
at_queue place.Glance p e = absurd (false≢true e)
at_queue _ p e = absurd (false≢true e)

module _ (r : Readiness) (p : PNo) (procs : ℕ) (there : p.0 < procs) (k : System) (m : MNo) (inside : m.0 < length k.machines) (j i : ℕ) (behind : IsBehind j r (queue_at k p)) where
  abbrev wt : PlainMachine → ℕ
  wt x = of (Some p) (32 * procs) procs (queue_done p.0 procs) (queue_few p.0 procs there) (queue_begins p.0 procs there) x

  abbrev At : System → Type 0
  At k' = (j ≡ suc i) ⊎ (wt (machine_at k' m) ≡ 32 * procs)

  abbrev Near : System → Type 0
  Near k' = ((j ≡ i) × (came : List Readiness) × (queue_at k' p ≡ queue_at k p ++ came)) ⊎ (j ≡ suc i)

  own : (x : PlainMachine) → get_or (set k.machines m.0 x) m.0 no_machine ≡ x
  own x = get_or-set_same k.machines m.0 x no_machine inside

  module _ (v : PNo) (at : (machine_at k m).place ≡ place.Peek v) (it : (v.0 == p.0) ≡ true) where
    same_queue : get_or k.queues v.0 [] ≡ queue_at k p
    same_queue = ap (λ (n : ℕ). get_or k.queues n []) (eqb-true v.0 p.0 it)

    found : (queue : List Readiness) → get_or k.queues v.0 [] ≡ queue → Near (with_local k m (stolen_from (machine_at k m) None k.queues v queue)) → At (with_local k m (stolen_from (machine_at k m) None k.queues v queue))
    found [] is near =
        let some = stands_counts is_same ticket_self (queue_at k p) j r behind in
        let none : count_by (is_same r) (queue_at k p) ≡ 0 = ap (count_by (is_same r)) (sym same_queue ∙ is) in
        absurd (omega (arith, some, none))
    found (t ∷ rest) is (inl near) =
        let now : get_or (set k.queues v.0 rest) p.0 [] ≡ rest = ap (λ (n : ℕ). get_or (set k.queues v.0 rest) n []) (sym (eqb-true v.0 p.0 it)) ∙ get_or-set_same k.queues v.0 rest [] (queue_within k.queues v.0 t rest is) in
        let a : length (queue_at k p) ≡ length (t ∷ rest) = ap length (sym same_queue ∙ is) in
        let b : length rest ≡ length (queue_at k p ++ near.1) = ap length (sym now ∙ near.2) in
        let c = length-append (queue_at k p) near.1 in
        absurd (omega (arith, a, b, c))
    found (t ∷ rest) is (inr one) = inl one

    steals : (lost : Bool) → Near (with_local k m (stolen (machine_at k m) None k.queues v lost)) → At (with_local k m (stolen (machine_at k m) None k.queues v lost))
    steals true near =
        inr (ap wt (own (after (machine_at k m) (told.Tried tried.Unsure)))
        ∙ ap (λ (q : Place). weight (Some p) (32 * procs) (queue_done p.0 procs) (next_place (seen (machine_at k m)) q (told.Tried tried.Unsure)) (next_turns (seen (machine_at k m)) q (told.Tried tried.Unsure)) (next_aside (seen (machine_at k m)) q (told.Tried tried.Unsure))) at
        ∙ ap (λ (b : Bool). if b then 32 * procs else base (place.Peek v) (machine_at k m).turns (queue_done p.0 procs (machine_at k m).aside) (32 * procs)) it)
    steals false near = found (get_or k.queues v.0 []) refl near

  peeks : (choice : Choice) (k' : System) → Near k' → Acts k m choice k' → is_at (machine_at k m).place (Some p) ≡ true → At k'
  peeks choice k' near acts here =
      let w = at_queue (machine_at k m).place p here in
      let d = subst (λ (a : Act). DoesAct a k m choice k') (ap (act_at (seen (machine_at k m))) w.1) (acts.by_place inside) in
      subst At (sym d) (steals w.0 w.1 w.2 choice.unsure (subst Near d near))

-- Acts in a row

pub begins_queue : (p : PNo) (r : Readiness) (moves : List (MNo × Choice)) (k k' : System) → WaitsInQueue p r k moves k' → Stands r (queue_at k p)
begins_queue p r [] k k' w = w.0
begins_queue p r (move ∷ moves) k k' w = w.0

-- a queue that has a ticket is there
pub queue_there : (k : System) (p : PNo) (r : Readiness) (j : ℕ) → IsBehind j r (queue_at k p) → p.0 < length k.queues
queue_there k p r j h = elim (cases_lt p.0 (length k.queues)) [
  | inl within ↦ within
  | inr past ↦
      let some = stands_counts is_same ticket_self (queue_at k p) j r h in
      let none : count_by (is_same r) (queue_at k p) ≡ 0 = ap (count_by (is_same r)) (get_or_past k.queues p.0 [] past) in
      absurd (omega (arith, some, none))
]

pub out_most : (r : Readiness) (t : Table) → out r t ≤ 1
out_most r t = by (option_map_or (λ (x : Goroutine). is_out x.status && (x.epoch == r.epoch)) (slice_get t.goroutines r.g.0) false) where
  by : (b : Bool) → (if b then 1 else 0) ≤ 1
  by true = omega arith
  by false = omega arith

pub step_queue : (r : Readiness) (p : PNo) (m : MNo) (procs : ℕ) (there : p.0 < procs) (k : System) (n : MNo) (choice : Choice) (k' : System) (j : ℕ) → Kept m procs k → Acts k n choice k'
    → IsBehind j r (queue_at k p) → Stands r (queue_at k' p) → (i : ℕ) × IsBehind i r (queue_at k' p) × QueueCounts p.0 procs there m k k' j i
step_queue r p m procs there k n choice k' j kept acts behind stands = elim (cases_lt n.0 (length k.machines)) [
  | inl inside ↦ by_shape inside (shape k n choice k' inside acts)
  | inr past ↦ (j, subst (λ (e : System). IsBehind j r (queue_at e p)) (sym (acts.else_none past)) behind, none_yet (Some p) (32 * procs) procs (queue_done p.0 procs) (queue_few p.0 procs there) (queue_begins p.0 procs there) k k' m j (acts.else_none past))
] where
  once : in_queue r (queue_at k p) ≤ 1
  once =
      let a = get_or-le-sum_by (in_queue r) k.queues p.0 [] (queue_there k p r j behind) in
      let b = kept.sound.tickets r in
      let c = out_most r k.book.state.table in
      omega (arith, a, b, c)

  by_step : (i : ℕ) → Shape k n k' → Near r p procs there k m kept.inside j i behind k' → Comes (Some p) (32 * procs) procs (queue_done p.0 procs) (queue_few p.0 procs there) (queue_begins p.0 procs there) j i
      → QueueCounts p.0 procs there m k k' j i
  by_step i h near come =
      act_counts (Some p) (32 * procs) procs (queue_done p.0 procs) (queue_few p.0 procs there) (queue_begins p.0 procs there) k n k' m j i h (kept.steady m kept.inside) (kept_procs m procs k kept) (kept_turns m procs k kept) come
      (λ same here. peeks r p procs there k m kept.inside j i behind choice k' near (subst (λ (q : MNo). Acts k q choice k') same acts) here)

  by_shape : n.0 < length k.machines → Shape k n k' → (i : ℕ) × IsBehind i r (queue_at k' p) × QueueCounts p.0 procs there m k k' j i
  by_shape inside h = by_near (nearer is_same ticket_self r j (queue_at k p) (queue_at k' p) (h.queues p) once behind stands) where
    by_near : Nearer r j (queue_at k p) (queue_at k' p) → (i : ℕ) × IsBehind i r (queue_at k' p) × QueueCounts p.0 procs there m k k' j i
    by_near (inl (b, came, is)) = (j, b, by_step j h (inl (refl, came, is)) (inl refl))
    by_near (inr (i, e, b)) = (i, b, by_step i h (inr e) (inr e))

pub run_queue : (r : Readiness) (p : PNo) (m : MNo) (procs : ℕ) (there : p.0 < procs) (moves : List (MNo × Choice)) (k k' : System) (j : ℕ) → Kept m procs k → IsBehind j r (queue_at k p) → WaitsInQueue p r k moves k'
    → Kept m procs k' × (i : ℕ) × QueueCounts p.0 procs there m k k' j i
run_queue r p m procs there [] k k' j kept behind w =
    (subst (Kept m procs) (sym w.1) kept, j, none_yet (Some p) (32 * procs) procs (queue_done p.0 procs) (queue_few p.0 procs there) (queue_begins p.0 procs there) k k' m j w.1)
run_queue r p m procs there (move ∷ moves) k k' j kept behind w =
    let one = step_queue r p m procs there k move.0 move.1 w.1 j kept w.2 behind (begins_queue p r moves w.1 k' w.3) in
    let rest = run_queue r p m procs there moves w.1 k' one.0 (kept_on m procs k move.0 move.1 w.1 kept w.2) one.1 w.3 in
    (rest.0, rest.1, adds (Some p) (32 * procs) procs (queue_done p.0 procs) (queue_few p.0 procs there) (queue_begins p.0 procs there) k w.1 k' m j one.0 rest.1 one.2 rest.2)

pub queue_bound : (r : Readiness) (p : PNo) (m : MNo) (procs : ℕ) (moves : List (MNo × Choice)) (k k' : System) (j : ℕ) → Kept m procs k → IsBehind j r (queue_at k p) → WaitsInQueue p r k moves k'
    → claims_of k' m ≤ claims_of k m + 32 * procs * (j + 1)
queue_bound r p m procs moves k k' j kept behind w =
    let there : p.0 < procs = (let a = queue_there k p r j behind in let b = kept.sound.queues in let c = kept.procs_are in omega (arith, a, b, c)) in
    let all = run_queue r p m procs there moves k k' j kept behind w in
    let most = bound (Some p) (32 * procs) procs (queue_done p.0 procs) (queue_few p.0 procs there) (queue_begins p.0 procs there) k k' m j all.1 (all.0.steady m all.0.inside) (kept_procs m procs k' all.0) (kept_turns m procs k' all.0) all.2 in
    rw (add-one j) most
