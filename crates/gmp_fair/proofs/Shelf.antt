-- The shelf: each second look aside takes its first ticket.
use Rattle.std.proofs.Common.{◌≡◌, ◌⊎◌, inl, inr, ℕ, suc, ◌+◌, ◌*◌, ◌<◌, ◌≤◌, ◌==◌, cond, Bool, true, false, if◌then◌else◌, List, [], ◌∷◌, ◌++◌, length, get_or, set, is_some, refl, sym, ap, subst, ◌∙◌, arith, Option, None, Some, count_by}
use Rattle.std.proofs.lemmas.Bool.{cases_lt, false≢true}
use Rattle.std.proofs.lemmas.List.{get_or-set_same}
use Rattle.std.proofs.lemmas.List.Sums.{sum_by-append}
use Rattle.std.specs.List.{list_any, slice_get}
use Rattle.std.specs.Option.{option_map_or}
use Rattle.gmp_base.specs.declared.ask.Woke.{Woke}
use Rattle.gmp_base.specs.declared.number.GNo.{GNo}
use Rattle.gmp_base.specs.declared.number.MNo.{MNo}
use Rattle.gmp_base.specs.declared.number.Readiness.{Readiness}
use Rattle.gmp_seq.specs.declared.call.Call.TheVariants as call
use Rattle.gmp_seq.specs.declared.call.Reply.{Reply}
use Rattle.gmp_seq.specs.declared.call.Reply.TheVariants as reply
use Rattle.gmp_seq.specs.declared.status.Goroutine.{Goroutine}
use Rattle.gmp_seq.specs.declared.status.Status.TheVariants as status
use Rattle.gmp_seq.specs.declared.status.TicketPlace.TheVariants.{Shelf, Out}
use Rattle.gmp_seq.specs.Step as Step
use Rattle.gmp_seq.specs.Table.{IsReady, Table, epoch_at, is_shelved, set_status}
use Rattle.gmp_seq.proofs.Asleep.{fails_at}
use Rattle.gmp_seq.proofs.Epochs.{slice_get-set_same}
use Rattle.gmp_driver.specs.declared.act.Act.{Act}
use Rattle.gmp_driver.specs.declared.place.Aside.{Aside}
use Rattle.gmp_driver.specs.declared.place.Aside.TheVariants as looks
use Rattle.gmp_driver.specs.declared.place.Place.{Place}
use Rattle.gmp_driver.specs.declared.place.Place.TheVariants as place
use Rattle.gmp_driver.specs.Seen.{seen}
use Rattle.gmp_driver.specs.Table.{act_at}
use Rattle.gmp_acts.specs.declared.choice.Choice.{Choice}
use Rattle.gmp_acts.specs.declared.made.Made.{Made}
use Rattle.gmp_acts.specs.Acts.{Acts, Answers, DoesAct, MakesCall}
use Rattle.gmp_acts.specs.Hands.{PlainMachine}
use Rattle.gmp_acts.specs.System.{BookRun, System, machine_at, no_machine}
use Rattle.gmp_table.specs.Kept.{passes_at, times}
use Rattle.gmp_fair.specs.Fair.{InTurn, IsBehind, IsWithin, Stands, Lists, WaitsOnShelf, claims_of}
use Rattle.gmp_fair.proofs.Lines.{Nearer, is_number, nearer, number_self, stands_counts}
use Rattle.gmp_fair.proofs.Shapes.{shape}
use Rattle.gmp_fair.proofs.Weights.{Begins, is_at, weight}
use Rattle.gmp_fair.proofs.Counts.{Comes, Counts, act_counts, adds, bound, none_yet, of, rest_counts}
use Rattle.gmp_fair.proofs.Served.{Kept, kept_on, kept_procs, kept_turns}

-- Looks

abbrev pub shelf_done : Option Aside → ℕ
shelf_done (Some (looks.Shelf v)) = 16
shelf_done (Some (looks.Queue v)) = 0
shelf_done None = 0

pub shelf_few : (procs : ℕ) (a : Option Aside) → IsWithin procs a → is_some a ≡ true → shelf_done a + 16 ≤ 32
shelf_few procs (Some (looks.Shelf v)) w f = omega arith
shelf_few procs (Some (looks.Queue v)) w f = omega arith
shelf_few procs None w f = omega arith

pub shelf_begins : (procs : ℕ) (a : Option Aside) → IsWithin procs a → is_some a ≡ true → Begins None 32 shelf_done procs a
shelf_begins procs (Some (looks.Shelf v)) w f = inl refl
shelf_begins procs (Some (looks.Queue v)) w f = inr (omega arith)
shelf_begins procs None w f = absurd (false≢true f)

-- Who is on the shelf

shelved_one : (t : Table) (r : Readiness) (a : Woke) → IsReady t r Shelf a → ◌≡◌ {A = ℕ} (if passes_at is_shelved t.goroutines r.g.0 then 1 else 0) 1
shelved_one t r a ready = ap (λ (o : Option Goroutine). if option_map_or (λ (x : Goroutine). is_shelved x.status) o false then 1 else 0) ready

taken_none : (old new : Table) (r : Readiness) (a : Woke) → IsReady old r Shelf a → new ≡ set_status old r.g (status.Ready Out a) → ◌≡◌ {A = ℕ} (if passes_at is_shelved new.goroutines r.g.0 then 1 else 0) 0
taken_none old new r a ready is =
    let row : slice_get new.goroutines r.g.0 ≡ Some (record { status = status.Ready Out a; epoch = epoch_at old r.g }) =
    ap (λ (t : Table). slice_get t.goroutines r.g.0) is ∙ slice_get-set_same old.goroutines r.g.0 _ _ ready in
    ap (λ (o : Option Goroutine). if option_map_or (λ (x : Goroutine). is_shelved x.status) o false then 1 else 0) row

some_shelved : (rows : List Goroutine) (i : ℕ) → list_any (λ (x : Goroutine). is_shelved x.status) rows ≡ false → ◌≡◌ {A = ℕ} (if passes_at is_shelved rows i then 1 else 0) 0
some_shelved rows i none = by (slice_get rows i) refl where
  by : (o : Option Goroutine) → slice_get rows i ≡ o → ◌≡◌ {A = ℕ} (if option_map_or (λ (x : Goroutine). is_shelved x.status) o false then 1 else 0) 0
  by None at = refl
  by (Some x) at = ap (λ (b : Bool). if b then 1 else 0) (fails_at (λ (y : Goroutine). is_shelved y.status) rows i x none at)

at_most_one : (rows : List Goroutine) (i : ℕ) → (if passes_at is_shelved rows i then 1 else 0) ≤ 1
at_most_one rows i = by (passes_at is_shelved rows i) where
  by : (b : Bool) → (if b then 1 else 0) ≤ 1
  by true = omega arith
  by false = omega arith

module _ (r : GNo) (k : System) (m : MNo) (inside : m.0 < length k.machines) (line next : List GNo) (j i : ℕ) (behind : IsBehind j r line)
    (near : ((j ≡ i) × (came : List GNo) × (next ≡ line ++ came)) ⊎ (j ≡ suc i)) where
  abbrev At : System → Type 0
  At k' = (j ≡ suc i) ⊎ (of None 32 k.book.limits.procs shelf_done (shelf_few k.book.limits.procs) (shelf_begins k.book.limits.procs) (machine_at k' m) ≡ 32)

  -- who left was in the line
  one_less : (k' : System) (t : ℕ) → Lists line k → Lists next k' → ◌≡◌ {A = ℕ} (if passes_at is_shelved k.book.state.table.goroutines t then 1 else 0) 1
      → ◌≡◌ {A = ℕ} (if passes_at is_shelved k'.book.state.table.goroutines t then 1 else 0) 0 → j ≡ suc i
  one_less k' t lists lists' was now = elim near [
    | inl same ↦
        let a = lists.each t in let b = lists'.each t in
        let c : times t next ≡ times t (line ++ same.1) = ap (times t) same.2 in
        let d : times t (line ++ same.1) ≡ times t line + times t same.1 = sum_by-append (λ (u : GNo). cond (u.0 == t) 1 0) line same.1 in
        absurd (omega (arith, a, b, c, d, was, now))
    | inr one ↦ one
  ]

  takes : (k' : System) (answer : Reply) → Lists line k → Lists next k' → Step.Takes answer k.book.state.table k'.book.state.table → j ≡ suc i
  takes k' (reply.Ticket t) lists lists' (a, ready, is) =
      one_less k' t.g.0 lists lists' (shelved_one k.book.state.table t a ready) (taken_none k.book.state.table k'.book.state.table t a ready is)
  takes k' reply.Nothing lists lists' (none, is) =
      let a = lists.each r.0 in let b = some_shelved k.book.state.table.goroutines r.0 none in let c = stands_counts is_number number_self line j r behind in absurd (omega (arith, a, b, c))
  takes k' _ lists lists' h = absurd h

  own : (x : PlainMachine) → get_or (set k.machines m.0 x) m.0 no_machine ≡ x
  own x = get_or-set_same k.machines m.0 x no_machine inside

  abbrev wt : PlainMachine → ℕ
  wt x = of None 32 k.book.limits.procs shelf_done (shelf_few k.book.limits.procs) (shelf_begins k.book.limits.procs) x

  abbrev ended : PlainMachine → BookRun → List Made → System
  ended x book made = record k { book = book; machines = set k.machines m.0 x; own = made }

  answers : (x : PlainMachine) (book : BookRun) (made : List Made) → wt (machine_at k m) ≡ 32 → Lists line k → Lists next (ended x book made) → Answers (machine_at k m) m call.Take k.book k.own x book made
      → At (ended x book made)
  answers x book made here lists lists' (inl done) = inl (takes (ended x book made) done.answer lists lists' done.step.1.1.0)
  answers x book made here lists lists' (inr (inl stop)) = inr (ap wt (own x ∙ stop.machine))
  answers x book made here lists lists' (inr (inr (inl want))) = absurd want.makes
  answers x book made here lists lists' (inr (inr (inr declined))) = inr (ap wt (own x ∙ declined.machine) ∙ here)

  glances : (choice : Choice) (k' : System) → (machine_at k m).place ≡ place.Glance → Lists line k → Lists next k' → Acts k m choice k' → At k'
  glances choice k' at lists lists' acts =
      let here : wt (machine_at k m) ≡ 32 = ap (λ (p : Place). weight None 32 shelf_done p (machine_at k m).turns (machine_at k m).aside) at in
      let d : MakesCall k m call.Take k' = subst (λ (a : Act). DoesAct a k m choice k') (ap (act_at (seen (machine_at k m))) at) (acts.by_place inside) in
      subst At (sym d.4) (answers d.0 d.1 d.2 here lists (subst (Lists next) d.4 lists') d.3)

at_shelf : (here : Place) → is_at here None ≡ true → here ≡ place.Glance
at_shelf place.Glance e = refl
at_shelf (place.Peek v) e = absurd (false≢true e)
at_shelf _ e = absurd (false≢true e)

-- Acts in a row

abbrev pub ShelfCounts : ℕ → MNo → System → System → ℕ → ℕ → Type 0
ShelfCounts procs m k k' j i = Counts None 32 procs shelf_done (shelf_few procs) (shelf_begins procs) k k' m j i

pub begins_shelf : (r : GNo) (moves : List (MNo × Choice)) (line : List GNo) (k k' : System) → WaitsOnShelf r line k moves k' → Lists line k × Stands r line
begins_shelf r [] line k k' w = (w.0, w.1)
begins_shelf r (move ∷ moves) line k k' w = (w.0, w.1)

pub step_shelf : (r : GNo) (m : MNo) (procs : ℕ) (k : System) (n : MNo) (choice : Choice) (k' : System) (line next : List GNo) (j : ℕ) → Kept m procs k → Acts k n choice k'
    → InTurn line next → Lists line k → Lists next k' → IsBehind j r line → Stands r next → (i : ℕ) × IsBehind i r next × ShelfCounts procs m k k' j i
step_shelf r m procs k n choice k' line next j kept acts turn lists lists' behind stands =
    let once : count_by (is_number r) line ≤ 1 = (let a = lists.each r.0 in let b = at_most_one k.book.state.table.goroutines r.0 in omega (arith, a, b)) in
    by_near (nearer is_number number_self r j line next turn once behind stands)
  where
    by_step : (i : ℕ) → ((j ≡ i) × (came : List GNo) × (next ≡ line ++ came)) ⊎ (j ≡ suc i) → Comes None 32 procs shelf_done (shelf_few procs) (shelf_begins procs) j i → ShelfCounts procs m k k' j i
    by_step i near come = elim (cases_lt n.0 (length k.machines)) [
      | inl inside ↦ act_counts None 32 procs shelf_done (shelf_few procs) (shelf_begins procs) k n k' m j i (shape k n choice k' inside acts) (kept.steady m kept.inside) (kept_procs m procs k kept) (kept_turns m procs k kept) come
          (λ same there. glances r k m kept.inside line next j i behind near choice k' (at_shelf (machine_at k m).place there) lists lists' (subst (λ (q : MNo). Acts k q choice k') same acts))
      | inr past ↦ rest_counts None 32 procs shelf_done (shelf_few procs) (shelf_begins procs) k k' m j i
          (record { now = ap (λ (e : System). machine_at e m) (acts.else_none past); claims = (let e = ap (λ (e : System). claims_of e m) (acts.else_none past) in omega (arith, e)) }) come
    ]

    by_near : Nearer r j line next → (i : ℕ) × IsBehind i r next × ShelfCounts procs m k k' j i
    by_near (inl (b, came, is)) = (j, b, by_step j (inl (refl, came, is)) (inl refl))
    by_near (inr (i, e, b)) = (i, b, by_step i (inr e) (inr e))

pub run_shelf : (r : GNo) (m : MNo) (procs : ℕ) (moves : List (MNo × Choice)) (k k' : System) (line : List GNo) (j : ℕ) → Kept m procs k → IsBehind j r line → WaitsOnShelf r line k moves k'
    → Kept m procs k' × (i : ℕ) × ShelfCounts procs m k k' j i
run_shelf r m procs [] k k' line j kept behind w = (subst (Kept m procs) (sym w.2) kept, j, none_yet None 32 procs shelf_done (shelf_few procs) (shelf_begins procs) k k' m j w.2)
run_shelf r m procs (move ∷ moves) k k' line j kept behind w =
    let next = begins_shelf r moves w.3 w.2 k' w.6 in
    let one = step_shelf r m procs k move.0 move.1 w.2 line w.3 j kept w.4 w.5 w.0 next.0 behind next.1 in
    let rest = run_shelf r m procs moves w.2 k' w.3 one.0 (kept_on m procs k move.0 move.1 w.2 kept w.4) one.1 w.6 in
    (rest.0, rest.1, adds None 32 procs shelf_done (shelf_few procs) (shelf_begins procs) k w.2 k' m j one.0 rest.1 one.2 rest.2)

pub shelf_bound : (r : GNo) (m : MNo) (procs : ℕ) (moves : List (MNo × Choice)) (k k' : System) (line : List GNo) (j : ℕ) → Kept m procs k → IsBehind j r line → WaitsOnShelf r line k moves k'
    → claims_of k' m ≤ claims_of k m + 32 * (j + 1)
shelf_bound r m procs moves k k' line j kept behind w =
    let all = run_shelf r m procs moves k k' line j kept behind w in
    let most = bound None 32 procs shelf_done (shelf_few procs) (shelf_begins procs) k k' m j all.1 (all.0.steady m all.0.inside) (kept_procs m procs k' all.0) (kept_turns m procs k' all.0) all.2 in
    omega (arith, most)
