-- How many tickets a machine claims with no tick between.
use Rattle.std.proofs.Common.{◌≡◌, ◌⊎◌, inl, inr, ℕ, ◌+◌, ◌≤◌, Bool, true, false, if◌then◌else◌, List, [], ◌∷◌, length, is_some, refl, sym, ap, subst, arith}
use Rattle.std.proofs.lemmas.Bool.{cases_eq, cases_lt, false≢true}
use Rattle.gmp_base.specs.declared.number.MNo.{MNo}
use Rattle.gmp_seq.specs.declared.call.Reply.TheVariants as reply
use Rattle.gmp_driver.specs.declared.act.Told.{Told}
use Rattle.gmp_driver.specs.declared.act.Told.TheVariants as told
use Rattle.gmp_driver.specs.declared.place.Place.{Place}
use Rattle.gmp_driver.specs.declared.place.Place.TheVariants as place
use Rattle.gmp_driver.specs.declared.seen.Seen.{Seen}
use Rattle.gmp_driver.specs.Seen.{seen}
use Rattle.gmp_driver.specs.Table.{next_turns}
use Rattle.gmp_acts.specs.declared.choice.Choice.{Choice}
use Rattle.gmp_acts.specs.Acts.{Acts}
use Rattle.gmp_acts.specs.Hands.{PlainMachine}
use Rattle.gmp_acts.specs.System.{System, machine_at}
use Rattle.gmp_fair.specs.Fair.{IsSteady, TicksNever, claims_of, is_ticking, leads_to_claim}
use Rattle.gmp_fair.proofs.Served.{Kept, kept_on, kept_turns}
use Rattle.gmp_fair.proofs.Shapes.{Rests, Shape, Tells, same_number, shape}
use Rattle.gmp_fair.proofs.Weights.{claimed}

-- but for a tick, each claim is counted
counts_on : (s : Seen) (here : Place) (what : Told) → is_some s.aside ≡ true → s.turns ≤ 16 → is_ticking here ≡ false → (leads_to_claim here ≡ true → s.turns ≤ 15) → s.turns + claimed here what ≤ next_turns s here what
counts_on s (place.Ticking now) what fair few none left = absurd (false≢true (sym none))
counts_on s place.Keep (told.Replied (reply.Answer false)) fair few none left = by (is_some s.aside) where
  by : (b : Bool) → s.turns + 0 ≤ (if b then 16 else s.turns)
  by true = omega (arith, few)
  by false = omega arith
counts_on s place.Keep _ fair few none left = omega arith
counts_on s place.Claim (told.Replied reply.Held) fair few none left = (let t = left refl in omega (arith, t))
counts_on s place.Claim _ fair few none left = omega arith
counts_on s (place.MindTick now) (told.Replied (reply.Woke n)) fair few none left = by (is_some s.aside) fair where
  by : (b : Bool) → b ≡ true → s.turns + 0 ≤ (if b then s.turns else 0)
  by true e = omega arith
  by false e = absurd (false≢true e)
counts_on s (place.MindTick now) _ fair few none left = omega arith
counts_on s _ what fair few none left = omega arith

abbrev Counted : System → System → MNo → Type 0
Counted k k' m = claims_of k' m + (machine_at k m).turns ≤ claims_of k m + (machine_at k' m).turns

rests : (k k' : System) (m : MNo) → Rests k m k' → Counted k k' m
rests k k' m r = (let w : (machine_at k' m).turns ≡ (machine_at k m).turns = ap (λ (x : PlainMachine). x.turns) r.now in let c = r.claims in omega (arith, w, c))

tells : (k k' : System) (m : MNo) → IsSteady (machine_at k m) → (machine_at k m).turns ≤ 16 → is_ticking (machine_at k m).place ≡ false → Tells k m k' → Counted k k' m
tells k k' m s few none t =
    let goes = counts_on (seen (record (machine_at k m) { pass = t.pass; hand = t.hand })) (machine_at k m).place t.what s.fair few none s.left in
    let now : (machine_at k' m).turns ≡ next_turns (seen (record (machine_at k m) { pass = t.pass; hand = t.hand })) (machine_at k m).place t.what = ap (λ (x : PlainMachine). x.turns) t.now in
    let c = t.claims in
    omega (arith, goes, now, c)

step_ticks : (m : MNo) (procs : ℕ) (k : System) (n : MNo) (choice : Choice) (k' : System) → Kept m procs k → Acts k n choice k' → is_ticking (machine_at k m).place ≡ false → Counted k k' m
step_ticks m procs k n choice k' kept acts none = elim (cases_lt n.0 (length k.machines)) [
  | inl inside ↦ by_shape (shape k n choice k' inside acts)
  | inr past ↦ subst (λ (e : System). Counted k e m) (sym (acts.else_none past)) (omega arith)
] where
  by_own : Tells k m k' ⊎ Rests k m k' → Counted k k' m
  by_own (inl t) = tells k k' m (kept.steady m kept.inside) (kept_turns m procs k kept) none t
  by_own (inr r) = rests k k' m r

  by_shape : Shape k n k' → Counted k k' m
  by_shape h = elim (cases_eq m.0 n.0) [
    | inl e ↦ by_own (subst (λ (q : MNo). Tells k q k' ⊎ Rests k q k') (sym (same_number m n e)) h.own)
    | inr other ↦ rests k k' m (h.others m (λ e. other (ap (λ (q : MNo). q.0) e)))
  ]

run_ticks : (m : MNo) (procs : ℕ) (moves : List (MNo × Choice)) (k k' : System) → Kept m procs k → TicksNever m k moves k' → Counted k k' m × Kept m procs k'
run_ticks m procs [] k k' kept w = (subst (λ (e : System). Counted k e m) (sym w.1) (omega arith), subst (Kept m procs) (sym w.1) kept)
run_ticks m procs (move ∷ moves) k k' kept w =
    let one = step_ticks m procs k move.0 move.1 w.1 kept w.2 w.0 in
    let rest = run_ticks m procs moves w.1 k' (kept_on m procs k move.0 move.1 w.1 kept w.2) w.3 in
    ((let a = one in let b = rest.0 in omega (arith, a, b)), rest.1)

pub ticks_bound : (m : MNo) (procs : ℕ) (moves : List (MNo × Choice)) (k k' : System) → Kept m procs k → TicksNever m k moves k' → claims_of k' m ≤ claims_of k m + 16
ticks_bound m procs moves k k' kept w =
    let all = run_ticks m procs moves k k' kept w in
    let c = all.0 in
    let few = kept_turns m procs k' all.1 in
    omega (arith, c, few)
