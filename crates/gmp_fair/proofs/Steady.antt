-- Every act keeps fair machines steady.
use Rattle.std.proofs.Common.{◌≡◌, ◌⊎◌, inl, inr, ℕ, ◌<◌, true, List, [], ◌∷◌, length, refl, sym, ap, subst, arith, Option}
use Rattle.std.proofs.lemmas.Bool.{cases_eq, cases_lt, false≢true}
use Rattle.std.proofs.lemmas.List.FromFn.{get_or-map-range_with_len, length-map-range_with_len}
use Rattle.gmp_base.specs.declared.number.MNo.{MNo}
use Rattle.gmp_base.specs.declared.pass.Pass.{Pass}
use Rattle.gmp_seq.specs.declared.call.Limits.{Limits}
use Rattle.gmp_seq.specs.Fits.{AreLimits}
use Rattle.gmp_driver.specs.declared.act.Told.{Told}
use Rattle.gmp_driver.specs.Seen.{seen}
use Rattle.gmp_driver.specs.Table.{after}
use Rattle.gmp_acts.specs.declared.choice.Choice.{Choice}
use Rattle.gmp_acts.specs.Acts.{Acts, ActsAll}
use Rattle.gmp_acts.specs.Hands.{PlainHand, PlainMachine}
use Rattle.gmp_acts.specs.Headline.{machine_at_start, opening_system}
use Rattle.gmp_acts.specs.System.{System, machine_at, no_machine}
use Rattle.gmp_fair.specs.Fair.{AllSteady, IsSteady}
use Rattle.gmp_fair.proofs.Shapes.{Rests, Shape, Tells, same_number, shape}
use Rattle.gmp_fair.proofs.Single.{single_on}
use Rattle.gmp_fair.proofs.Weights.{CanCome, fair_on, left_on, within_on}

steady_after : (x : PlainMachine) (pass : Option Pass) (hand : PlainHand) (what : Told) → IsSteady x → CanCome what x.place x.turns → IsSteady (after (record x { pass = pass; hand = hand }) what)
steady_after x pass hand what s come = record {
  fair = fair_on (seen (record x { pass = pass; hand = hand })) s.fair x.place what;
  within = within_on (seen (record x { pass = pass; hand = hand })) x.place what s.within;
  left = left_on (seen (record x { pass = pass; hand = hand })) s.fair x.place what come s.left;
  single = single_on (seen (record x { pass = pass; hand = hand })) s.fair x.place what s.single;
}

steady_own : (k : System) (n : MNo) (k' : System) → Tells k n k' ⊎ Rests k n k' → IsSteady (machine_at k n) → IsSteady (machine_at k' n)
steady_own k n k' (inl t) s = subst IsSteady (sym t.now) (steady_after (machine_at k n) t.pass t.hand t.what s t.comes)
steady_own k n k' (inr r) s = subst IsSteady (sym r.now) s

pub act_steady : (k : System) (n : MNo) (choice : Choice) (k' : System) → AllSteady k → Acts k n choice k' → AllSteady k'
act_steady k n choice k' all acts = elim (cases_lt n.0 (length k.machines)) [
  | inl inside ↦ by_shape (shape k n choice k' inside acts)
  | inr past ↦ subst AllSteady (sym (acts.else_none past)) all
] where
  by_shape : Shape k n k' → AllSteady k'
  by_shape h m within =
      let there : m.0 < length k.machines = (let l = h.long in omega (arith, within, l)) in
      elim (cases_eq m.0 n.0) [
        | inl same ↦ subst (λ (i : MNo). IsSteady (machine_at k' i)) (sym (same_number m n same)) (steady_own k n k' h.own (subst (λ (i : MNo). IsSteady (machine_at k i)) (same_number m n same) (all m there)))
        | inr other ↦ subst IsSteady (sym (h.others m (λ e. other (ap (λ (i : MNo). i.0) e))).now) (all m there)
      ]

pub opening_steady : (run : ℕ) (limits : Limits) (bodies : ℕ) (capacities : List ℕ) → AreLimits limits bodies capacities → AllSteady (opening_system true run limits bodies capacities)
opening_steady run limits bodies capacities are m within =
    let count = length-map-range_with_len (machine_at_start true run limits) 0 limits.machines in
    let inside : m.0 < limits.machines = omega (arith, within, count) in
    let at : machine_at (opening_system true run limits bodies capacities) m ≡ machine_at_start true run limits m.0 =
    get_or-map-range_with_len (machine_at_start true run limits) 0 limits.machines m.0 m.0 no_machine inside (omega arith) in
    subst IsSteady (sym at) (record { fair = refl; within = (let some = are.procs.0 in omega (arith, some)); left = λ e. absurd (false≢true e); single = refl })

pub all_steady : (moves : List (MNo × Choice)) (k k' : System) → ActsAll k moves k' → AllSteady k → AllSteady k'
all_steady [] k k' all s = subst AllSteady (sym all) s
all_steady (move ∷ moves) k k' all s = all_steady moves all.0 k' all.2 (act_steady k move.0 move.1 all.0 s all.1)
