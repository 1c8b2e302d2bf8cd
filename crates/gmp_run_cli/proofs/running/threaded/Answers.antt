use Rattle.std.specs.Prelude.{if◌then◌else◌, option_map}
use Rattle.std.proofs.Common.{rules, ◌≡◌, ℕ, IfOk, List, None, Some, length, subst}
use Rattle.gmp_seq.specs.declared.call.Limits.{Limits}
use Rattle.gmp_said.specs.Said.{AreSaid}
use Rattle.gmp_words.specs.Runs.{limits_of}
use Rattle.gmp_run_cli.proofs.Held.{made_where, none_where, of_script_where}
use Rattle.gmp_run_cli.proofs.Owned.{asks, brings, length_own, run_said}
use Rattle.gmp_run_cli.proofs.Written.{agreed, out, tried_last, wrote}
use Rattle.gmp_run_cli.proofs.running.threaded.Given.{Over}
use Rattle.gmp_run_cli.proofs.running.threaded.Goals as goal

-- each body is its own
module _ (g : Over) (c : goal.After-drop-script-2 g) where
  counted : length c.in-Ok-owned.owned.items ≡ length c.args.script.bodies.items
  counted = length_own c.args.script.bodies.items c.in-Ok-owned.owned.items (search rules)

  -- what was said in the run
  abbrev SaysTo : Limits → List ℕ → Type 0
  SaysTo limits capacities = IfOk c.run_fair-ran.result (λ r. AreSaid asks brings limits capacities c.in-Ok-owned.owned.items r.history.list r.bodies.items)

  said_in : SaysTo (limits_of c.args.settings.now) c.args.script.capacities.items
  said_in = subst (λ (limits : Limits). SaysTo limits c.args.script.capacities.items) c.limits.ensures (subst (SaysTo c.limits.result) c.deref-2.ensures.value c.run_fair-ran.ensures.says)

pub returns-clause-written : goal.returns-clause-written
returns-clause-written g c =
    let are : option_map (λ s. s.now) c.lent-against.result ≡ (if c.args.settings.now.scripted then Some c.args.script.bodies.items else None) = search rules in
    let held = of_script_where c.args.settings.now.scripted c.args.script.capacities.items c.args.script.bodies.items c.lent-against.result c.told.result.said c.run_fair-ran.result are (search rules) in
    let by_script = run_said (limits_of c.args.settings.now) c.args.script.capacities.items c.args.script.bodies.items c.in-Ok-owned.owned.items (search rules) c.run_fair-ran.result (said_in g c) in
    wrote c.args.settings.now c.args.script.capacities.items _ _ c.told.result.said c.run_fair-ran.result (counted g c) (search rules) (search rules) c.told.ensures.unrun (search rules) by_script held
    c.told.result.status _ _ (search rules)

pub returns-clause-audit : goal.returns-clause-audit
returns-clause-audit g c =
    let are : option_map (λ s. s.now) c.lent-against.result ≡ (if c.args.settings.now.scripted then Some c.args.script.bodies.items else None) = search rules in
    none_where c.args.settings.now c.args.script.capacities.items _ c.args.script.bodies.items c.lent-against.result c.told.result.said c.run_fair-ran.result (counted g c) are (search rules) (search rules) c.told.ensures.unrun (search rules)

-- and of no script without makes
pub returns-clause-makes : goal.returns-clause-makes
returns-clause-makes g c =
    let are : option_map (λ s. s.now) c.lent-against.result ≡ (if c.args.settings.now.scripted then Some c.args.script.bodies.items else None) = search rules in
    let by_script = run_said (limits_of c.args.settings.now) c.args.script.capacities.items c.args.script.bodies.items c.in-Ok-owned.owned.items (search rules) c.run_fair-ran.result (said_in g c) in
    made_where c.args.settings.now c.args.script.capacities.items _ c.args.script.bodies.items c.lent-against.result c.told.result.said c.run_fair-ran.result (counted g c) are (search rules) (search rules) c.told.ensures.unrun (search rules) by_script

pub returns-clause-limits : goal.returns-clause-limits
returns-clause-limits g c =
    out c.args.settings.now c.args.script.capacities.items _ _ c.told.result.said c.run_fair-ran.result (counted g c) (search rules) (search rules) c.told.ensures.unrun
    c.told.ensures.limits

pub returns-clause-mismatch : goal.returns-clause-mismatch
returns-clause-mismatch g c =
    agreed c.args.settings.now c.args.script.capacities.items (length c.in-Ok-owned.owned.items) c.told.result.said c.run_fair-ran.result (search rules) (search rules) c.told.ensures.unrun
    c.told.ensures.mismatch

pub returns-clause-failed : goal.returns-clause-failed
returns-clause-failed g c =
    tried_last c.args.settings.now c.args.script.capacities.items _ _ c.told.result.said c.run_fair-ran.result (counted g c) (search rules) (search rules) c.told.ensures.unrun
