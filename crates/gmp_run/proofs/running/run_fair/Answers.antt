use Rattle.std.proofs.Common.{◌≡◌, length, rules, tests}
use Rattle.gmp_run.proofs.Reported.{whole_of, whole_said}
use Rattle.gmp_run.proofs.running.run_fair.Goals as goal

pub returns-clause-of : goal.returns-clause-of
returns-clause-of g c =
    let whole : c.args.limits.room ≡ c.args.limits.entries = search (rules, tests) in
    let ran = c.run_into_fair-ran in
    whole_of _ _ c.args.limits c.args.capacities.now (length c.args.bodies.items) _ _ c.args.run c.args.is_fair ran.result.0 whole ran.ensures.of

pub returns-clause-says : goal.returns-clause-says
returns-clause-says g c =
    let whole : c.args.limits.room ≡ c.args.limits.entries = search (rules, tests) in
    let ran = c.run_into_fair-ran in
    whole_said _ _ _ _ c.args.limits c.args.capacities.now c.args.bodies.items _ _ c.args.run c.args.is_fair ran.result.0 whole ran.ensures.says
