use Rattle.std.proofs.Common.{◌≡◌, ◌≤◌, [], List, length, ap, ◌∙◌, arith, rules, replicate, vec_capacity}
use Rattle.gmp_base.specs.declared.pass.Pass.{Pass}
use Rattle.gmp_seq.specs.Fits.{AreLimits}
use Rattle.gmp_core.proofs.Opened.{opening_core, opening_is, opening_stock, passes_long, steady_at, why_core}
use Rattle.gmp_core.proofs.engine.Core.open_fair.Goals as goal

pub starting-requires-clause-room : goal.starting-requires-clause-room
starting-requires-clause-room g c =
    let long : length c.in-Ok-open.passes.items ≡ c.args.limits.machines = ap (λ (l : List Pass). length l) c.in-Ok-open.ensures.passes ∙ passes_long c.args.run c.args.limits.machines in
    let room : c.args.limits.machines ≤ vec_capacity c.in-Ok-with_capacity.room = search rules in
    omega (arith, long, room)

pub invariant_of-result : goal.invariant_of-result
invariant_of-result g c =
    let within : AreLimits c.args.limits (length c.args.bodies.items) c.args.capacities.now = c.in-Ok-open.ensures.within.0 in
    let queues : c.in-Ok.queues.queues ≡ replicate c.args.limits.procs [] = search rules in
    let room : c.in-Ok.queues.room ≡ length c.args.bodies.items = search rules in
    rw (c.in-Ok-open.ensures.book, c.starting.ensures, c.in-Ok-open.ensures.passes)
    (opening_core c.args.is_fair c.args.run c.args.limits c.args.capacities.now c.args.bodies.items c.in-Ok-vec.owners.items c.in-Ok.queues queues within room)

pub returns-in-Ok-open-clause-system : goal.returns-in-Ok-open-clause-system
returns-in-Ok-open-clause-system g c =
    let queues : c.in-Ok.queues.queues ≡ replicate c.args.limits.procs [] = search rules in
    rw (c.in-Ok-open.ensures.book, c.starting.ensures, c.in-Ok-open.ensures.passes)
    (opening_is c.args.is_fair c.args.run c.args.limits c.args.capacities.now c.args.bodies.items c.in-Ok-vec.owners.items c.in-Ok.queues queues)

pub returns-in-Ok-open-clause-steady : goal.returns-in-Ok-open-clause-steady
returns-in-Ok-open-clause-steady g c = λ fair.
    let within : AreLimits c.args.limits (length c.args.bodies.items) c.args.capacities.now = c.in-Ok-open.ensures.within.0 in
    let queues : c.in-Ok.queues.queues ≡ replicate c.args.limits.procs [] = search rules in
    rw (c.starting.ensures, c.in-Ok-open.ensures.passes)
    (steady_at c.args.is_fair c.args.run c.args.limits c.args.capacities.now c.args.bodies.items c.in-Ok-vec.owners.items c.in-Ok.queues queues within fair)

pub returns-in-Ok-open-clause-stock : goal.returns-in-Ok-open-clause-stock
returns-in-Ok-open-clause-stock g c =
    rw (c.in-Ok-open.ensures.book, c.starting.ensures, c.in-Ok-open.ensures.passes)
    (opening_stock c.args.is_fair c.args.run c.args.limits c.args.capacities.now c.args.bodies.items c.in-Ok-vec.owners.items)

pub returns-in-Err-clause-why : goal.returns-in-Err-clause-why
returns-in-Err-clause-why g c =
    let count : length c.in-Ok-vec.owners.items ≡ c.args.limits.procs = search rules in
    let why = why_core c.args.limits (length c.args.bodies.items) (length c.in-Ok-vec.owners.items) c.args.capacities.now c.in-Err.unopened.why count c.in-Err.ensures.why in
    rw c.of-in-Err.ensures why
