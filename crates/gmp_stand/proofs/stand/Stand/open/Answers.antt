use Rattle.std.proofs.Common.{◌≡◌, ℕ, rules, subst}
use Rattle.gmp_seq.specs.Fits.{AreLimits}
use Rattle.gmp_book.specs.Book.{WhyUnopened}
use Rattle.gmp_stand.proofs.Opening.{one_for_each, opens, stands}
use Rattle.gmp_stand.proofs.stand.Stand.open.Goals as goal

pub invariant_of-result : goal.invariant_of-result
invariant_of-result c =
    let kept : c.in-Ok-Ok.kept.items ≡ c.args.capacities.now = search rules in
    stands c.args.is_fair c.args.limits c.args.goroutines c.args.capacities.now c.in-Ok-Ok.kept.items c.in-Ok-Ok.bodies.items c.in-Ok.core c.in-Ok-Ok.ensures c.in-Ok.ensures.system c.in-Ok.ensures.stock kept c.in-Ok.ensures.whole

pub returns-in-Ok-clause-opened : goal.returns-in-Ok-clause-opened
returns-in-Ok-clause-opened c =
    opens c.args.is_fair c.args.limits c.args.goroutines c.args.capacities.now c.in-Ok-Ok.kept.items c.in-Ok-Ok.bodies.items c.in-Ok.core c.in-Ok-Ok.ensures c.in-Ok.ensures.system c.in-Ok.ensures.stock c.in-Ok.ensures.shelf

pub returns-in-Err-clause-why : goal.returns-in-Err-clause-why
returns-in-Err-clause-why c =
    subst (λ (n : ℕ). WhyUnopened (AreLimits c.args.limits n c.args.capacities.now) c.in-Err.field-0.why) (one_for_each c.args.goroutines c.in-Ok-Ok.bodies.items c.in-Ok-Ok.ensures) c.in-Err.ensures.why
