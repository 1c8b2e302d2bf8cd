use Rattle.std.proofs.Common.{◌≡◌, ◌∙◌, IfErr, true, length, refl, rules, sym, tests}
use Rattle.gmp_host.specs.declared.ending.Short.TheVariants as short
use Rattle.gmp_host.proofs.Again.{drawn_again, drawn_end, err_of, run_again, traced_of}
use Rattle.gmp_host.proofs.host.Host.drawn.Goals as goal

-- it came to no outcome
pub returns-in_err-ended-clause-endless : goal.returns-in_err-ended-clause-endless
returns-in_err-ended-clause-endless g c =
    let same : IfErr c.from_residual-in_err-ended.result (λ e. e ≡ c.in_err-ended.field-0.0) = search (rules, tests) in
    err_of (λ e. e ≡ short.NoEnd → _) c.in_err-ended.field-0.0 c.from_residual-in_err-ended.result same
    (λ none. drawn_end c.limits-limits.result _ c.as_slice.result.now c.args.self.capacities.items c.limits-limits.ensures c.as_slice.ensures.value _ _ _ _ c.args.self.settings.fair c.args.self.bodies.items (c.in_err-ended.ensures.endless none))

pub returns-clause-ended : goal.returns-clause-ended
returns-clause-ended g c =
    let again = run_again c.limits-limits.result _ c.as_slice.result.now c.args.self.capacities.items c.limits-limits.ensures c.as_slice.ensures.value _ _ refl refl refl refl (length c.args.self.bodies.items) c.in_ok-ended.ensures.ended.0 in
    again.0

pub returns-clause-traced : goal.returns-clause-traced
returns-clause-traced g c = λ keeps.
    let ended = c.in_ok-ended.ensures.ended in
    let again = run_again c.limits-limits.result _ c.as_slice.result.now c.args.self.capacities.items c.limits-limits.ensures c.as_slice.ensures.value _ _ refl refl refl refl (length c.args.self.bodies.items) ended.0 in
    traced_of _ c.args.self.capacities.items (length c.args.self.bodies.items) _ again.0 (ended.1 keeps ∙ sym again.1) c.limits-limits.ensures refl (search rules)

pub returns-clause-drawn : goal.returns-clause-drawn
returns-clause-drawn g c =
    drawn_again c.limits-limits.result _ c.as_slice.result.now c.args.self.capacities.items c.limits-limits.ensures c.as_slice.ensures.value _ _ refl refl refl refl _ _ _ _ c.args.self.settings.fair c.args.self.bodies.items _ (c.args.keeps ≡ true)
    c.in_ok-ended.ensures.drawn
