use Rattle.std.proofs.Common.{◌≡◌, ◌∙◌, true, length, refl, rules, sym}
use Rattle.gmp_host.proofs.Again.{played_again, run_again, traced_of}
use Rattle.gmp_host.proofs.host.Host.played.Goals as goal

pub returns-clause-ended : goal.returns-clause-ended
returns-clause-ended g c =
    let again = run_again c.limits-limits.result _ c.as_slice.result.now c.args.self.capacities.items c.limits-limits.ensures c.as_slice.ensures.value _ _ refl refl refl refl (length c.args.self.bodies.items) c.in_ok-ended.ensures.ended.0 in
    again.0

pub returns-clause-traced : goal.returns-clause-traced
returns-clause-traced g c = λ keeps.
    let ended = c.in_ok-ended.ensures.ended in
    let again = run_again c.limits-limits.result _ c.as_slice.result.now c.args.self.capacities.items c.limits-limits.ensures c.as_slice.ensures.value _ _ refl refl refl refl (length c.args.self.bodies.items) ended.0 in
    traced_of _ c.args.self.capacities.items (length c.args.self.bodies.items) _ again.0 (ended.1 keeps ∙ sym again.1) c.limits-limits.ensures refl (search rules)

pub returns-clause-played : goal.returns-clause-played
returns-clause-played g c =
    played_again c.limits-limits.result _ c.as_slice.result.now c.args.self.capacities.items c.limits-limits.ensures c.as_slice.ensures.value _ _ refl refl refl refl _ _ c.args.self.settings.fair c.args.self.bodies.items _ (c.args.keeps ≡ true)
    c.in_ok-ended.ensures.played
