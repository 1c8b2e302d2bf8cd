use Rattle.std.proofs.Common.{rules, sym, subst}
use Rattle.gmp_check.proofs.Keeping.{opening_consistent}
use Rattle.gmp_check.specs.Consistent.{IsConsistentUnder}
use Rattle.gmp_seq.specs.Fits.{AreLimits}
use Rattle.gmp_check.proofs.replay.Replay.open.Goals as goal

pub invariant_of-result : goal.invariant_of-result
invariant_of-result c =
    let a = c.args in
    let within : AreLimits a.limits a.bodies a.capacities.now = search rules in
    subst (IsConsistentUnder a.limits) (sym c.in_ok-state.ensures) (opening_consistent a.limits a.bodies a.capacities.now within)
