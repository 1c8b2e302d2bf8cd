use Rattle.std.proofs.Common.{refl}
use Rattle.gmp_start.specs.Start.{state_of}
use Rattle.gmp_check.proofs.Beginning.{may_go_on}
use Rattle.gmp_check.proofs.checked.may_go_on.Goals as goal

pub returns-then-has_sizes : goal.returns-then-has_sizes
returns-then-has_sizes c =
    let a = c.args in
    let sizes = c.if-has_sizes.ensures.0 refl in
    rw c.fits.ensures (may_go_on a.limits a.bodies (state_of a.start.now) refl sizes)
