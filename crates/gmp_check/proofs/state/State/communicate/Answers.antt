use Rattle.std.proofs.Common.{rules, refl, subst}
use Rattle.gmp_check.proofs.Going.{not_told}
use Rattle.gmp_check.specs.Ways.{IsWay}
use Rattle.gmp_check.proofs.state.State.communicate.Goals as goal

pub returns-in_default-clause-decides : goal.returns-in_default-clause-decides
returns-in_default-clause-decides c =
    let way = subst (IsWay c.args.self.now c.args.case) c.in-Some.is c.way.ensures in
    (refl, not_told c.args.self.now c.args.case c.in-Some.how c.args.told way (λ same. search rules))
