use Rattle.std.proofs.Common.{true, set, ap, ◌∙◌, arith}
use Rattle.gmp_idle.proofs.Masks.{below_size, flags_set, set_fits}
use Rattle.gmp_idle.proofs.small_set.SmallSet.insert.Goals as goal

pub prove-unreachable-requires : goal.prove-unreachable-requires
prove-unreachable-requires c =
    let i = c.self.inside in
    omega (arith, below_size i.bits i.size c.args.self.now c.args.i c.self.view_is c.requires)

pub invariant_of-self : goal.invariant_of-self
invariant_of-self c =
    let i = c.self.inside in
    (c.self.invariant.0, set_fits i.bits i.size c.args.i c.self.invariant.0 c.if-prove.false c.self.invariant.1)

pub returns : goal.returns
returns c =
    let i = c.self.inside in
    flags_set i.bits i.size c.args.i c.self.invariant.0 c.if-prove.false ∙ ap (λ l. set l c.args.i true) c.self.view_is
