use Rattle.std.proofs.Common.{◌∙◌, ap, sym, arith}
use Rattle.std.proofs.lemmas.Bool.{eq-eqb, eqb-true}
use Rattle.gmp_idle.proofs.Masks.{all_set, below_size, length-flags, ones_of, others_set}
use Rattle.gmp_idle.proofs.small_set.SmallSet.has_all_but.Goals as goal

pub prove-unreachable-requires : goal.prove-unreachable-requires
prove-unreachable-requires c =
    let i = c.self.inside in
    omega (arith, below_size i.bits i.size c.args.self.now c.args.i c.self.view_is c.requires)

pub returns : goal.returns
returns c =
    let i = c.self.inside in
    let room = c.self.invariant.0 in
    let ones = ones_of i.size room in
    let long = length-flags i.bits i.size in
    rw (← c.self.view_is) (
      λ is n inside other. others_set i.bits i.size c.args.i room c.if-prove.false (eqb-true _ _ is ∙ ones) n (omega arith) other,
      λ others. eq-eqb _ _ (all_set i.bits i.size c.args.i room c.if-prove.false c.self.invariant.1 (λ n inside other. others n (omega arith) other) ∙ sym ones),
    )
