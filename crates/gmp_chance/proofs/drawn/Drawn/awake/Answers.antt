use Rattle.std.proofs.Common.{ℕ, List, ap, arith, length}
use Rattle.gmp_chance.proofs.Wakeful.{few_awake}
use Rattle.gmp_chance.proofs.drawn.Drawn.awake.Goals as goal

pub push-requires : goal.push-requires
push-requires g c =
    let few = few_awake c.self.inside.core.system c.loop-m.m in
    let same = ap (λ (l : List ℕ). length l) c.loop-m.invariant in
    (omega arith, omega (arith, few, same, c.loop-m-test.true, c.self.invariant.1))
