use Rattle.std.proofs.Common.{arith}
use Rattle.std.proofs.lemmas.Nat.{pow_pos}
use Rattle.gmp_idle.proofs.Masks.{flags_all, ones_of}
use Rattle.gmp_idle.proofs.small_set.SmallSet.all.Goals as goal

pub invariant_of-result : goal.invariant_of-result
invariant_of-result c =
    let ones = ones_of c.args.size c.requires in
    let positive = pow_pos c.args.size in
    (c.requires, rw ones (omega arith))

pub returns : goal.returns
returns c = flags_all _ c.args.size (ones_of c.args.size c.requires)
