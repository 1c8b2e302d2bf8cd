use Rattle.std.proofs.Common.{◌<◌, length, rules, arith}
use Rattle.gmp_core.proofs.Rings.{is_short}
use Rattle.gmp_core.proofs.queues.Queues.len.Goals as goal

pub overflow_cast-result : goal.overflow_cast-result
overflow_cast-result c =
    let there : c.args.p.0 < length c.self.inside.rings.items = search rules in
    let short = is_short c.self.inside.rings.items c.args.p c.index.result.now there c.index.ensures c.self.inside.room c.self.invariant in
    omega (arith, short)
