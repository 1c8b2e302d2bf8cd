use Rattle.std.proofs.Common.{◌<◌, length, rules}
use Rattle.gmp_core.proofs.Rings.{popped}
use Rattle.gmp_core.proofs.queues.Queues.pop.Goals as goal

pub returns-then-place-len-clause-pops : goal.returns-then-place-len-clause-pops
returns-then-place-len-clause-pops c =
    let there : c.args.p.0 < length c.self.inside.rings.items = search rules in
    rw (← c.self.view_is) (popped c.self.inside.rings.items c.args.p c.index_mut.result.now there c.index_mut.ensures.value c.take_first.result c.take_first.new.ring c.take_first.ensures.first c.take_first.ensures.rest)
