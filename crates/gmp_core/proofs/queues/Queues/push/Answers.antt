use Rattle.gmp_core.proofs.Rings.{has_place, pushed, within}
use Rattle.gmp_core.proofs.queues.Queues.push.Goals as goal

pub put_last-requires : goal.put_last-requires
put_last-requires c =
    let there = within c.self.inside.rings.items c.args.p (rw (← c.self.view_is) at c.requires.there) in
    has_place c.self.inside.rings.items c.args.p c.index_mut.result.now there c.index_mut.ensures.value c.self.inside.room c.self.invariant (rw (← c.self.view_is) at c.requires.room)

pub returns : goal.returns
returns c =
    let there = within c.self.inside.rings.items c.args.p (rw (← c.self.view_is) at c.requires.there) in
    rw (← c.self.view_is, pushed c.self.inside.rings.items c.args.p c.index_mut.result.now there c.index_mut.ensures.value c.args.r c.put_last.new.ring c.put_last.ensures)
