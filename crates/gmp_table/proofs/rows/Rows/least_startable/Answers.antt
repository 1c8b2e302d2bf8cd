use Rattle.std.proofs.Common.{sym}
use Rattle.gmp_table.proofs.Startable.{below_found}
use Rattle.gmp_table.proofs.rows.Rows.least_startable.Goals as goal

pub invariant_of-self : goal.invariant_of-self
invariant_of-self c = record {
  counted = c.self.invariant.counted;
  each = c.self.invariant.each;
  room = c.self.invariant.room;
  few = c.self.invariant.few;
  startable = rw (c.unwrap_or-self-inside.ensures, sym c.self.invariant.counted.size) (below_found c.self.inside.list.items c.first_startable-found.result (rw c.deref.ensures.value at c.first_startable-found.ensures));
}
