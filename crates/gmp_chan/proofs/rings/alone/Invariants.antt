use Rattle.std.proofs.Common.{◌≤◌, vec_capacity}
use Rattle.gmp_chan.specs.Rings.{AreAlone}
use Rattle.gmp_chan.proofs.rings.alone.Given as goal

abbrev pub invariant-loop-n : goal.invariant-loop-n
invariant-loop-n l = record {
  so_far : AreAlone l.n l.links.items;
  room : l.fn.nodes ≤ vec_capacity l.links;
}
