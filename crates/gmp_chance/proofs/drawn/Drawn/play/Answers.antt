use Rattle.std.proofs.Common.{add-one}
use Rattle.gmp_core.proofs.Moves.{opened_on}
use Rattle.gmp_chance.proofs.drawn.Drawn.play.Goals as goal

pub loop-made-preserved : goal.loop-made-preserved
loop-made-preserved g c = record {
  draws = rw add-one (c.loop-made.self, c.loop-made.invariant.draws, c.if-not-act.ensures.tries);
  opened = opened_on _ _ _ c.loop-made.invariant.opened c.act.ensures.opened;
}
