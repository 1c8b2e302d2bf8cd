use Rattle.std.proofs.Common.{add-one}
use Rattle.gmp_core.proofs.Moves.{opened_on}
use Rattle.gmp_core.proofs.playing.Player.play.Goals as goal

pub loop-made-preserved : goal.loop-made-preserved
loop-made-preserved g c = record {
  plays = rw add-one (c.loop-made.self, c.loop-made.invariant.plays, c.if-not-act.ensures.tries);
  opened = opened_on _ _ _ c.loop-made.invariant.opened c.act.ensures.opened;
}
