use Rattle.std.proofs.Common.{refl, []}
use Rattle.gmp_explain.proofs.Spoken.{behind, other}
use Rattle.gmp_explain.proofs.knot.tell_cycle.Goals as goal

pub returns-then-eq : goal.returns-then-eq
returns-then-eq g c = behind g.S.Sink.told c.args.sink.now c.loop.sink c.tell.new.self [] c.loop.invariant (other g.S.Sink.told c.loop.sink c.tell.new.self c.in_ok-tell.ensures refl)

pub loop-preserved : goal.loop-preserved
loop-preserved g c = behind g.S.Sink.told c.args.sink.now c.loop.sink c.tell.new.self [] c.loop.invariant (other g.S.Sink.told c.loop.sink c.tell.new.self c.in_ok-tell.ensures refl)
