use Rattle.std.proofs.Common.{[]}
use Rattle.gmp_explain.proofs.Spoken.{behind}
use Rattle.gmp_explain.proofs.telling.tell_callers.Goals as goal

pub loop-m-preserved : goal.loop-m-preserved
loop-m-preserved g c = behind g.S.Sink.told c.args.sink.now c.loop-m.sink c.tell_counts.new.sink [] c.loop-m.invariant c.in_ok-tell_counts.ensures

pub loop-p-preserved : goal.loop-p-preserved
loop-p-preserved g c = behind g.S.Sink.told c.loop-m.sink c.loop-p.sink c.tell_counts-in-loop-p.new.sink [] c.loop-p.invariant c.in_ok-tell_counts-2.ensures

pub returns : goal.returns
returns g c = behind g.S.Sink.told c.args.sink.now c.loop-m.sink c.loop-p.sink [] c.loop-m.invariant c.loop-p.invariant
