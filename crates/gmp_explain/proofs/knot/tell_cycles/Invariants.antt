use Rattle.std.proofs.Common.{[]}
use Rattle.gmp_explain.specs.Spoken.{TellsOf}
use Rattle.gmp_explain.proofs.knot.tell_cycles.Given as goal

-- nothing of what goroutines do was told so far
abbrev pub invariant-loop-g : goal.invariant-loop-g
invariant-loop-g g l = TellsOf g.S.Sink.told [] l.initial.sink l.sink
