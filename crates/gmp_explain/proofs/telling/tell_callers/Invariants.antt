use Rattle.std.proofs.Common.{[]}
use Rattle.gmp_explain.specs.Spoken.{TellsOf}
use Rattle.gmp_explain.proofs.telling.tell_callers.Given as goal

-- nothing of what goroutines do was told so far
abbrev pub invariant-loop-m : goal.invariant-loop-m
invariant-loop-m g l = TellsOf g.S.Sink.told [] l.initial.sink l.sink

abbrev pub invariant-loop-p : goal.invariant-loop-p
invariant-loop-p g l = TellsOf g.S.Sink.told [] l.initial.sink l.sink
