use Rattle.std.proofs.Common.{[]}
use Rattle.gmp_explain.specs.Spoken.{TellsOf}
use Rattle.gmp_explain.proofs.knot.tell_cycle.Given as goal

-- nothing of goroutines was told so far
abbrev pub invariant-loop : goal.invariant-loop
invariant-loop g l = TellsOf g.S.Sink.told [] l.initial.sink l.sink
