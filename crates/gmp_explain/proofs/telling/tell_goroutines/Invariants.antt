use Rattle.gmp_start.specs.Start.{table_of}
use Rattle.gmp_explain.specs.Spoken.{TellsOf}
use Rattle.gmp_explain.specs.Stated.{for_each, goroutine_said}
use Rattle.gmp_explain.proofs.telling.tell_goroutines.Given as goal

-- what those before number g do was told
abbrev pub invariant-loop-g : goal.invariant-loop-g
invariant-loop-g g l = TellsOf g.S.Sink.told (for_each l.g (λ g. goroutine_said l.story.replay.state.outcome (table_of l.story.last) (record { 0 = g }))) l.initial.sink l.sink
