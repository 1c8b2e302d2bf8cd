use Rattle.std.proofs.Common.{map}
use Rattle.gmp_start.specs.Start.{channel_of}
use Rattle.gmp_explain.specs.Spoken.{TellsOf}
use Rattle.gmp_explain.specs.Stated.{channel_said, for_each}
use Rattle.gmp_explain.proofs.channels.tell_channels.Given as goal

-- those before number c were told
abbrev pub invariant-loop-c : goal.invariant-loop-c
invariant-loop-c g l = TellsOf g.S.Sink.told (for_each l.c (λ n. channel_said l.story.last.goroutines.items (map channel_of l.story.last.channels.items) (record { 0 = n }))) l.initial.sink l.sink
