use Rattle.std.proofs.Common.{map, take}
use Rattle.gmp_start.specs.Start.{channel_of}
use Rattle.gmp_explain.specs.Spoken.{TellsOf}
use Rattle.gmp_explain.specs.Stated.{each_named}
use Rattle.gmp_explain.proofs.before.tell_cases.Given as goal

-- those before this one were told
abbrev pub invariant-loop-case : goal.invariant-loop-case
invariant-loop-case g l = TellsOf g.S.Sink.told (each_named (map channel_of l.story.last.channels.items) (take l.case-index l.cases)) l.initial.sink l.sink
