use Rattle.std.proofs.Common.{map, take}
use Rattle.gmp_explain.specs.Spoken.{TellsOf, Would}
use Rattle.gmp_explain.proofs.telling.tell_cases.Given as goal

-- those before this one were told
abbrev pub invariant-loop-offer : goal.invariant-loop-offer
invariant-loop-offer g l = TellsOf g.S.Sink.told (map (Would l.g) (take l.offer-index l.offer-items)) l.initial.sink l.sink
