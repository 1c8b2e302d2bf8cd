use Rattle.std.proofs.Common.{rules}
use Rattle.gmp_trace.proofs.trace.End.of.Goals as goal

pub returns-in-Some-AllAsleep : goal.returns-in-Some-AllAsleep
returns-in-Some-AllAsleep c = search rules

pub returns-in-Some-BookFull : goal.returns-in-Some-BookFull
returns-in-Some-BookFull c = search rules
