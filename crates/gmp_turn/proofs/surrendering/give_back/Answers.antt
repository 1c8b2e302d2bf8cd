use Rattle.std.proofs.Common.{rules}
use Rattle.gmp_turn.proofs.surrendering.give_back.Goals as goal

pub returns-in-Some-take-3-clause-refused : goal.returns-in-Some-take-3-clause-refused
returns-in-Some-take-3-clause-refused g c = search rules

pub returns-in-Some-take-3-clause-left : goal.returns-in-Some-take-3-clause-left
returns-in-Some-take-3-clause-left g c = search rules
