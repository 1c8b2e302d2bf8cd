use Rattle.std.proofs.Common.{rules}
use Rattle.gmp_worker.proofs.at_book.turn_by.Goals as goal

pub turn-requires-clause-act : goal.turn-requires-clause-act
turn-requires-clause-act g c = search rules

pub returns-in-Ok-clause-turn : goal.returns-in-Ok-clause-turn
returns-in-Ok-clause-turn g c = search rules

pub returns-in-Err-clause-turn : goal.returns-in-Err-clause-turn
returns-in-Err-clause-turn g c = search rules

pub returns-in-Surrender-clause-turn : goal.returns-in-Surrender-clause-turn
returns-in-Surrender-clause-turn g c = search rules
