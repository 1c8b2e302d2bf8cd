use Rattle.gmp_acts.proofs.Losing.{local_keeps, over_keeps, surrender_gives}
use Rattle.gmp_acts.proofs.laws.acts_lose_nothing.Goals as goal

pub returns-clause-local : goal.returns-clause-local
returns-clause-local c = local_keeps

pub returns-clause-over : goal.returns-clause-over
returns-clause-over c = over_keeps

pub returns-clause-surrender : goal.returns-clause-surrender
returns-clause-surrender c = surrender_gives
