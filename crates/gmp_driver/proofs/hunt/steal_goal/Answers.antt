use Rattle.std.proofs.Common.{rules}
use Rattle.gmp_driver.proofs.hunt.steal_goal.Goals as goal

pub returns-clause-goal : goal.returns-clause-goal
returns-clause-goal c = search rules
