use Rattle.std.proofs.Common.{rules}
use Rattle.gmp_base.proofs.refusal.Refusal.number.Goals as goal

pub returns-in-NoProcessor : goal.returns-in-NoProcessor
returns-in-NoProcessor c = search rules

pub returns-in-Busy : goal.returns-in-Busy
returns-in-Busy c = search rules
