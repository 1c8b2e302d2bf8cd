use Rattle.std.proofs.Common.{rules}
use Rattle.gmp_driver.proofs.table.act_at.Goals as goal

pub returns-in-Claim : goal.returns-in-Claim
returns-in-Claim c = search rules

pub returns-in-Store : goal.returns-in-Store
returns-in-Store c = search rules
