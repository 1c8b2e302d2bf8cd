use Rattle.gmp_select.proofs.Offering.{none_left}
use Rattle.gmp_select.proofs.waiting.withdraw_all.Goals as goal

pub returns-clause-gone : goal.returns-clause-gone
returns-clause-gone c = rw c.withdraw.ensures (none_left c.args.g c.args.channels.now.waiters)
