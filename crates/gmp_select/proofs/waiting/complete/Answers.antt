use Rattle.gmp_select.proofs.Offering.{all_gone}
use Rattle.gmp_select.proofs.waiting.complete.Goals as goal

pub returns-clause-gone : goal.returns-clause-gone
returns-clause-gone c = all_gone c.proceed.result c.args.channels.now.waiters c.proceed.new.self.waiters c.proceed.ensures.waiters
