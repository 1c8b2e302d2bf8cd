use Rattle.gmp_check.proofs.Firsts.{at_waiting}
use Rattle.gmp_check.proofs.table.waiting.first_at.Goals as goal

pub returns-in-Waiting : goal.returns-in-Waiting
returns-in-Waiting c = at_waiting c.args.g c.args.status.now c.in-Waiting.wait c.args.c c.args.direction c.first_of.result c.in-Waiting.is c.first_of.ensures
