use Rattle.std.proofs.Common.{Some}
use Rattle.gmp_driver.specs.declared.act.Act.TheVariants as act
use Rattle.gmp_worker.proofs.Turned.{hunted, is_steal}
use Rattle.gmp_worker.proofs.at_queue.hunt.Goals as goal

pub steal-requires-clause-next : goal.steal-requires-clause-next
steal-requires-clause-next g c = is_steal _ (Some c.args.word) act.Hunt c.requires.next tt

pub returns-clause-turns : goal.returns-clause-turns
returns-clause-turns g c =
    hunted c.args.driver.now c.steal.new.driver c.args.word c.args.thieves.now c.first_victim-first.result c.steal.new.thieves c.requires.next c.first_victim-first.ensures c.steal.ensures.steals
