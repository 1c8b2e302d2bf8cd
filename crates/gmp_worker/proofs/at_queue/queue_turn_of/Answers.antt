use Rattle.std.proofs.Common.{false, refl}
use Rattle.gmp_driver.specs.declared.act.Act.TheVariants as act
use Rattle.gmp_driver.specs.declared.act.Frequent.TheVariants as frequent
use Rattle.gmp_driver.specs.Table.{next_act}
use Rattle.gmp_worker.specs.AtQueue.{PopsFor, Pushes}
use Rattle.gmp_worker.specs.Drawn.{drawn_for}
use Rattle.gmp_worker.proofs.Turned.{is_named, popped, pushed, told_pass, told_run, undrawn}
use Rattle.gmp_worker.proofs.at_queue.queue_turn_of.Goals as goal

pub pop-requires-clause-next : goal.pop-requires-clause-next
pop-requires-clause-next g c = is_named c.args.driver.now _ frequent.Pop c.in-Pop.is c.requires.named

pub push-requires-clause-next : goal.push-requires-clause-next
push-requires-clause-next g c = is_named c.args.driver.now _ frequent.Push c.in-Push.is c.requires.named

pub returns-in-Pop-clause-turns : goal.returns-in-Pop-clause-turns
returns-in-Pop-clause-turns g c = popped c.args.driver.now c.pop.new.driver (drawn_for (next_act c.args.driver.now) c.args.random.now).0 c.args.thieves.now false (is_named c.args.driver.now _ frequent.Pop c.in-Pop.is c.requires.named) c.pop.ensures.pops

pub returns-in-Pop-clause-random : goal.returns-in-Pop-clause-random
returns-in-Pop-clause-random g c = undrawn (next_act c.args.driver.now) act.Pop c.args.random.now (is_named c.args.driver.now _ frequent.Pop c.in-Pop.is c.requires.named) refl

pub returns-in-Pop-clause-pass : goal.returns-in-Pop-clause-pass
returns-in-Pop-clause-pass g c = told_pass c.args.driver.now c.pop.new.driver (PopsFor false c.args.driver.now.run c.args.driver.now.hand) c.pop.ensures.pops

pub returns-in-Pop-clause-run : goal.returns-in-Pop-clause-run
returns-in-Pop-clause-run g c = told_run c.args.driver.now c.pop.new.driver (PopsFor false c.args.driver.now.run c.args.driver.now.hand) c.pop.ensures.pops

pub returns-in-Push-clause-turns : goal.returns-in-Push-clause-turns
returns-in-Push-clause-turns g c = pushed c.args.driver.now c.push.new.driver (drawn_for (next_act c.args.driver.now) c.args.random.now).0 c.args.thieves.now (is_named c.args.driver.now _ frequent.Push c.in-Push.is c.requires.named) c.push.ensures.pushes

pub returns-in-Push-clause-random : goal.returns-in-Push-clause-random
returns-in-Push-clause-random g c = undrawn (next_act c.args.driver.now) act.Push c.args.random.now (is_named c.args.driver.now _ frequent.Push c.in-Push.is c.requires.named) refl

pub returns-in-Push-clause-pass : goal.returns-in-Push-clause-pass
returns-in-Push-clause-pass g c = told_pass c.args.driver.now c.push.new.driver (Pushes c.args.driver.now.run c.args.driver.now.hand) c.push.ensures.pushes

pub returns-in-Push-clause-run : goal.returns-in-Push-clause-run
returns-in-Push-clause-run g c = told_run c.args.driver.now c.push.new.driver (Pushes c.args.driver.now.run c.args.driver.now.hand) c.push.ensures.pushes
