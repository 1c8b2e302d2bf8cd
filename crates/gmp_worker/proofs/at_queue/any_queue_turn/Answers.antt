use Rattle.std.proofs.Common.{◌∙◌, ℕ, None, false, true, sym, ap, subst}
use Rattle.gmp_driver.specs.declared.act.Act.TheVariants as act
use Rattle.gmp_driver.specs.Machine.{Machine}
use Rattle.gmp_driver.specs.Table.{next_act}
use Rattle.gmp_worker.specs.AtQueue.{PopsFor, Pushes, StealsFrom, TurnsOnQueue}
use Rattle.gmp_worker.specs.Drawn.{drawn_for}
use Rattle.gmp_worker.proofs.Turned.{is_steal, left_of, popped, pushed, stole, told_pass, told_run, word_of}
use Rattle.gmp_worker.proofs.at_queue.any_queue_turn.Goals as goal

pub pop-requires-clause-next : goal.pop-requires-clause-next
pop-requires-clause-next g c = sym c.next-act.ensures.act ∙ c.in-Pop.is

pub pop-requires-in-Drain-clause-next : goal.pop-requires-in-Drain-clause-next
pop-requires-in-Drain-clause-next g c = sym c.next-act.ensures.act ∙ c.in-Drain.is

pub push-requires-clause-next : goal.push-requires-clause-next
push-requires-clause-next g c = sym c.next-act.ensures.act ∙ c.in-Push.is

pub hunt-requires-clause-next : goal.hunt-requires-clause-next
hunt-requires-clause-next g c = sym c.next-act.ensures.act ∙ c.in-Hunt.is

pub steal-requires-clause-next : goal.steal-requires-clause-next
steal-requires-clause-next g c = is_steal _ None (act.Steal c.in-Steal.victim) (sym c.next-act.ensures.act ∙ c.in-Steal.is) tt

pub returns-in-Pop-clause-turns : goal.returns-in-Pop-clause-turns
returns-in-Pop-clause-turns g c = popped c.args.driver.now c.pop.new.driver (drawn_for (next_act c.args.driver.now) c.args.random.now).0 c.args.thieves.now false (sym c.next-act.ensures.act ∙ c.in-Pop.is) c.pop.ensures.pops

pub returns-in-Pop-clause-random : goal.returns-in-Pop-clause-random
returns-in-Pop-clause-random g c = left_of (next_act c.args.driver.now) c.next-act.result c.args.random.now c.draw_for-word.new.random c.draw_for-word.result c.next-act.ensures.act c.draw_for-word.ensures

pub returns-in-Pop-clause-pass : goal.returns-in-Pop-clause-pass
returns-in-Pop-clause-pass g c = told_pass c.args.driver.now c.pop.new.driver (PopsFor false c.args.driver.now.run c.args.driver.now.hand) c.pop.ensures.pops

pub returns-in-Pop-clause-run : goal.returns-in-Pop-clause-run
returns-in-Pop-clause-run g c = told_run c.args.driver.now c.pop.new.driver (PopsFor false c.args.driver.now.run c.args.driver.now.hand) c.pop.ensures.pops

pub returns-in-Drain-clause-turns : goal.returns-in-Drain-clause-turns
returns-in-Drain-clause-turns g c = popped c.args.driver.now c.pop-in-Drain.new.driver (drawn_for (next_act c.args.driver.now) c.args.random.now).0 c.args.thieves.now true (sym c.next-act.ensures.act ∙ c.in-Drain.is) c.pop-in-Drain.ensures.pops

pub returns-in-Drain-clause-random : goal.returns-in-Drain-clause-random
returns-in-Drain-clause-random g c = left_of (next_act c.args.driver.now) c.next-act.result c.args.random.now c.draw_for-word.new.random c.draw_for-word.result c.next-act.ensures.act c.draw_for-word.ensures

pub returns-in-Drain-clause-pass : goal.returns-in-Drain-clause-pass
returns-in-Drain-clause-pass g c = told_pass c.args.driver.now c.pop-in-Drain.new.driver (PopsFor true c.args.driver.now.run c.args.driver.now.hand) c.pop-in-Drain.ensures.pops

pub returns-in-Drain-clause-run : goal.returns-in-Drain-clause-run
returns-in-Drain-clause-run g c = told_run c.args.driver.now c.pop-in-Drain.new.driver (PopsFor true c.args.driver.now.run c.args.driver.now.hand) c.pop-in-Drain.ensures.pops

pub returns-in-Push-clause-turns : goal.returns-in-Push-clause-turns
returns-in-Push-clause-turns g c = pushed c.args.driver.now c.push.new.driver (drawn_for (next_act c.args.driver.now) c.args.random.now).0 c.args.thieves.now (sym c.next-act.ensures.act ∙ c.in-Push.is) c.push.ensures.pushes

pub returns-in-Push-clause-random : goal.returns-in-Push-clause-random
returns-in-Push-clause-random g c = left_of (next_act c.args.driver.now) c.next-act.result c.args.random.now c.draw_for-word.new.random c.draw_for-word.result c.next-act.ensures.act c.draw_for-word.ensures

pub returns-in-Push-clause-pass : goal.returns-in-Push-clause-pass
returns-in-Push-clause-pass g c = told_pass c.args.driver.now c.push.new.driver (Pushes c.args.driver.now.run c.args.driver.now.hand) c.push.ensures.pushes

pub returns-in-Push-clause-run : goal.returns-in-Push-clause-run
returns-in-Push-clause-run g c = told_run c.args.driver.now c.push.new.driver (Pushes c.args.driver.now.run c.args.driver.now.hand) c.push.ensures.pushes

pub returns-in-Steal-clause-turns : goal.returns-in-Steal-clause-turns
returns-in-Steal-clause-turns g c = stole c.args.driver.now c.steal.new.driver (drawn_for (next_act c.args.driver.now) c.args.random.now).0 c.args.thieves.now c.in-Steal.victim c.steal.new.thieves (sym c.next-act.ensures.act ∙ c.in-Steal.is) c.steal.ensures.steals

pub returns-in-Steal-clause-random : goal.returns-in-Steal-clause-random
returns-in-Steal-clause-random g c = left_of (next_act c.args.driver.now) c.next-act.result c.args.random.now c.draw_for-word.new.random c.draw_for-word.result c.next-act.ensures.act c.draw_for-word.ensures

pub returns-in-Steal-clause-pass : goal.returns-in-Steal-clause-pass
returns-in-Steal-clause-pass g c = told_pass c.args.driver.now c.steal.new.driver (StealsFrom c.args.driver.now None c.in-Steal.victim c.args.thieves.now c.steal.new.thieves) c.steal.ensures.steals

pub returns-in-Steal-clause-run : goal.returns-in-Steal-clause-run
returns-in-Steal-clause-run g c = told_run c.args.driver.now c.steal.new.driver (StealsFrom c.args.driver.now None c.in-Steal.victim c.args.thieves.now c.steal.new.thieves) c.steal.ensures.steals

pub returns-in-Hunt-clause-turns : goal.returns-in-Hunt-clause-turns
returns-in-Hunt-clause-turns g c =
    subst (λ (word : ℕ). TurnsOnQueue c.args.driver.now c.args.thieves.now word c.hunt.new.driver c.hunt.new.thieves) (word_of (next_act c.args.driver.now) c.next-act.result c.args.random.now c.draw_for-word.new.random c.draw_for-word.result c.next-act.ensures.act c.draw_for-word.ensures) c.hunt.ensures.turns

pub returns-in-Hunt-clause-random : goal.returns-in-Hunt-clause-random
returns-in-Hunt-clause-random g c = left_of (next_act c.args.driver.now) c.next-act.result c.args.random.now c.draw_for-word.new.random c.draw_for-word.result c.next-act.ensures.act c.draw_for-word.ensures

pub returns-in-Hunt-clause-pass : goal.returns-in-Hunt-clause-pass
returns-in-Hunt-clause-pass g c = ap (λ (x : Machine _ _). x.pass) c.hunt.ensures.turns.machine

pub returns-in-Hunt-clause-run : goal.returns-in-Hunt-clause-run
returns-in-Hunt-clause-run g c = ap (λ (x : Machine _ _). x.run) c.hunt.ensures.turns.machine
