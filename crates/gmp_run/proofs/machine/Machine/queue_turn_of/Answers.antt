use Rattle.std.proofs.Common.{rules}
use Rattle.std.proofs.Math.Logic.{∥∥₁_map}
use Rattle.gmp_said.specs.Standing.{HandSaid}
use Rattle.gmp_said.proofs.Standing.{said_join}
use Rattle.gmp_run.specs.Bodies.{HandLed}
use Rattle.gmp_run.proofs.Bodies.{hand_join}
use Rattle.gmp_run.proofs.Fair.{queue_fair}
use Rattle.gmp_run.proofs.Making.{at_queue}
use Rattle.gmp_run.proofs.Queues.{queue_led, queue_said}
use Rattle.gmp_run.proofs.Trails.{alone_join, goes}
use Rattle.gmp_run.proofs.machine.Machine.queue_turn_of.Goals as goal

pub invariant_of-self : goal.invariant_of-self
invariant_of-self g c =
    let turns = c.queue_turn_of.ensures.turns in
    let fair = queue_fair _ _ _ _ _ turns in
    let alone = ∥∥₁_map c.args.self.now.alone (λ since. alone_join _ _ _ since (goes _ _ (at_queue _ _ _ _ _ turns))) in
    let x = c.args.self.now in
    let x' = c.queue_turn_of.new.driver in
    let led : ∥ HandLed g.T.Runs.resumes g.T.Runs.blocks x.stub.value.hand x'.hand ∥₁ =
    ∥∥₁_map x.led (λ since. hand_join g.T.Runs.resumes g.T.Runs.blocks x.stub.value.hand x.driver.hand x'.hand since (queue_led g.T.Runs.resumes g.T.Runs.blocks x.driver x' _ _ _ turns)) in
    let said : ∥ HandSaid g.T.Runs.resumes g.T.Runs.blocks x.stub.value.place x.stub.value.hand x'.place x'.hand ∥₁ =
    ∥∥₁_map x.said (λ since. said_join g.T.Runs.resumes g.T.Runs.blocks x.stub.value.place x.driver.place x'.place x.stub.value.hand x.driver.hand x'.hand since (queue_said g.T.Runs.resumes g.T.Runs.blocks x.driver x' _ _ _ turns)) in
    search (rules, fair, alone, led, said)
