use Rattle.std.proofs.Common.{inl, inr, rules}
use Rattle.std.proofs.Math.Logic.{∥∥₁_map}
use Rattle.gmp_driver.specs.declared.act.Told.TheVariants as told
use Rattle.gmp_said.specs.Standing.{HandSaid}
use Rattle.gmp_said.proofs.Standing.{said_join}
use Rattle.gmp_run.specs.Bodies.{HandLed}
use Rattle.gmp_run.proofs.Bodies.{blocked_led, blocked_said, hand_join, local_led, local_said, resumed_led, resumed_said}
use Rattle.gmp_run.proofs.Making.{alone as acts_alone, blocked_so, resumed_so}
use Rattle.gmp_run.proofs.Trails.{alone_join, goes}
use Rattle.gmp_run.proofs.machine.Machine.local_turn.Goals as goal

pub invariant_of-self : goal.invariant_of-self
invariant_of-self g c =
    let resumes = g.T.Runs.resumes in
    let blocks = g.T.Runs.blocks in
    let m = c.args.self.now in
    let x = m.driver in
    let x' = c.local_turn.new.driver in
    let turn = c.local_turn.ensures in
    let of = c.requires in
    let on = acts_alone x x' c.args.moment of (λ is. resumed_so x x' _ (turn.resumes is) (λ h t. (t.0, (t.1, t.3)))) (λ is. blocked_so x x' _ (turn.blocks is) (λ h t. (t.0, (t.1, t.3)))) turn.reads in
    let hand = local_led resumes blocks x x' c.args.moment of (λ is. resumed_led resumes blocks x x' _ is (turn.resumes is) (λ h t. (t.1, told.Asked t.0, inl (h.woke, t.0, t.2), t.3)))
    (λ is. blocked_led resumes blocks x x' _ is (turn.blocks is) (λ h t. (t.1, told.Number t.0, inr (t.0, t.2), t.3))) turn.reads in
    let spoke = local_said resumes blocks x x' c.args.moment of (λ is. resumed_said resumes blocks x x' _ is (turn.resumes is) (λ h t. (t.1, t.0, t.2, t.3)))
    (λ is. blocked_said resumes blocks x x' _ is (turn.blocks is) (λ h t. (t.1, t.0, t.2, t.3))) turn.reads in
    let alone = ∥∥₁_map m.alone (λ since. alone_join _ _ _ since (goes _ _ on)) in
    let led : ∥ HandLed resumes blocks m.stub.value.hand x'.hand ∥₁ = ∥∥₁_map m.led (λ since. hand_join resumes blocks m.stub.value.hand x.hand x'.hand since hand) in
    let said : ∥ HandSaid resumes blocks m.stub.value.place m.stub.value.hand x'.place x'.hand ∥₁ =
    ∥∥₁_map m.said (λ since. said_join resumes blocks m.stub.value.place x.place x'.place m.stub.value.hand x.hand x'.hand since spoke) in
    search (rules, alone, led, said)
