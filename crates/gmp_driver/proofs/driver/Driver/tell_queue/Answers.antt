use Rattle.std.proofs.Common.{refl, rules}
use Rattle.gmp_driver.specs.Pass.{pass_of}
use Rattle.gmp_driver.specs.declared.registers.Registers.{Registers}
use Rattle.gmp_driver.specs.Spot.{place_of}
use Rattle.gmp_driver.proofs.Onward.{holding_is}
use Rattle.gmp_driver.proofs.driver.Driver.tell_queue.Goals as goal

pub invariant_of-self : goal.invariant_of-self
invariant_of-self g c = search rules

pub returns : goal.returns
returns g c =
    let i = c.self.inside in
    holding_is (λ (hand : Registers _ _). hand) c.args.self.now (record { run = i.run; procs = i.procs; place = place_of i.spot i.ask; fresh = i.fresh; turns = i.turns; aside = i.aside; pass = pass_of i.run i.pass; hand = i.hand })
    c.args.told i.hand c.of-seen.result (place_of c.go_on_at_queue.new.here i.ask) c.self.view_is refl c.of-seen.ensures (c.go_on_at_queue.ensures i.ask)
