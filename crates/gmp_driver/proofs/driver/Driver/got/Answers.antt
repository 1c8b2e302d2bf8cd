use Rattle.std.proofs.Common.{◌≡◌, ◌∙◌, Some, ap, sym}
use Rattle.gmp_driver.specs.Pass.{pass_of}
use Rattle.gmp_driver.specs.Loads.{parts_of}
use Rattle.gmp_driver.specs.Machine.{Machine}
use Rattle.gmp_driver.specs.Spot.{place_of}
use Rattle.gmp_driver.proofs.Onward.{told_is}
use Rattle.gmp_driver.proofs.driver.Driver.got.Goals as goal

pub returns : goal.returns
returns g c =
    let i = c.self.inside in
    let j = c.self-2.inside in
    let run : j.run ≡ c.args.load.pass.run =
    ap (λ (x : Machine _ _). x.run) c.self-2.view_is ∙ (ap (λ (x : Machine _ _). x.run) c.tell.ensures ∙ (ap (λ (x : Machine _ _). x.run) c.self.view_is ∙ sym c.requires.run.pass)) in
    let pass : pass_of j.run c.of-self-inside.result ≡ Some c.args.load.pass = rw (run, ← c.take_back-pass.ensures.pass) c.of-self-inside.ensures in
    told_is c.args.self.now (record { run = i.run; procs = i.procs; place = place_of i.spot i.ask; fresh = i.fresh; turns = i.turns; aside = i.aside; pass = pass_of i.run i.pass; hand = i.hand })
    (record { run = j.run; procs = j.procs; place = place_of j.spot j.ask; fresh = j.fresh; turns = j.turns; aside = j.aside; pass = pass_of j.run j.pass; hand = j.hand })
    c.args.told c.args.load.pass (parts_of c.args.load) c.take_back-pass.new.self (pass_of j.run c.of-self-inside.result)
    c.self.view_is c.take_back-pass.ensures.hand (rw (c.self-2.view_is) c.tell.ensures) pass
