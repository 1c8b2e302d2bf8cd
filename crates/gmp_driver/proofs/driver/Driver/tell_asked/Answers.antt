use Rattle.gmp_driver.specs.Pass.{pass_of}
use Rattle.gmp_driver.specs.Seen.{seen_of}
use Rattle.gmp_driver.specs.Spot.{place_of}
use Rattle.gmp_driver.proofs.Onward.{asked_fits, asked_is}
use Rattle.gmp_driver.proofs.driver.Driver.tell_asked.Goals as goal

pub invariant_of-self : goal.invariant_of-self
invariant_of-self g c =
    let i = c.self.inside in
    let sees = seen_of i.procs i.fresh i.turns i.aside i.hand in
    let kept = c.self.invariant in
    record {
      some_procs = kept.some_procs;
      few_procs = kept.few_procs;
      few_turns = kept.few_turns;
      pass = kept.pass;
      fits = λ out. rw (c.ask_on.ensures sees) (asked_fits sees (place_of i.spot i.ask) c.args.ask.now i.hand (kept.fits out));
    }

pub returns : goal.returns
returns g c =
    let i = c.self.inside in
    asked_is c.args.self.now (record { run = i.run; procs = i.procs; place = place_of i.spot i.ask; fresh = i.fresh; turns = i.turns; aside = i.aside; pass = pass_of i.run i.pass; hand = i.hand })
    c.args.ask.now (place_of c.ask_on.new.here c.ask_on.new.beside) c.self.view_is (c.ask_on.ensures (seen_of i.procs i.fresh i.turns i.aside i.hand))
