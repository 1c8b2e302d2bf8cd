use Rattle.std.proofs.Common.{refl}
use Rattle.gmp_turn.proofs.Ending.{apart_after, fits_after, log_after, pass_after, run_after}
use Rattle.gmp_turn.specs.Surrenders.{surrendered}
use Rattle.gmp_turn.proofs.surrendering.surrender.Goals as goal

pub got-requires-clause-run : goal.got-requires-clause-run
got-requires-clause-run g c =
    let x = c.args.driver.now in
    let load = rw c.requires.act at c.give-load.ensures.used in
    rw (c.give-load.ensures.left, c.give_back-result.ensures.left, load) (run_after x.run c.give-load.result.pass x.hand c.args.which c.give_back-result.result (rw load at c.give-load.ensures.run))

pub got-requires-clause-apart : goal.got-requires-clause-apart
got-requires-clause-apart g c =
    let x = c.args.driver.now in
    let load = rw c.requires.act at c.give-load.ensures.used in
    rw (c.give-load.ensures.left, c.requires.act, c.give_back-result.ensures.left, load) (apart_after x.run c.give-load.result.pass x.hand c.args.which c.give_back-result.result)

pub got-requires-clause-fits : goal.got-requires-clause-fits
got-requires-clause-fits g c =
    let load = rw c.requires.act at c.give-load.ensures.used in
    rw (c.give-load.ensures.left, c.requires.act, c.give_back-result.ensures.left, load, c.told_back.ensures) (fits_after c.args.driver.now c.give-load.result.pass c.args.which c.give_back-result.result c.requires.act)

pub returns-clause-fits : goal.returns-clause-fits
returns-clause-fits g c =
    let load = rw c.requires.act at c.give-load.ensures.used in
    rw (c.got.ensures, c.give-load.ensures.left, c.requires.act, c.give_back-result.ensures.left, load, c.told_back.ensures)
    (fits_after c.args.driver.now c.give-load.result.pass c.args.which c.give_back-result.result c.requires.act)

pub returns-clause-surrenders : goal.returns-clause-surrenders
returns-clause-surrenders g c =
    let load = rw c.requires.act at c.give-load.ensures.used in
    record {
      before = c.give-load.result.pass;
      pass = c.give-load.ensures.pass;
      refused = rw load at c.give_back-result.ensures.refused;
      places = rw load at c.give_back-result.ensures.book;
      machine =
          rw (
            c.give-load.ensures.left,
            c.requires.act,
            c.give_back-result.ensures.left,
            load,
            c.told_back.ensures,
            pass_after c.args.which c.give_back-result.result (surrendered c.args.driver.now c.give-load.result.pass c.args.which),
          ) at c.got.ensures;
    }

pub returns-clause-run : goal.returns-clause-run
returns-clause-run g c = rw (c.got.ensures, c.give-load.ensures.left) refl

pub returns-clause-log : goal.returns-clause-log
returns-clause-log g c = rw c.give_back-result.ensures.book (log_after c.args.which c.give_back-result.result c.give-load.result c.args.book.now)
