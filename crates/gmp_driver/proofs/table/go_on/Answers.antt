use Rattle.std.proofs.Common.{sym, ◌∙◌}
use Rattle.gmp_driver.specs.declared.act.Told.TheVariants as told
use Rattle.gmp_driver.specs.Spot.{place_of}
use Rattle.gmp_driver.proofs.Onward.{same_aside}
use Rattle.gmp_driver.proofs.table.go_on.Goals as goal

pub returns-in_default-Tried-clause-aside : goal.returns-in_default-Tried-clause-aside
returns-in_default-Tried-clause-aside c =
    let what = told.Tried c.in_default-Tried.tried in
    rw (c.in_default-Tried.is-1) (c.requires.aside ∙ sym (same_aside c.args.seen (place_of c.args.here.now c.args.beside.now) what tt))

pub returns-in_default-Asked-clause-place : goal.returns-in_default-Asked-clause-place
returns-in_default-Asked-clause-place c = rw (c.in_default-Asked.is-1) (c.ask_on.ensures c.args.seen)
