use Rattle.std.proofs.Common.{◌≡◌, ◌∙◌, sym, true}
use Rattle.gmp_driver.specs.Spot.{is_ask}
use Rattle.gmp_driver.proofs.Onward.{asked_place}
use Rattle.gmp_driver.proofs.table.go_on_by.Goals as goal

pub returns-then-is_ask-clause-place : goal.returns-then-is_ask-clause-place
returns-then-is_ask-clause-place c =
    let asks : is_ask c.args.here.now ≡ true = sym c.is_ask.ensures ∙ c.if-is_ask.true in
    rw (asked_place c.args.here.now c.args.ask.now asks) (c.after_ask.ensures c.args.ask.now)
