use Rattle.gmp_start.proofs.Fitting.{rises_test}
use Rattle.gmp_start.proofs.forms.suits.Goals as goal

pub returns-in-Select : goal.returns-in-Select
returns-in-Select c = rw (c.in-Select.is, c.rise.ensures) (rises_test c.args.offers.now)
