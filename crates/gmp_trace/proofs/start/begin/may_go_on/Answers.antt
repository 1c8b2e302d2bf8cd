use Rattle.std.proofs.Common.{◌≡◌, refl, rules, sum, sym, ap, ◌∙◌}
use Rattle.gmp_start.proofs.Fitting.{fitting}
use Rattle.gmp_start.specs.Start.{state_of}
use Rattle.gmp_trace.proofs.start.begin.may_go_on.Goals as goal

pub returns-then-add_up : goal.returns-then-add_up
returns-then-add_up c =
    let test = fitting c.args.limits (state_of c.args.start.now) refl in
    let adds : sum c.args.start.now.counts.items ≡ c.args.made = ap sum (sym c.deref.ensures.value) ∙ c.add_up.ensures.0 (search rules) in
    ((λ t. (adds, test.0 (sym c.fits.ensures ∙ t))), (λ both. c.fits.ensures ∙ test.1 both.1))
