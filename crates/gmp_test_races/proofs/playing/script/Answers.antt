use Rattle.std.proofs.Common.{[], ◌∷◌, ◌++◌, rules}
use Rattle.gmp_test_races.proofs.playing.script.Goals as goal

pub loop-line-init : goal.loop-line-init
loop-line-init c = ([], search rules)

pub loop-line-preserved : goal.loop-line-preserved
loop-line-preserved c =
    let is = c.loop-line.invariant in
    (is.0 ++ c.in-Some.line.now ∷ [], c.in_ok-add.ensures.good c.if-not-branch.false is.0 is.1)

pub returns : goal.returns
returns c = c.loop-line.invariant.1.fresh
