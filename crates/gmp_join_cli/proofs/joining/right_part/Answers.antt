use Rattle.std.proofs.Common.{ℕ, List, subst}
use Rattle.gmp_judge.specs.Judged.{IsWrong}
use Rattle.gmp_join_cli.proofs.joining.right_part.Goals as goal

pub returns-clause-bad : goal.returns-clause-bad
returns-clause-bad g c n bad told =
    let found = c.in_part.ensures.bad n bad told in
    (found.0, subst (λ (all : List ℕ). IsWrong all bad) c.deref.ensures.value (c.in-Err.ensures.wrong bad found.1))
