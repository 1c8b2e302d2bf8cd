-- Acts in a row.
use Rattle.std.proofs.Common.{List, [], ◌∷◌, ◌++◌, refl, ◌∙◌, subst}
use Rattle.gmp_base.specs.declared.number.MNo.{MNo}
use Rattle.gmp_acts.specs.declared.choice.Choice.{Choice}
use Rattle.gmp_acts.specs.Acts.{Acts, ActsAll}
use Rattle.gmp_acts.specs.Headline.{NoClaimIsRefused, SameOpening}
use Rattle.gmp_acts.specs.System.{BookRun, System}
use Rattle.gmp_core.specs.Whole.{GrantsAll, NoCallIsRefused, TakesFixed, Whole}

pub all_and_one : (moves : List (MNo × Choice)) (move : MNo × Choice) (k mid end : System) → ActsAll k moves mid → Acts mid move.0 move.1 end → ActsAll k (moves ++ move ∷ []) end
all_and_one [] move k mid end all one = (end, subst (λ (j : System). Acts j move.0 move.1 end) all one, refl)
all_and_one (first ∷ moves) move k mid end all one = (all.0, all.1, all_and_one moves move all.0 mid end all.2 one)

pub grants_and_one : {T : Type 0} (moves : List (MNo × Choice)) (move : MNo × Choice) (k mid end : Whole T) → GrantsAll k moves mid → Acts mid.system move.0 move.1 end.system
    → NoCallIsRefused mid.system move.0 end.system → NoClaimIsRefused mid.system move.0 end.system → TakesFixed mid move.0 move.1.word end → GrantsAll k (moves ++ move ∷ []) end
grants_and_one {T} [] move k mid end all one granted claimed fixed =
    subst (λ (j : Whole T). GrantsAll j (move ∷ []) end) all (end, one, granted, claimed, fixed, refl)
grants_and_one (first ∷ moves) move k mid end all one granted claimed fixed =
    (all.0, all.1, all.2, all.3, all.4, grants_and_one moves move all.0 mid end all.5 one granted claimed fixed)

pub opened_on : (a b c : BookRun) → SameOpening a b → SameOpening b c → SameOpening a c
opened_on a b c x y = record { run = y.run ∙ x.run; limits = y.limits ∙ x.limits; bodies = y.bodies ∙ x.bodies; capacities = y.capacities ∙ x.capacities }
