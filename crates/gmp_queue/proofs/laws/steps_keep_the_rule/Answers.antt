use Rattle.std.proofs.Common.{[], ◌∷◌}
use Rattle.gmp_queue.proofs.Keeps.{puts, pops, steals, finds_none}
use Rattle.gmp_queue.proofs.laws.steps_keep_the_rule.Goals as goal

pub returns : goal.returns
returns c = record {
  push = λ port v owner r. puts port v (r ∷ []) owner.0 owner.1;
  pop = λ port v owner. pops port v owner.0 owner.1;
  pop_none = λ port v owner. finds_none port v owner.0;
  steal = steals;
  steal_none = λ port v active views h at. tt;
}
