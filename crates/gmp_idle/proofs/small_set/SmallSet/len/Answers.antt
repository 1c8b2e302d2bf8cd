use Rattle.std.proofs.Common.{ap, ◌∙◌}
use Rattle.std.specs.Prelude.{count_by}
use Rattle.gmp_idle.proofs.Masks.{counted}
use Rattle.gmp_idle.proofs.small_set.SmallSet.len.Goals as goal

pub returns : goal.returns
returns c = counted c.self.inside.bits c.self.inside.size c.self.invariant.1 ∙ ap (count_by (λ b. b)) c.self.view_is
