use Rattle.std.proofs.Common.{ap, ◌∙◌}
use Rattle.std.specs.Prelude.{not}
use Rattle.std.specs.List.{list_any}
use Rattle.gmp_idle.proofs.Masks.{empty}
use Rattle.gmp_idle.proofs.small_set.SmallSet.is_empty.Goals as goal

pub returns : goal.returns
returns c = empty c.self.inside.bits c.self.inside.size c.self.invariant.1 ∙ ap (λ l. not (list_any (λ b. b) l)) c.self.view_is
