use Rattle.std.proofs.Common.{ap, ◌∙◌}
use Rattle.std.specs.Prelude.{position}
use Rattle.gmp_idle.proofs.Masks.{least_none, least_some}
use Rattle.gmp_idle.proofs.small_set.SmallSet.least.Goals as goal

pub returns-then-self-eq0 : goal.returns-then-self-eq0
returns-then-self-eq0 c = least_none c.self.inside.bits c.self.inside.size c.if-self-eq0.true ∙ ap (position (λ b. b)) c.self.view_is

pub returns-else-self-eq0 : goal.returns-else-self-eq0
returns-else-self-eq0 c =
    least_some c.self.inside.bits c.self.inside.size c.self.invariant.0 c.self.invariant.1 c.if-self-eq0.false ∙ ap (position (λ b. b)) c.self.view_is
