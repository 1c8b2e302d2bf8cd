use Rattle.std.proofs.Common.{false, ap, sym, ◌∙◌}
use Rattle.std.specs.Prelude.{slice_get, unwrap_or}
use Rattle.std.proofs.lemmas.Bool.{le-ltb}
use Rattle.gmp_idle.proofs.Masks.{beyond, tested}
use Rattle.gmp_idle.proofs.small_set.SmallSet.contains.Goals as goal

pub returns-then-i-self : goal.returns-then-i-self
returns-then-i-self c = tested c.self.inside.bits c.self.inside.size c.args.i c.if-i-self.true ∙ ap (λ l. unwrap_or (slice_get l c.args.i) false) c.self.view_is

pub returns-else-i-self : goal.returns-else-i-self
returns-else-i-self c =
    le-ltb c.args.i c.self.inside.size c.if-i-self.false
    ∙ (sym (beyond c.self.inside.bits c.self.inside.size c.args.i c.if-i-self.false) ∙ ap (λ l. unwrap_or (slice_get l c.args.i) false) c.self.view_is)
