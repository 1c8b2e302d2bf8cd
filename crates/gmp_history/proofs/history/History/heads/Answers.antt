use Rattle.std.proofs.Common.{◌∙◌, List, ap}
use Rattle.std.specs.Prelude.{map}
use Rattle.gmp_history.specs.declared.brief.Row.{Row}
use Rattle.gmp_history.specs.Brief.{row_head}
use Rattle.gmp_history.proofs.Heading.{heads_kept}
use Rattle.gmp_history.proofs.history.History.heads.Goals as goal

pub returns-clause-list : goal.returns-clause-list
returns-clause-list c = rw (← c.self.view_is) (ap (λ (rows : List Row). map row_head rows) c.deref.ensures.value ∙ heads_kept c.self.inside.choosings.items c.self.inside.served.items c.self.inside.rows.items)
