use Rattle.std.proofs.Common.{ap, ◌∙◌}
use Rattle.gmp_seq.specs.Table.{least_deadline}
use Rattle.gmp_table.proofs.table.StatusTable.least_deadline.Goals as goal

pub returns : goal.returns
returns c = c.least_deadline.ensures ∙ ap (λ v. least_deadline v.table) c.self.view_is
