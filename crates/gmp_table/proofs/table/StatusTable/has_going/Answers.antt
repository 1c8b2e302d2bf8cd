use Rattle.std.proofs.Common.{ap, sym, ◌∙◌}
use Rattle.gmp_seq.specs.Table.{is_ready_or_running, some_status}
use Rattle.gmp_seq.specs.declared.status.Goroutine.{Goroutine}
use Rattle.gmp_table.proofs.Listing.{any_counted}
use Rattle.gmp_table.proofs.table.StatusTable.has_going.Goals as goal

pub returns : goal.returns
returns c =
    c.any_going.ensures ∙ (sym (any_counted (λ (x : Goroutine). is_ready_or_running x.status) c.self.inside.rows)
    ∙ ap (λ v. some_status is_ready_or_running v.table) c.self.view_is)
