use Rattle.std.proofs.Common.{sym, ap, ◌∙◌, subst}
use Rattle.gmp_seq.specs.Table.{least_of}
use Rattle.gmp_table.specs.Due.{AreDue}
use Rattle.gmp_table.proofs.Timed.{least_is, least_none}
use Rattle.gmp_table.proofs.rows.Rows.least_deadline.Goals as goal

pub returns-in_err-least : goal.returns-in_err-least
returns-in_err-least c =
    let rows = c.self.inside.list.items in
    let each = subst (AreDue rows) c.in_err-least.ensures.none c.self.invariant.each in
    c.from_residual.ensures ∙ (sym (least_none rows each) ∙ ap least_of c.self.view_is)

pub returns : goal.returns
returns c =
    least_is c.self.inside.list.items _ c.self.invariant.each c.in_ok-least.field-0 c.in_ok-least.ensures.there c.in_ok-least.ensures.least
    ∙ ap least_of c.self.view_is
