use Rattle.std.proofs.Common.{◌≡◌, ◌-◌, false, Option, Some, None, List, length, slice_get, All, IfSome, sym, ap, ◌∙◌, subst}
use Rattle.std.proofs.lemmas.Option.{get_or_from_slice_get}
use Rattle.gmp_table.specs.declared.deadlines.Deadline.{Deadline}
use Rattle.gmp_table.specs.Due.{is_sooner, IsLatestFirst}
use Rattle.gmp_table.proofs.Due.{last_least}
use Rattle.gmp_table.proofs.deadlines.Deadlines.least.Goals as goal

of_last : (list : List Deadline) (o : Option Deadline) → IsLatestFirst list → o ≡ slice_get list (length list - 1)
    → IfSome o (λ (d : Deadline). All (λ (x : Deadline). is_sooner x d ≡ false) list)
of_last list None ordered is = tt
of_last list (Some d) ordered is = last_least list d ordered (sym (get_or_from_slice_get list (length list - 1) d d (sym is)))

pub returns-clause-least : goal.returns-clause-least
returns-clause-least c =
    let ordered = subst IsLatestFirst (ap (λ v. v.list) c.self.view_is) c.self.invariant in
    let list = c.deref.ensures.value ∙ ap (λ v. v.list) c.self.view_is in
    of_last c.args.self.now.list c.copied.result ordered (c.copied.ensures ∙ (c.last.ensures.value ∙ ap (λ (l : List Deadline). slice_get l (length l - 1)) list))
