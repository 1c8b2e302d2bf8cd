use Rattle.std.proofs.Common.{◌≡◌, None, nat_lt, length, ap, refl, sym, ◌∙◌, slice_get}
use Rattle.gmp_seq.specs.Table.{set_status}
use Rattle.gmp_seq.specs.declared.status.TicketPlace.TheVariants.{Out, Shelf}
use Rattle.gmp_seq.specs.declared.status.Status.TheVariants.{Ready}
use Rattle.gmp_table.specs.Contents.{epoch_in}
use Rattle.gmp_table.proofs.Moves.{some_on_shelf, empty_of, top_is_shelved, top_popped, moved_so, top_turned}
use Rattle.gmp_table.proofs.table.StatusTable.unshelve.Goals as goal

pub returns-in_err-g-clause-none : goal.returns-in_err-g-clause-none
returns-in_err-g-clause-none c =
    let rows = ap (λ v. v.table.goroutines) c.self.view_is in
    let none : slice_get c.self.inside.shelf.items 0 ≡ None = sym c.pop_front.ensures.value ∙ c.in_err-g.was in
    let nobody = some_on_shelf c.self.inside.rows _ _ c.self.invariant ∙ ap (λ xs. nat_lt 0 (length xs)) (empty_of c.self.inside.shelf.items none) in
    rw c.from_residual.ensures (rw (← rows) nobody, ap (λ v. v.table) c.self.view_is)

pub move_ticket-requires : goal.move_ticket-requires
move_ticket-requires c =
    let first = sym c.pop_front.ensures.value ∙ c.in_ok-g.was in
    let top = top_is_shelved c.self.inside.rows c.self.inside.shelf.items _ c.in_ok-g.g c.self.invariant first in
    rw top.at refl

pub invariant_of-self-2 : goal.invariant_of-self-2
invariant_of-self-2 c =
    let first = sym c.pop_front.ensures.value ∙ c.in_ok-g.was in
    let top = top_is_shelved c.self.inside.rows c.self.inside.shelf.items _ c.in_ok-g.g c.self.invariant first in
    let moved = moved_so c.self.inside.rows c.in_ok-g.g Out Shelf top.answer top.epoch top.at _ c.move_ticket.ensures in
    rw (moved, c.pop_front.ensures.items) (top_popped c.self.inside.rows c.self.inside.shelf.items _ c.in_ok-g.g
    (record { status = Ready Out top.answer; epoch = epoch_in c.self.inside.rows c.in_ok-g.g }) c.self.invariant first refl)

pub returns-clause-taken : goal.returns-clause-taken
returns-clause-taken c =
    let first = sym c.pop_front.ensures.value ∙ c.in_ok-g.was in
    let top = top_is_shelved c.self.inside.rows c.self.inside.shelf.items _ c.in_ok-g.g c.self.invariant first in
    let moved = moved_so c.self.inside.rows c.in_ok-g.g Out Shelf top.answer top.epoch top.at _ c.move_ticket.ensures in
    let epoch = c.epoch.ensures ∙ top_turned c.self.inside.rows c.in_ok-g.g c.move_ticket.new.self _ top moved in
    let rows = ap (λ v. v.table.goroutines) c.self.view_is in
    (top.answer, rw (← rows, epoch) top.at, rw moved (ap (λ v. set_status v.table c.in_ok-g.g (Ready Out top.answer)) c.self.view_is))
