use Rattle.std.proofs.Common.{◌≡◌, length, refl, ap}
use Rattle.std.proofs.lemmas.Option.{slice_get_read, slice_get_within}
use Rattle.gmp_seq.specs.declared.status.Goroutine.{Goroutine}
use Rattle.gmp_seq.specs.declared.status.Status.TheVariants.{Ready}
use Rattle.gmp_table.proofs.Timed.{HasTicket, moved_is, same_row, ticket_moved, ticket_of}
use Rattle.gmp_table.proofs.rows.Rows.move_ticket.Goals as goal

pub invariant_of-self : goal.invariant_of-self
invariant_of-self c =
    let rows = c.self.inside.list.items in
    let t : HasTicket rows c.args.g = rw c.self.view_is (ticket_of _ c.args.g c.requires) in
    let within = slice_get_within rows c.args.g.0 _ t.at in
    let at = slice_get_read rows (length rows) c.args.g.0 c.index_mut.result.now refl within c.index_mut.ensures.value in
    let same = same_row rows c.args.g t c.index_mut.result.now at in
    let status : c.set_place.new.status ≡ Ready c.args.to t.answer = c.set_place.ensures t.place t.answer (ap (λ (x : Goroutine). x.status) same) in
    let epoch : c.index_mut.result.now.epoch ≡ t.epoch = ap (λ (x : Goroutine). x.epoch) same in
    rw (status, epoch) (ticket_moved rows c.args.g c.args.to t _ _ _ _ _ c.self.invariant)

pub returns : goal.returns
returns c =
    let rows = c.self.inside.list.items in
    let t : HasTicket rows c.args.g = rw c.self.view_is (ticket_of _ c.args.g c.requires) in
    let within = slice_get_within rows c.args.g.0 _ t.at in
    let at = slice_get_read rows (length rows) c.args.g.0 c.index_mut.result.now refl within c.index_mut.ensures.value in
    let same = same_row rows c.args.g t c.index_mut.result.now at in
    let status : c.set_place.new.status ≡ Ready c.args.to t.answer = c.set_place.ensures t.place t.answer (ap (λ (x : Goroutine). x.status) same) in
    let epoch : c.index_mut.result.now.epoch ≡ t.epoch = ap (λ (x : Goroutine). x.epoch) same in
    moved_is rows c.args.g c.args.to t _ _ status epoch _ c.self.view_is
