use Rattle.std.proofs.Common.{[], ◌∷◌, ◌++◌, ap, refl, ◌∙◌}
use Rattle.gmp_seq.specs.Table.{set_status}
use Rattle.gmp_seq.specs.declared.status.TicketPlace.TheVariants.{Out, Shelf}
use Rattle.gmp_seq.specs.declared.status.Status.TheVariants.{Ready}
use Rattle.gmp_table.proofs.Moves.{moved_so, off_pushed, off_room, given_out, out_off}
use Rattle.gmp_table.proofs.table.StatusTable.shelve.Goals as goal

pub move_ticket-requires : goal.move_ticket-requires
move_ticket-requires c =
    let rows = ap (λ v. v.table.goroutines) c.self.view_is in
    let out = given_out c.self.inside.rows c.args.r (rw rows c.requires) in
    rw out.at refl

pub invariant_of-self : goal.invariant_of-self
invariant_of-self c =
    let rows = ap (λ v. v.table.goroutines) c.self.view_is in
    let out = given_out c.self.inside.rows c.args.r (rw rows c.requires) in
    let moved = moved_so c.self.inside.rows c.args.r.g Shelf Out out.answer c.args.r.epoch out.at _ c.move_ticket.ensures in
    rw (moved, c.push_back.ensures.items) (off_pushed c.self.inside.rows c.args.r.g _ _ _ c.self.invariant (out_off c.self.inside.rows c.args.r out) refl)

pub returns-clause-puts : goal.returns-clause-puts
returns-clause-puts c =
    let rows = ap (λ v. v.table.goroutines) c.self.view_is in
    let out = given_out c.self.inside.rows c.args.r (rw rows c.requires) in
    let moved = moved_so c.self.inside.rows c.args.r.g Shelf Out out.answer c.args.r.epoch out.at _ c.move_ticket.ensures in
    (out.answer, rw (← rows) out.at, rw moved (ap (λ v. set_status v.table c.args.r.g (Ready Shelf out.answer)) c.self.view_is))

pub returns-clause-last : goal.returns-clause-last
returns-clause-last c =
    let rows = ap (λ v. v.table.goroutines) c.self.view_is in
    let off = out_off c.self.inside.rows c.args.r (given_out c.self.inside.rows c.args.r (rw rows c.requires)) in
    ap (λ b. b.items) c.push_back.ensures.items ∙ (off_room c.self.inside.rows c.args.r.g _ _ c.self.invariant off ∙ ap (λ v. v.shelf ++ c.args.r.g ∷ []) c.self.view_is)
