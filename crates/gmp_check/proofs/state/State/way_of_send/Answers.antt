use Rattle.std.proofs.Common.{sym, ap, ◌∙◌}
use Rattle.gmp_seq.specs.Channels.{has_room, is_closed}
use Rattle.gmp_seq.specs.State.{State}
use Rattle.gmp_check.proofs.Going.{way_stored}
use Rattle.gmp_check.proofs.state.State.way_of_send.Goals as goal

pub returns-in-None : goal.returns-in-None
returns-in-None c v =
    let open_ = ap (λ (s : State). is_closed s.channels c.args.c) (sym c.self.view_is) ∙ sym c.is_closed.ensures ∙ c.if-is_closed.false in
    let room = ap (λ (s : State). has_room s.channels c.args.c) (sym c.self.view_is) ∙ sym c.has_room.ensures ∙ c.if-has_room.true in
    way_stored c.args.self.now c.args.c v open_ (sym c.first_on.ensures ∙ c.in-None.is) room
