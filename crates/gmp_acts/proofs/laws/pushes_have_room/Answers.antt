use Rattle.gmp_acts.proofs.Room.{push_has_room}
use Rattle.gmp_acts.proofs.laws.pushes_have_room.Goals as goal

pub returns : goal.returns
returns c = push_has_room
