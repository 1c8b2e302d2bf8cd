use Rattle.std.proofs.Common.{rules}
use Rattle.gmp_check.proofs.state.State.can.Goals as goal

pub returns-else-has_room : goal.returns-else-has_room
returns-else-has_room c = search rules
