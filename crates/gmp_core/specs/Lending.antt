-- What a core ends as, once the body in hand was lent.
use Rattle.std.specs.Prelude.{Option}
use Rattle.std.specs.Borrow.{Fml, LendsIf, MutBor, RattleType}
use Rattle.gmp_base.specs.declared.number.MNo.{MNo}
use Rattle.gmp_core.specs.Whole.{Whole, with_body_in_hand}
use Rattle.gmp_core.specs.contracts.engine.Core.{the_row}

-- once the borrow r ends, machine m has in hand the last body written through r; where none was lent nothing changes
abbrev pub lends_body : (T : RattleType) → MutBor (Whole T.Denot) → MNo → Option (MutBor T.Denot) → Fml
lends_body T k m r = LendsIf (the_row T) T k r (with_body_in_hand k.now m) k.now
