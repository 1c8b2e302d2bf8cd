use Rattle.gmp_idle.proofs.Masks.{flags_none}
use Rattle.gmp_idle.proofs.small_set.SmallSet.none.Goals as goal

pub returns : goal.returns
returns c = flags_none c.args.size
