use Rattle.std.proofs.Common.{◌≡◌, arith, refl}
use Rattle.gmp_trace.specs.Summary.{names}
use Rattle.gmp_trace.proofs.summing.call_name.Goals as goal

pub returns-in_default : goal.returns-in_default
unfolding names
returns-in_default c = let last : c.args.place ≡ 29 = omega arith in rw last refl
