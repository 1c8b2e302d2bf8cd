use Rattle.std.proofs.Common.{◌≡◌, arith}
use Rattle.gmp_core.proofs.Rings.{empty}
use Rattle.gmp_core.proofs.queues.Queues.open.Goals as goal

pub returns : goal.returns
returns c =
    let all : c.loop-number._number ≡ c.args.procs = omega arith in
    rw (c.loop-number.invariant.rings, all, empty c.args.procs c.args.room)
