use Rattle.std.proofs.Common.{arith}
use Rattle.std.proofs.lemmas.List.{length-set}
use Rattle.gmp_check.proofs.Last.{come_here, come_there}
use Rattle.gmp_check.proofs.table.come.Goals as goal

pub returns-in-Some-clause-here : goal.returns-in-Some-clause-here
returns-in-Some-clause-here c =
    come_here c.args.last.now c.args.g c.args.status.now c.from.result c.in-Some.m c.machine_of.result c.machine_of.ensures c.in-Some.is c.from.ensures
    (omega (arith, length-set c.args.last.now c.from.result c.args.g, c.from.array_long, c.from.ensures))

pub returns-in-Some-clause-there : goal.returns-in-Some-clause-there
returns-in-Some-clause-there c =
    come_there c.args.last.now c.args.g c.args.status.now c.from.result c.in-Some.m c.machine_of.result c.machine_of.ensures c.in-Some.is c.from.ensures

pub returns-in_default-clause-here : goal.returns-in_default-clause-here
returns-in_default-clause-here c m at = absurd (c.in_default.not-Some m ((c.machine_of.ensures m).0 at))
