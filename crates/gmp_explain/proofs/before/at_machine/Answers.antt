use Rattle.std.proofs.Common.{◌<◌, ◌^◌, arith}
use Rattle.gmp_start.specs.Start.{table_of}
use Rattle.gmp_explain.proofs.Places.{one_calls, running_there}
use Rattle.gmp_explain.proofs.before.at_machine.Goals as goal

pub returns-in-Some : goal.returns-in-Some
returns-in-Some c =
    let t = table_of c.args.last.now in
    let n = c.in-Some.g in
    let within = c.in-Some.ensures.within in
    let few = c.requires in
    let small : n < 2 ^ 16 = omega (arith, within, few) in
    running_there t c.args.m n c.goroutine_at.result (c.goroutine_at.ensures small) c.in-Some.ensures.some

pub returns-in-None : goal.returns-in-None
returns-in-None c = one_calls (table_of c.args.last.now) c.args.m c.in_call.result c.in-None.ensures.none c.in_call.ensures.some c.in_call.ensures.none
