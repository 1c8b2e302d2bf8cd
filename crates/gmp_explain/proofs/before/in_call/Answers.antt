use Rattle.std.proofs.Common.{◌<◌, ◌^◌, arith}
use Rattle.gmp_start.specs.Start.{table_of}
use Rattle.gmp_explain.proofs.Places.{calling_there}
use Rattle.gmp_explain.proofs.before.in_call.Goals as goal

pub returns-in-Some-clause-some : goal.returns-in-Some-clause-some
returns-in-Some-clause-some c =
    let t = table_of c.args.last.now in
    let n = c.in-Some.g in
    let within = c.in-Some.ensures.within in
    let few = c.requires in
    let small : n < 2 ^ 16 = omega (arith, within, few) in
    calling_there t c.args.m n c.goroutine_at.result (c.goroutine_at.ensures small) c.in-Some.ensures.some
