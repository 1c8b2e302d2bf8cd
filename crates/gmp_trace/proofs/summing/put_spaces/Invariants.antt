use Rattle.std.proofs.Common.{◌≡◌, ◌++◌, ◌-◌, replicate}
use Rattle.gmp_trace.proofs.summing.put_spaces.Given as goal

abbrev pub invariant-loop : goal.invariant-loop
invariant-loop l = l.out.items ++ replicate (l.n - l.counter) 32 ≡ l.fn.out.items ++ replicate l.n 32
