use Rattle.std.proofs.Common.{◌≡◌, ◌+◌, drop, sum}
use Rattle.gmp_trace.proofs.start.begin.add_up.Given as goal

abbrev pub invariant-loop-count : goal.invariant-loop-count
invariant-loop-count l = l.made + sum (drop l.count-index l.counts) ≡ sum l.counts + l.rest
