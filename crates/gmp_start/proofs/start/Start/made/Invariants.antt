use Rattle.std.proofs.Common.{◌≡◌, ◌+◌, drop, sum}
use Rattle.gmp_start.proofs.start.Start.made.Given as goal

abbrev pub invariant-loop-count : goal.invariant-loop-count
invariant-loop-count l = l.made + sum (drop l.count-index l.count-items) ≡ sum l.self.counts.items
