use Rattle.gmp_check.proofs.Firsts.{IsEarlierOn}
use Rattle.gmp_check.specs.First.{IsFirstOf}
use Rattle.gmp_check.proofs.table.Table.first_on.Given as goal

-- the first of the offers of those before the index
abbrev pub invariant-loop-g : goal.invariant-loop-g
invariant-loop-g l = IsFirstOf (IsEarlierOn (record { goroutines = l.row-items; arrivals = l.self.arrivals; clock = l.self.clock }) l.c l.direction l.g) l.first
