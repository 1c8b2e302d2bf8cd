use Rattle.std.proofs.Common.{◌≡◌, ◌++◌, drop}
use Rattle.gmp_check.proofs.cut.add_from.Given as goal

-- the entries from the first to the index are added
abbrev pub invariant-loop-i : goal.invariant-loop-i
invariant-loop-i l = l.history.list ++ drop l.i l.entries.list ≡ l.initial.history.list ++ drop l.first l.entries.list
