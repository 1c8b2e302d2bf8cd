use Rattle.std.proofs.Common.{◌≡◌, take}
use Rattle.gmp_history.proofs.history.History.of.Given as goal

abbrev pub invariant-loop-entry : goal.invariant-loop-entry
invariant-loop-entry l = l.history.list ≡ take l.entry-index l.entries
