use Rattle.std.proofs.Common.{◌≡◌}
use Rattle.gmp_host.proofs.told.copied.Given as goal

-- the entries so far
abbrev pub invariant-loop-entry : goal.invariant-loop-entry
invariant-loop-entry l = l.copy.list ≡ l.yielded
