use Rattle.gmp_allowed.specs.Tried.{AddsEach, Before, IsServed}
use Rattle.gmp_allowed.proofs.dealing.of_waiters.Given as goal

-- what serves the goroutines before g was added
abbrev pub invariant-loop-g : goal.invariant-loop-g
invariant-loop-g l = AddsEach (Before (IsServed l.i l.c l.direction l.first l.rows) l.g) l.initial.out.items l.out.items
