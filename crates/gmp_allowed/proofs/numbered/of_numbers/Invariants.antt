use Rattle.gmp_allowed.specs.Tried.{AddsEach, Before, IsNamed}
use Rattle.gmp_allowed.proofs.numbered.of_numbers.Given as goal

-- those before k were added
abbrev pub invariant-loop-k : goal.invariant-loop-k
invariant-loop-k l = AddsEach (Before (IsNamed l.naming) l.k) l.initial.out.items l.out.items
