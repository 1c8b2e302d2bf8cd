use Rattle.gmp_start.specs.Start.{state_of}
use Rattle.gmp_allowed.specs.Tried.{AddsEach, Before, IsOfCase}
use Rattle.gmp_allowed.proofs.dealing.of_select.Given as goal

-- what the cases before i could be answered was added
abbrev pub invariant-loop-i : goal.invariant-loop-i
invariant-loop-i l = AddsEach (Before (IsOfCase l.cases (state_of l.last)) l.i) l.initial.out.items l.out.items
