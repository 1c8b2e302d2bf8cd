use Rattle.gmp_allowed.specs.Tried.{AddsEach, Before, IsEntered}
use Rattle.gmp_allowed.proofs.numbered.of_enter.Given as goal

-- those by processors before p were added
abbrev pub invariant-loop-p : goal.invariant-loop-p
invariant-loop-p l = AddsEach (Before (IsEntered l.m l.machines l.holders) l.p) l.initial.out.items l.out.items
