use Rattle.gmp_allowed.specs.Tried.{AddsEach, Before, IsOfRow}
use Rattle.gmp_allowed.proofs.replies.of_rows.Given as goal

-- those of the goroutines before g were added
abbrev pub invariant-loop-g : goal.invariant-loop-g
invariant-loop-g l = AddsEach (Before (IsOfRow l.m l.call l.rows) l.g) l.initial.out.items l.out.items
