use Rattle.std.proofs.Common.{◌≡◌, ◌++◌, map, take, drop}
use Rattle.gmp_seq.specs.declared.status.Goroutine.{Goroutine}
use Rattle.gmp_seq.specs.Table.{woken_with}
use Rattle.gmp_check.specs.Causes.{answer_for}
use Rattle.gmp_check.proofs.table.waking.wake_all.Given as goal

-- those before the index were asked, and the others are as they were
abbrev pub invariant-loop-row : goal.invariant-loop-row
invariant-loop-row l =
    l.rows ≡ map (λ (x : Goroutine). woken_with (answer_for l.cause x.status) x) (take l.row-index l.initial.rows) ++ drop l.row-index l.initial.rows
