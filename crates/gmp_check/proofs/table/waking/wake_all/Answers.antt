use Rattle.std.proofs.Common.{arith}
use Rattle.gmp_seq.specs.declared.status.Goroutine.{Goroutine}
use Rattle.gmp_seq.specs.Table.{woken_with}
use Rattle.gmp_check.proofs.Listed.{changed_at}
use Rattle.gmp_check.specs.Causes.{answer_for}
use Rattle.gmp_check.proofs.table.waking.wake_all.Goals as goal

pub loop-row-preserved : goal.loop-row-preserved
loop-row-preserved c =
    changed_at (λ (x : Goroutine). woken_with (answer_for c.args.cause x.status) x) c.args.rows.now c.loop-row.rows c.loop-row.row-index c.row-item.result c.wake.new.row
    c.loop-row.invariant (omega arith) c.wake.ensures
