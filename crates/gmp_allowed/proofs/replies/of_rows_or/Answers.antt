use Rattle.std.proofs.Common.{length}
use Rattle.gmp_allowed.specs.Tried.{Before, IsOfRow}
use Rattle.gmp_allowed.proofs.Adding.{one_added}
use Rattle.gmp_allowed.proofs.Results.{on_ok}
use Rattle.gmp_allowed.proofs.replies.of_rows_or.Goals as goal

pub returns : goal.returns
returns c =
    let a = c.args in
    on_ok c.add.result
    (one_added (Before (IsOfRow a.m a.call.now a.rows.now) (length a.rows.now)) a.out.now.items c.of_rows.new.out.items c.add.new.out.items a.none c.in_ok-of_rows.ensures) c.add.ensures
