use Rattle.gmp_goroutines.proofs.Common.{Some, None, sym}
use Rattle.gmp_goroutines.proofs.Closing.{closes_first}
use Rattle.gmp_goroutines.proofs.goroutines.next_to_wake.Goals as goal

pub returns-in_err-w-in-Closed : goal.returns-in_err-w-in-Closed
returns-in_err-w-in-Closed c =
    rw (c.in-Closed.is, c.from_residual.ensures)
    (closes_first c.in-Closed.c c.args.table.now.table None c.requires.early (rw c.requires.same at (sym c.in_err-w-in-Closed.ensures)))

pub returns-in_ok-w-in-Closed : goal.returns-in_ok-w-in-Closed
returns-in_ok-w-in-Closed c =
    rw (c.in-Closed.is, c.closed_answer.ensures)
    (closes_first c.in-Closed.c c.args.table.now.table (Some c.in_ok-w-in-Closed.w) c.requires.early (rw c.requires.same at (sym c.in_ok-w-in-Closed.ensures)))
