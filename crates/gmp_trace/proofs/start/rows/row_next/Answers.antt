use Rattle.std.proofs.Common.{rules, arith, sym, subst}
use Rattle.gmp_seq.specs.declared.status.Goroutine.{Goroutine}
use Rattle.gmp_trace.specs.StartForms.{FitsStatus}
use Rattle.gmp_trace.proofs.start.rows.row_next.Goals as goal

pub returns-in_default : goal.returns-in_default
returns-in_default c g x more (six, at, less, epoch, fits) is =
    let some = c.in_ok-g.ensures.only g c.args.limits.machines c.args.channels x more (omega (arith, less, c.ranges.bodies.fits)) c.requires.machines c.requires.channels epoch fits is in
    search (rules, some)

pub returns-then-g-count : goal.returns-then-g-count
returns-then-g-count c g x more (six, at, less, epoch, fits) is =
    let some = rw c.in-Some.is at (c.in_ok-g.ensures.only g c.args.limits.machines c.args.channels x more (omega (arith, less, c.ranges.bodies.fits)) c.requires.machines c.requires.channels epoch fits is) in
    search (rules, some.0, at, c.if-g-count.true)

pub returns-in_default-right_row : goal.returns-in_default-right_row
returns-in_default-right_row c g x more (six, at, less, epoch, fits) is =
    let some = rw c.in-Some.is at (c.in_ok-g.ensures.only g c.args.limits.machines c.args.channels x more (omega (arith, less, c.ranges.bodies.fits)) c.requires.machines c.requires.channels epoch fits is) in
    c.in_default-right_row.ensures (subst (λ (r : Goroutine). FitsStatus c.args.limits.machines c.args.channels r.status) (sym some.1) fits)
