use Rattle.std.proofs.Common.{Option, None, List, length, refl, subst, arith}
use Rattle.std.proofs.lemmas.Option.{slice_get_read, slice_get_within}
use Rattle.gmp_seq.specs.declared.status.Goroutine.{Goroutine}
use Rattle.gmp_table.specs.Due.{AreDue}
use Rattle.gmp_table.specs.declared.wake.Candidate.{Candidate}
use Rattle.gmp_table.specs.declared.wake.Wake.TheVariants.{Due}
use Rattle.gmp_table.specs.Waking.{IsFirst}
use Rattle.gmp_table.proofs.Timed.{due_first, due_none, row_of_due}
use Rattle.gmp_table.proofs.rows.Rows.due.Goals as goal

pub returns-in_err-soonest-clause-first : goal.returns-in_err-soonest-clause-first
returns-in_err-soonest-clause-first c =
    let rows = c.self.inside.list.items in
    let each = subst (AreDue rows) c.in_err-soonest.ensures.none c.self.invariant.each in
    let none : Option Candidate = None in
    rw c.from_residual.ensures (subst (λ (l : List Goroutine). IsFirst (Due c.args.now) l (length l) none) c.self.view_is (due_none rows each c.args.now))

pub index-row-requires : goal.index-row-requires
index-row-requires c =
    let rows = c.self.inside.list.items in
    let d = c.in_ok-soonest.soonest in
    let row = row_of_due rows d ((c.self.invariant.each d).0 c.in_ok-soonest.ensures.there) in
    let within = slice_get_within rows d.g.0 row.row row.at in
    omega (arith, within)

pub returns-clause-first : goal.returns-clause-first
returns-clause-first c =
    let rows = c.self.inside.list.items in
    let d = c.in_ok-soonest.soonest in
    let row = row_of_due rows d ((c.self.invariant.each d).0 c.in_ok-soonest.ensures.there) in
    let within = slice_get_within rows d.g.0 row.row row.at in
    let at = slice_get_read rows (length rows) d.g.0 c.index-row.result.now refl within c.index-row.ensures in
    let first = due_first rows _ c.self.invariant.each d c.in_ok-soonest.ensures.there c.in_ok-soonest.ensures.least c.args.now c.index-row.result.now at in
    subst (λ (l : List Goroutine). IsFirst (Due c.args.now) l (length l) c.due.result) c.self.view_is (rw c.due.ensures first)
