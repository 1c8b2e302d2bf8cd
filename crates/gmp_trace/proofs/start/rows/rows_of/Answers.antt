use Rattle.std.proofs.Common.{◌≡◌, ◌∙◌, ◌++◌, ◌∷◌, [], length, List, arith, sym, ap, subst}
use Rattle.std.proofs.lemmas.List.{length-append}
use Rattle.gmp_seq.specs.declared.status.Goroutine.{Goroutine}
use Rattle.gmp_trace.proofs.StartPushing.{rows_more}
use Rattle.gmp_trace.specs.StartNext.{AreRows}
use Rattle.gmp_trace.proofs.start.rows.rows_of.Goals as goal

pub loop-count-preserved : goal.loop-count-preserved
loop-count-preserved c =
    let items : c.push.new.self.items ≡ c.loop-count.rows.items ++ c.in-Some.row ∷ [] = c.in_ok-push.ensures.items in
    let many = c.loop-count.invariant.1 in (
      subst (λ (xs : List Goroutine). AreRows c.args.limits c.args.bodies c.args.channels c.args.text.now xs c.in-Some.more.now) (sym items)
          (rows_more c.args.limits c.args.bodies c.args.channels c.loop-count.count c.args.text.now c.loop-count.rows.items c.loop-count.rest.now c.in-Some.row c.in-Some.more.now
          c.loop-count.invariant.0 many (rw c.in-Some.is at c.in_ok-row.ensures)),
      ap length items ∙ length-append c.loop-count.rows.items (c.in-Some.row ∷ []) ∙ omega (arith, many),
    )
