use Rattle.std.proofs.Common.{Some, sym, ap, subst, ◌∙◌}
use Rattle.std.proofs.lemmas.Option.{slice_get-get_or}
use Rattle.gmp_seq.specs.Table.{Table}
use Rattle.gmp_check.proofs.Firsts.{all_earlier, one_more_row}
use Rattle.gmp_check.specs.First.{IsFirstOf, IsOfferOn}
use Rattle.gmp_check.proofs.table.Table.first_on.Goals as goal

pub loop-g-preserved : goal.loop-g-preserved
loop-g-preserved c =
    let rows = c.deref-row-items.result.now in
    let t : Table = record { goroutines = rows; arrivals = c.args.self.now.arrivals; clock = c.args.self.now.clock } in
    let at = slice_get-get_or rows c.loop-g.g c.row-item.result c.loop-g-test.true ∙ ap Some (sym c.row-item.is) in
    rw c.sooner-first.ensures
    (one_more_row t c.args.c c.args.direction c.loop-g.g c.row-item.result c.loop-g.first c.first_at-of_g.result at c.loop-g.invariant c.first_at-of_g.ensures)

pub returns : goal.returns
returns c =
    let now = c.args.self.now in
    let rows = c.deref-row-items.result.now in
    let t : Table = record { goroutines = rows; arrivals = now.arrivals; clock = now.clock } in
    let are = c.deref-row-items.ensures.value ∙ ap (λ (x : Table). x.goroutines) c.self.view_is in
    subst (λ l. IsFirstOf (IsOfferOn (record { goroutines = l; arrivals = now.arrivals; clock = now.clock }) c.args.c c.args.direction) c.loop-g.first) are
    (all_earlier t c.args.c c.args.direction c.loop-g.g c.loop-g.first c.loop-g-test.false c.loop-g.invariant)
