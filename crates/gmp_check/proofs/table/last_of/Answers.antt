use Rattle.std.proofs.Common.{◌≡◌, Some, sym, ap, ◌∙◌, arith}
use Rattle.std.proofs.lemmas.Option.{slice_get-get_or}
use Rattle.std.specs.List.{slice_get}
use Rattle.gmp_start.specs.Start.{table_of}
use Rattle.gmp_check.proofs.Beginning.{held_within, last_next}
use Rattle.gmp_check.proofs.table.last_of.Goals as goal

pub loop-g-preserved : goal.loop-g-preserved
loop-g-preserved c =
    let i = c.loop-g.g in
    let row = c.row-item.result in
    let items = c.deref-row-items.result.now in
    let at : slice_get c.args.start.now.goroutines.items i ≡ Some row =
    ap (λ l. slice_get l i) (sym c.deref-row-items.ensures.value) ∙ slice_get-get_or items i row c.loop-g-test.true ∙ ap Some (sym c.row-item.is) in
    last_next (table_of c.args.start.now) c.loop-g.last c.come.new.last i row (record { 0 = i }) c.requires.one (omega arith) at c.come.ensures.here c.come.ensures.there c.loop-g.invariant

pub returns : goal.returns
returns c m g held =
    let within = held_within (table_of c.args.start.now) g m held in
    c.loop-g.invariant m g (omega (arith, within, c.loop-g-test.false, c.deref-row-items.ensures.len, ap (λ l. Rattle.std.proofs.Common.length l) c.deref-row-items.ensures.value)) held
