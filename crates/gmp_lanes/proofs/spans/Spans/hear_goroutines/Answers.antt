use Rattle.std.proofs.Common.{◌≡◌, Some, arith, length, refl, slice_get}
use Rattle.std.proofs.lemmas.Option.{slice_get_read}
use Rattle.gmp_lanes.proofs.Shown.{shown_more}
use Rattle.gmp_lanes.proofs.spans.Spans.hear_goroutines.Goals as goal

pub loop-g-preserved : goal.loop-g-preserved
loop-g-preserved c =
    let rows = c.args.rows.now in
    let row = c.index-rows-g.result in
    let there : slice_get rows c.loop-g.g ≡ Some row = slice_get_read rows (length rows) c.loop-g.g row refl c.loop-g-test.true c.index-rows-g.is in
    let longer = c.in_ok-reach.ensures.longer in
    let same = c.in_ok-note.ensures.length in
    record {
      shown =
          shown_more _ c.reach.new.self.current.items _ rows c.loop-g.g row c.loop-g.invariant.shown c.in_ok-reach.ensures.others c.in_ok-note.ensures.others there
          c.in_ok-note.ensures.now;
      room = omega (arith, longer, same);
    }
