use Rattle.std.proofs.Common.{false, ◌≡◌, ◌+◌, length, ap, sym, ◌∙◌, arith, add-one}
use Rattle.std.proofs.lemmas.List.{take_all}
use Rattle.std.proofs.lemmas.Option.{unwrap_or-slice_get}
use Rattle.std.proofs.Math.Seq.{take-suc}
use Rattle.gmp_idle.proofs.Masks.{length-flags}
use Rattle.gmp_idle.proofs.small_set.SmallSet.to_vec.Goals as goal

pub loop-i-preserved : goal.loop-i-preserved
loop-i-preserved c =
    let xs = c.args.self.now in
    let i = c.loop-i.i in
    let size : length xs ≡ c.self.inside.size = ap length (sym c.self.view_is) ∙ length-flags c.self.inside.bits c.self.inside.size in
    let below = c.loop-i-test.true in
    record {
      items = c.push_reserved.ensures.items
          ∙ rw (c.loop-i.invariant.items, c.contains.ensures, unwrap_or-slice_get xs i false, add-one) (sym (take-suc xs i false (omega arith)));
      size = c.push_reserved.ensures.len ∙ ap (λ n. n + 1) c.loop-i.invariant.size;
      room = c.push_reserved.ensures.capacity ∙ c.loop-i.invariant.room;
    }

pub returns : goal.returns
returns c =
    let size : length c.args.self.now ≡ c.self.inside.size = ap length (sym c.self.view_is) ∙ length-flags c.self.inside.bits c.self.inside.size in
    let past = c.loop-i-test.false in
    c.loop-i.invariant.items ∙ take_all c.loop-i.i c.args.self.now (omega arith)
