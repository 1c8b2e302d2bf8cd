use Rattle.std.proofs.Common.{◌≡◌, Some, arith}
use Rattle.gmp_seq.specs.declared.call.Reply.{Reply}
use Rattle.gmp_allowed.specs.Tried.{IsOfRow}
use Rattle.gmp_allowed.proofs.Adding.{all_added, next_added, none_before}
use Rattle.gmp_allowed.proofs.Tries.{row_given}
use Rattle.gmp_allowed.proofs.replies.of_rows.Goals as goal

pub loop-g-init : goal.loop-g-init
loop-g-init c = none_before (IsOfRow c.args.m c.args.call.now c.args.rows.now) c.args.out.now.items

pub loop-g-preserved : goal.loop-g-preserved
loop-g-preserved c =
    let P = IsOfRow c.args.m c.args.call.now c.args.rows.now in
    next_added P (λ (r : Reply). c.of_row.result ≡ Some r) c.loop-g.g c.args.out.now.items c.loop-g.out.items c.add_some.new.out.items c.loop-g.invariant c.in_ok-add_some.ensures
    (λ x is. row_given c.args.m c.args.call.now c.args.rows.now c.loop-g.g c.goroutine_at.result c.index-rows-g.result c.of_row.result x c.loop-g-test.true c.index-rows-g.is c.goroutine_at.ensures c.of_row.ensures is)

pub returns : goal.returns
returns c = all_added (IsOfRow c.args.m c.args.call.now c.args.rows.now) _ c.loop-g.g c.args.out.now.items c.loop-g.out.items (omega arith) c.loop-g.invariant
