use Rattle.std.proofs.Common.{[], ◌∷◌, arith, sym, ◌∙◌}
use Rattle.gmp_allowed.specs.Tried.{IsNamed}
use Rattle.gmp_allowed.proofs.Adding.{added, all_added, next_added, none_before}
use Rattle.gmp_allowed.proofs.numbered.of_numbers.Goals as goal

pub loop-k-init : goal.loop-k-init
loop-k-init c = none_before (IsNamed c.args.naming) c.args.out.now.items

pub loop-k-preserved : goal.loop-k-preserved
loop-k-preserved c =
    let r = c.named.result in
    next_added (IsNamed c.args.naming) (IsNamed c.args.naming c.loop-k.k) c.loop-k.k c.args.out.now.items c.loop-k.out.items c.add.new.out.items c.loop-k.invariant
    (added (IsNamed c.args.naming c.loop-k.k) c.loop-k.out.items c.add.new.out.items (r ∷ []) c.in_ok-add.ensures
    (λ x is. (0, omega arith, c.named.ensures is.0 ∙ sym is.1)))
    (λ x is. is)

pub returns : goal.returns
returns c = all_added (IsNamed c.args.naming) c.args.n c.loop-k.k c.args.out.now.items c.loop-k.out.items (omega arith) c.loop-k.invariant
