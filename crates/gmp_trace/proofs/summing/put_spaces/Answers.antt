use Rattle.std.proofs.Common.{◌≡◌, ◌-◌, ◌∙◌, refl, sym, arith}
use Rattle.std.proofs.lemmas.List.{append-nil}
use Rattle.gmp_trace.proofs.Counting.{spaces_next}
use Rattle.gmp_trace.proofs.summing.put_spaces.Goals as goal

pub loop-init : goal.loop-init
loop-init c = let whole : c.args.n - 0 ≡ c.args.n = omega arith in rw whole refl

pub loop-preserved : goal.loop-preserved
loop-preserved c = rw c.in_ok-push.ensures.items (sym (spaces_next c.loop.out.items c.args.n c.loop.counter c.loop-test.true) ∙ c.loop.invariant)

pub returns : goal.returns
returns c = let none : c.args.n - c.loop.counter ≡ 0 = omega arith in rw (none, append-nil) at c.loop.invariant
