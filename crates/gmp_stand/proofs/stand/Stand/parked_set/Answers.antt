use Rattle.std.proofs.Common.{◌<◌, sym, ◌∙◌, arith}
use Rattle.gmp_stand.proofs.Bits.{one_off, one_on}
use Rattle.gmp_stand.proofs.stand.Stand.parked_set.Goals.{then-parked, else-parked}
use Rattle.gmp_stand.proofs.stand.Stand.parked_set.Goals as goal

pub loop-m-preserved : goal.loop-m-preserved
loop-m-preserved c =
    let m = c.loop-m.m in
    let within : m < 64 = (let below = c.loop-m-test.true in let end = c.loop-m.auto.m-end in omega (arith, below)) in
    elim c.if-parked.branch [
      | then-parked w ↦ rw w.set-is (one_on _ c.loop-m.set m within c.loop-m.invariant (sym c.parked.ensures ∙ w.if-parked.true))
      | else-parked w ↦ rw w.set-is (one_off _ c.loop-m.set m within c.loop-m.invariant (sym c.parked.ensures ∙ w.if-parked.false))
    ]
