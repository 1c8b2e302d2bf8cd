use Rattle.std.proofs.Common.{refl}
use Rattle.gmp_explain.specs.Spoken.{Would}
use Rattle.gmp_explain.proofs.Spoken.{element_told, one}
use Rattle.gmp_explain.proofs.telling.tell_cases.Goals as goal

pub loop-offer-preserved : goal.loop-offer-preserved
loop-offer-preserved g c =
    let told = g.S.Sink.told in
    element_told told _ c.loop-offer.offer-index _ (Would c.args.g) c.args.sink.now c.loop-offer.sink c.tell.new.self c.loop-offer-test.true c.loop-offer.invariant
    (one told c.loop-offer.sink c.tell.new.self _ c.in_ok-tell.ensures refl)
