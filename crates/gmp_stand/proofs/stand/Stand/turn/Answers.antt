use Rattle.std.proofs.Common.{ap, subst, sym, ◌∙◌}
use Rattle.gmp_acts.specs.Headline.{SameOpening}
use Rattle.gmp_fair.specs.Fair.{AllSteady}
use Rattle.gmp_core.proofs.Moves.{opened_on}
use Rattle.gmp_stand.specs.Standing.{Standing}
use Rattle.gmp_stand.specs.Turns.{Advances}
use Rattle.gmp_stand.proofs.Turning.{one_more}
use Rattle.gmp_stand.proofs.stand.Stand.turn.Goals as goal

pub loop-made-preserved : goal.loop-made-preserved
loop-made-preserved c =
    let far = c.loop-made.invariant in
    let new = c.advance.new.self in
    let same = c.end.ensures.same in
    let on = subst (λ (s : Standing). Advances c.args.m c.loop-made.made (record { core = s.core; handed = c.loop-made.handed }) (record { core = new.core; handed = c.advance.new.handed })) same c.advance.ensures.advances in
    record {
      far = one_more c.args.m c.loop-made.made _ _ _ far.far on;
      steady = λ steady. c.advance.ensures.steady (subst (λ (s : Standing). AllSteady s.core.system) (sym same) (far.steady steady));
      headline = c.advance.ensures.headline;
      awake = c.advance.ensures.awake;
      opened = opened_on _ _ _ far.opened (subst (λ (s : Standing). SameOpening s.core.system.book new.core.system.book) same c.advance.ensures.opened);
      piece = c.advance.ensures.piece ∙ (ap (λ (s : Standing). s.piece) same ∙ far.piece);
    }
