use Rattle.std.proofs.Common.{ap, ◌∙◌, ◌++◌, ◌∷◌, [], List, ℕ}
use Rattle.gmp_base.specs.declared.number.GNo.{GNo}
use Rattle.gmp_base.specs.Values.{readiness_of}
use Rattle.gmp_queue.specs.Ends.{owner_view}
use Rattle.gmp_queue.proofs.Closes.{drains_more, nearer}
use Rattle.gmp_queue.proofs.closing.drain.Goals as goal

pub loop-owner-smaller : goal.loop-owner-smaller
loop-owner-smaller c = nearer (owner_view c.loop-owner.owner) (owner_view c.pop.new.self) (readiness_of c.in-Some.ticket) c.in-Some.ensures.step.1

pub loop-owner-preserved : goal.loop-owner-preserved
loop-owner-preserved c =
    let inv = c.loop-owner.invariant in
    let got = c.in-Some.ensures in record {
      same = (got.same.0.0 ∙ inv.same.0, got.same.0.1 ∙ inv.same.1);
      drains = drains_more (owner_view c.args.owner.now) (owner_view c.loop-owner.owner) (owner_view c.pop.new.self) c.args.out.now.items c.loop-owner.out.items c.push_reserved.new.self.items (readiness_of c.in-Some.ticket) inv.drains got.step.1
          (c.push_reserved.ensures.items
          ∙ ap (λ (l : List (GNo × ℕ)). l ++ (c.open-epoch.result.1, c.open-epoch.result.2) ∷ []) c.in_ok-reserve.ensures.items
          ∙ ap (λ (parts : ℕ × GNo × ℕ). c.loop-owner.out.items ++ (parts.1, parts.2) ∷ []) c.open-epoch.ensures);
    }
