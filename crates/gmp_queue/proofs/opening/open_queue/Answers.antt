use Rattle.std.proofs.Common.{List, ◌≡◌, ◌≢◌, ℕ, ◌<◌, ◌-◌, ◌++◌, ◌∷◌, [], true, arith, ap, ◌∙◌, length, get_or, get_or-set_other, rules}
use Rattle.std.specs.Global.{Vec}
use Rattle.gmp_queue.specs.declared.ends.Thief.{Thief}
use Rattle.gmp_queue.specs.Queue.{all_parts, view_with, kept}
use Rattle.gmp_queue.proofs.Opens.{adds_one, one_less, same_entry}
use Rattle.gmp_queue.proofs.opening.open_queue.Goals as goal

pub loop-row-preserved : goal.loop-row-preserved
loop-row-preserved c =
    let inv = c.loop-row.invariant in
    let got = c.in_ok-thief.ensures in
    let at : ℕ = c.loop-row.row-index in
    let was : List (Vec Thief) = c.args.rows.now in
    let lt : at < length c.loop-row.rows = omega arith in
    let here : (d : Vec Thief) → c.push.new.self.items ≡ (get_or was at d).items ++ c.in_ok-thief.field-0 ∷ [] =
    λ d. c.in_ok-push.ensures.items ∙ ap (λ (v : Vec Thief). v.items ++ c.in_ok-thief.field-0 ∷ []) (inv.undone at c.row-item.result (omega arith) ∙ same_entry was at c.row-item.result d (omega arith)) in record {
      run = got.same.0 ∙ inv.run;
      view_with = got.thief.2 ∙ ap kept inv.view_with ∙ one_less at;
      done = adds_one c.loop-row.owner c.thief.new.self was c.loop-row.rows at c.push.new.self c.in_ok-thief.field-0 got.same lt inv.done here (got.thief.0, got.thief.1);
      undone = λ k d le. (let ne : k ≢ at = (λ e. omega arith) in get_or-set_other c.loop-row.rows at k c.push.new.self d ne ∙ inv.undone k d (omega arith));
    }

pub returns : goal.returns
returns c =
    let inv = c.loop-row.invariant in
    let all : c.loop-row.row-index ≡ length c.args.rows.now = omega arith in (
      (inv.run, inv.view_with ∙ ap (λ (n : ℕ). view_with true (all_parts - n) [] []) all),
      λ k d lt. inv.done k d (omega arith),
    )

pub invariant_of-owner : goal.invariant_of-owner
invariant_of-owner c = search rules
