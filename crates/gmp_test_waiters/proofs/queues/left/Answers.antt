use Rattle.std.proofs.Common.{List, [], ◌∷◌, ◌++◌, sym, subst, ap, ◌∙◌}
use Rattle.gmp_queue.specs.declared.ends.Thief.{Thief}
use Rattle.gmp_queue.specs.Ends.{AreTheEnds}
use Rattle.gmp_test_waiters.proofs.queues.left.Goals as goal

pub close-requires : goal.close-requires
close-requires c =
    subst (λ (l : List Thief). AreTheEnds c.args.owner l) (sym (c.push_reserved-2.ensures.items
    ∙ ap (λ (l : List Thief). l ++ c.args.second ∷ []) (c.push_reserved.ensures.items ∙ ap (λ (l : List Thief). l ++ c.args.first ∷ []) (c.reserve.ensures.items ∙ c.new-thieves.ensures.items)))) c.requires
