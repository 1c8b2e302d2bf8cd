use Rattle.std.proofs.Common.{rules, tests, arith, Bool, None, ltb, get_or, refl, ap, ◌∙◌}
use Rattle.std.proofs.lemmas.Iterator.{YieldsList-from_range}
use Rattle.std.proofs.lemmas.Iterator.Search.{all_from_yields_List}
use Rattle.gmp_seq.specs.declared.status.Waiter.{Waiter}
use Rattle.gmp_chan.specs.Order.{is_later}
use Rattle.gmp_chan.specs.Contents.{WaiterContents}
use Rattle.gmp_chan.proofs.Goroutines.{all_slots}
use Rattle.gmp_chan.proofs.Ordered.{list_all-in_order, vacant_or}
use Rattle.gmp_chan.proofs.waiters.Waiters.is_later.Goals as goal

pub returns : goal.returns
returns c =
    let before : Waiter → Bool = λ w. ltb w.arrival c.args.arrival in
    let slots = c.self.inside.store.records.slots in
    all_from_yields_List (λ k. vacant_or before (get_or slots k None)) _ _ c.all.result c.all.ensures.ran (YieldsList-from_range 0 _ c.capacity.result refl (omega arith)) (λ x b q k. search (rules, tests))
    ∙ (all_slots before slots c.capacity.result c.capacity.ensures.slots ∙ (list_all-in_order before slots ∙ ap (λ (v : WaiterContents). is_later c.args.arrival v.list) c.self.view_is))
