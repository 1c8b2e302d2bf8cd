use Rattle.std.proofs.Common.{◌≡◌, ◌%◌, length, slice_get, rules, tests, refl, sym, ap, ◌∙◌}
use Rattle.std.proofs.lemmas.Iterator.{YieldsList-from_range}
use Rattle.std.proofs.lemmas.Iterator.Adapters.{option_map_id}
use Rattle.std.proofs.lemmas.Iterator.Consumers.{YieldsList-at, YieldsList-from_filter, count_from_yields_List, nth_from_yields_List}
use Rattle.gmp_select.specs.Choosing.{is_set, passing, pick}
use Rattle.gmp_select.proofs.Picking.{no_pick, none_where_none_set}
use Rattle.gmp_select.proofs.choosing.choose.Goals as goal

counted-then : (c : goal.Then-count-eq0) → c.count-count.result ≡ length (passing (is_set c.args.bits))
counted-then c =
    count_from_yields_List _ _ c.count-count.ensures.ran
    (YieldsList-from_filter _ (is_set c.args.bits) (YieldsList-at c.filter.ensures.source (YieldsList-from_range 0 8 8 refl refl)) c.filter.ensures.closure (λ x b q k. search (rules, tests)))

chosen : (c : goal.After-nth) → c.nth.result ≡ pick (is_set c.args.bits) c.args.word
chosen c =
    let test = is_set c.args.bits in
    let count = count_from_yields_List _ _ c.count-count.ensures.ran
    (YieldsList-from_filter _ test (YieldsList-at c.filter.ensures.source (YieldsList-from_range 0 8 8 refl refl)) c.filter.ensures.closure (λ x b q k. search (rules, tests))) in
    let item = nth_from_yields_List c.nth.result c.nth.new.self (c.args.word % c.count-count.result) c.nth.ensures.ran
    (YieldsList-from_filter _ test (YieldsList-at c.filter-2.ensures.source (YieldsList-from_range 0 8 8 refl refl)) c.filter-2.ensures.closure (λ x b q k. search (rules, tests))) in
    sym (option_map_id c.nth.result) ∙ (item ∙ ap (λ n. slice_get (passing test) (c.args.word % n)) count)

pub returns-then-count-eq0-clause-number : goal.returns-then-count-eq0-clause-number
returns-then-count-eq0-clause-number c = no_pick (is_set c.args.bits) c.args.word c.count-count.result (counted-then c) c.if-count-eq0.true

pub returns-then-count-eq0-clause-none : goal.returns-then-count-eq0-clause-none
returns-then-count-eq0-clause-none c =
    none_where_none_set c.args.bits c.args.word _ c.ranges.bits.fits (no_pick (is_set c.args.bits) c.args.word c.count-count.result (counted-then c) c.if-count-eq0.true)

pub returns-clause-number : goal.returns-clause-number
returns-clause-number c = chosen c

pub returns-clause-none : goal.returns-clause-none
returns-clause-none c = none_where_none_set c.args.bits c.args.word c.nth.result c.ranges.bits.fits (chosen c)
