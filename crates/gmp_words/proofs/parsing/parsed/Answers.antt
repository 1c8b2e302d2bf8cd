use Rattle.std.proofs.Common.{rules, tests, ◌≡◌, ◌==◌, ℕ, ◌+◌, ◌<◌, ◌++◌, ◌∷◌, [], List, length, take, get_or, ap, sym, ◌∙◌, arith}
use Rattle.std.proofs.lemmas.Iterator.Consumers.{YieldsList-at, YieldsList-turn, YieldsList-end}
use Rattle.std.proofs.lemmas.Iterator.Splits.{YieldsList-from_slice_split}
use Rattle.std.proofs.lemmas.List.{take_all, take_more, length_push}
use Rattle.gmp_script.specs.Lines.{lines}
use Rattle.gmp_words.proofs.parsing.parsed.Goals as goal

one_more : (all : List (List ℕ)) (n : ℕ) (l : List ℕ) → (n < length all) × (l ≡ get_or all n l) → take (n + 1) all ≡ take n all ++ l ∷ []
one_more all n l h = take_more all n l h.0 ∙ ap (λ y. take n all ++ y ∷ []) (sym h.1)

pub returns-then-not-branch-clause-first : goal.returns-then-not-branch-clause-first
returns-then-not-branch-clause-first c = λ line e.
    let t = YieldsList-turn (YieldsList-at c.into_iter-line-iterator.ensures.into_iter_gives
    (YieldsList-from_slice_split _ (λ b. b == 10) c.args.text.now c.split-line-items.ensures.rest c.split-line-items.ensures.done c.split-line-items.ensures.closure
    (λ x b q k. search (rules, tests))))
    c.loop-line.yielded _ c.loop-line.yielded_by _ _ c.in-Some.line c.in-Some.is c.next.ensures.steps in
    let counted : line ≡ length c.loop-line.yielded + 1 = cc in
    let more = one_more (lines c.args.text.now) (length c.loop-line.yielded) c.in-Some.line.now t in
    record {
      before = length c.loop-line.yielded;
      next = counted;
      within = t.0;
      good = (c.loop-line.script.capacities.items, c.loop-line.script.readings.items, c.loop-line.script.bodies.items, c.loop-line.invariant.good);
      bad = λ cs rs b s. c.in_ok-add.ensures.bad c.if-not-branch.true (take (length c.loop-line.yielded) (lines c.args.text.now)) c.loop-line.invariant.good cs rs b
          (rw (counted, more) at s);
    }

pub loop-line-preserved : goal.loop-line-preserved
loop-line-preserved c =
    let t = YieldsList-turn (YieldsList-at c.into_iter-line-iterator.ensures.into_iter_gives
    (YieldsList-from_slice_split _ (λ b. b == 10) c.args.text.now c.split-line-items.ensures.rest c.split-line-items.ensures.done c.split-line-items.ensures.closure
    (λ x b q k. search (rules, tests))))
    c.loop-line.yielded _ c.loop-line.yielded_by _ _ c.in-Some.line c.in-Some.is c.next.ensures.steps in
    let pushed = length_push c.loop-line.yielded c.in-Some.line in
    let more = one_more (lines c.args.text.now) (length c.loop-line.yielded) c.in-Some.line.now t in
    record {
      counted = omega arith;
      good = rw (pushed, more) (c.in_ok-add.ensures.good c.if-not-branch.false (take (length c.loop-line.yielded) (lines c.args.text.now)) c.loop-line.invariant.good);
    }

pub returns-clause-ok : goal.returns-clause-ok
returns-clause-ok c =
    let t = YieldsList-end (YieldsList-at c.into_iter-line-iterator.ensures.into_iter_gives
    (YieldsList-from_slice_split _ (λ b. b == 10) c.args.text.now c.split-line-items.ensures.rest c.split-line-items.ensures.done c.split-line-items.ensures.closure
    (λ x b q k. search (rules, tests))))
    c.loop-line.yielded _ c.loop-line.yielded_by _ _ c.in-None.is c.next.ensures.steps in
    rw (take_all (length c.loop-line.yielded) (lines c.args.text.now) (omega (arith, t.1))) at c.loop-line.invariant.good

pub loop-line-init : goal.loop-line-init
loop-line-init c = search rules
