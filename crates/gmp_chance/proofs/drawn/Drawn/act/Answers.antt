use Rattle.std.proofs.Common.{ℕ, ◌≡◌, ◌<◌, List, Some, get_or, length, inr, refl, arith, sym, ap, ◌∙◌}
use Rattle.std.proofs.lemmas.Option.{slice_get-get_or}
use Rattle.gmp_chance.specs.Drawn.{Table, awake}
use Rattle.gmp_core.specs.Stage.{machines_of}
use Rattle.gmp_chance.proofs.Wakeful.{below_listed, listed_as, none_awake, picked_awake}
use Rattle.gmp_chance.proofs.drawn.Drawn.act.Goals as goal

-- nobody is awake
pub returns-then-is_empty-clause-tries : goal.returns-then-is_empty-clause-tries
returns-then-is_empty-clause-tries g c =
    let k = c.self.inside.core.system in
    let empty : length c.awake-awake.result.items ≡ 0 = grind arith in
    let all : c.awake-awake.result.items ≡ awake k = c.awake-awake.ensures ∙ ap (λ (t : Table _ _ _). awake t.core.system) (sym c.self.view_is) in
    let none : length (awake k) ≡ 0 = ap (λ (l : List ℕ). length l) (sym all) ∙ empty in
    rw (← c.self.view_is) (refl, inr (λ m below. none_awake k (machines_of k) none m.0 below))

pub advance-requires-clause-there : goal.advance-requires-clause-there
advance-requires-clause-there g c =
    let k = c.self.inside.core.system in
    let place = c.deal-place.result.0 in
    let same : awake c.args.self.now.core.system ≡ awake k = ap (λ (t : Table _ _ _). awake t.core.system) (sym c.self.view_is) in
    let seen : c.deref.result.now ≡ awake k = c.deref.ensures.0 ∙ (c.awake-awake.ensures ∙ same) in
    let all : c.deref-3.result.now ≡ awake k = c.deref-3.ensures.0 ∙ (c.awake-awake.ensures ∙ same) in
    let listed = listed_as c.self.inside.core.system c.args.self.now.core.system c.deref.result.now c.nexts-nexts.result.items c.deref-2.result.now (ap (λ (t : Table _ _ _). t.core.system) (sym c.self.view_is)) seen c.nexts-nexts.ensures c.deref-2.ensures.0 in
    let there : place < length (awake k) = below_listed k place c.deref-2.result.now listed c.deal-place.ensures.there in
    rw all (picked_awake k (machines_of k) place 0 there).0

pub advance-requires-clause-awake : goal.advance-requires-clause-awake
advance-requires-clause-awake g c =
    let k = c.self.inside.core.system in
    let place = c.deal-place.result.0 in
    let same : awake c.args.self.now.core.system ≡ awake k = ap (λ (t : Table _ _ _). awake t.core.system) (sym c.self.view_is) in
    let seen : c.deref.result.now ≡ awake k = c.deref.ensures.0 ∙ (c.awake-awake.ensures ∙ same) in
    let all : c.deref-3.result.now ≡ awake k = c.deref-3.ensures.0 ∙ (c.awake-awake.ensures ∙ same) in
    let listed = listed_as c.self.inside.core.system c.args.self.now.core.system c.deref.result.now c.nexts-nexts.result.items c.deref-2.result.now (ap (λ (t : Table _ _ _). t.core.system) (sym c.self.view_is)) seen c.nexts-nexts.ensures c.deref-2.ensures.0 in
    let there : place < length (awake k) = below_listed k place c.deref-2.result.now listed c.deal-place.ensures.there in
    rw all (picked_awake k (machines_of k) place 0 there).1

-- who is dealt acts
pub returns-clause-tries : goal.returns-clause-tries
returns-clause-tries g c =
    let k = c.self.inside.core.system in
    let place = c.deal-place.result.0 in
    let same : awake c.args.self.now.core.system ≡ awake k = ap (λ (t : Table _ _ _). awake t.core.system) (sym c.self.view_is) in
    let seen : c.deref.result.now ≡ awake k = c.deref.ensures.0 ∙ (c.awake-awake.ensures ∙ same) in
    let all : c.deref-3.result.now ≡ awake k = c.deref-3.ensures.0 ∙ (c.awake-awake.ensures ∙ same) in
    let listed = listed_as c.self.inside.core.system c.args.self.now.core.system c.deref.result.now c.nexts-nexts.result.items c.deref-2.result.now (ap (λ (t : Table _ _ _). t.core.system) (sym c.self.view_is)) seen c.nexts-nexts.ensures c.deref-2.ensures.0 in
    let there : place < length (awake k) = below_listed k place c.deref-2.result.now listed c.deal-place.ensures.there in
    rw (← c.self.view_is) (record {
      place = place;
      word = c.deal-place.result.1;
      m = _;
      dealt = rw c.advance.ensures.dealer (rw (← listed) c.deal-place.ensures.deals);
      picked = slice_get-get_or (awake k) place 0 there ∙ ap (λ (l : List ℕ). Some (get_or l place 0)) (sym all);
      plays = c.advance.ensures.plays;
    })
