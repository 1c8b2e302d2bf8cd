use Rattle.std.proofs.Common.{◌≡◌, ◌∙◌, true, false, ap, arith, subst, sym}
use Rattle.gmp_fair.specs.Fair.{AllSteady}
use Rattle.gmp_fair.proofs.Steady.{act_steady}
use Rattle.gmp_core.specs.Whole.{Whole}
use Rattle.gmp_core.proofs.Stock.{found}
use Rattle.gmp_core.proofs.Together.{acts_none, acts_so, awake_so, calls_so, claims_so, core_headline, core_so, finds_room, fixed_none, fixed_so, has_pass, headline_so, opened_so, same_run, stock_so, whole_so}
use Rattle.gmp_core.proofs.engine.Core.act.Goals as goal

pub act-requires-clause-pass : goal.act-requires-clause-pass
act-requires-clause-pass g c =
    let at = found c.self.inside.drivers.items c.args.m.0 c.in-Some.driver.now c.in-Some.ensures.item.3.0 c.in-Some.ensures.value in
    has_pass _ c.args.m c.in-Some.driver.now at c.self.invariant

pub act-requires-clause-run : goal.act-requires-clause-run
act-requires-clause-run g c =
    let at = found c.self.inside.drivers.items c.args.m.0 c.in-Some.driver.now c.in-Some.ensures.item.3.0 c.in-Some.ensures.value in
    same_run _ c.args.m c.in-Some.driver.now at c.self.invariant

pub act-requires-clause-room : goal.act-requires-clause-room
act-requires-clause-room g c =
    let at = found c.self.inside.drivers.items c.args.m.0 c.in-Some.driver.now c.in-Some.ensures.item.3.0 c.in-Some.ensures.value in
    finds_room _ c.args.m c.in-Some.driver.now at c.self.invariant

pub invariant_of-self-2 : goal.invariant_of-self-2
invariant_of-self-2 g c =
    let at = found c.self.inside.drivers.items c.args.m.0 c.in-Some.driver.now c.in-Some.ensures.item.3.0 c.in-Some.ensures.value in
    let room = rw (← ap (λ (w : Whole _). w.system) c.self.view_is) at (c.is_full.ensures.room.0 c.if-is_full.false) in
    core_so _ c.args.m c.in-Some.driver.now at c.self.invariant c.args.choice.now _ c.has_few.ensures room c.act.ensures.does

pub returns-clause-acts : goal.returns-clause-acts
returns-clause-acts g c =
    let at = found c.self.inside.drivers.items c.args.m.0 c.in-Some.driver.now c.in-Some.ensures.item.3.0 c.in-Some.ensures.value in
    let room = rw (← ap (λ (w : Whole _). w.system) c.self.view_is) at (c.is_full.ensures.room.0 c.if-is_full.false) in
    λ _. rw (← ap (λ (w : Whole _). w.system) c.self.view_is) (acts_so _ c.args.m c.in-Some.driver.now at c.self.invariant c.args.choice.now _ c.has_few.ensures room c.act.ensures.does)

pub returns-clause-stock : goal.returns-clause-stock
returns-clause-stock g c =
    let at = found c.self.inside.drivers.items c.args.m.0 c.in-Some.driver.now c.in-Some.ensures.item.3.0 c.in-Some.ensures.value in
    let room = rw (← ap (λ (w : Whole _). w.system) c.self.view_is) at (c.is_full.ensures.room.0 c.if-is_full.false) in
    rw (← ap (λ (w : Whole _). w.stock) c.self.view_is) (stock_so _ c.args.m c.in-Some.driver.now at c.self.invariant c.args.choice.now _ c.has_few.ensures room c.act.ensures.does)

pub returns-clause-claims : goal.returns-clause-claims
returns-clause-claims g c =
    let at = found c.self.inside.drivers.items c.args.m.0 c.in-Some.driver.now c.in-Some.ensures.item.3.0 c.in-Some.ensures.value in
    let room = rw (← ap (λ (w : Whole _). w.system) c.self.view_is) at (c.is_full.ensures.room.0 c.if-is_full.false) in
    λ _. rw (← ap (λ (w : Whole _). w.system) c.self.view_is) (claims_so _ c.args.m c.in-Some.driver.now at c.self.invariant c.args.choice.now _ c.has_few.ensures room c.act.ensures.does)

pub returns-clause-calls : goal.returns-clause-calls
returns-clause-calls g c =
    let at = found c.self.inside.drivers.items c.args.m.0 c.in-Some.driver.now c.in-Some.ensures.item.3.0 c.in-Some.ensures.value in
    let room = rw (← ap (λ (w : Whole _). w.system) c.self.view_is) at (c.is_full.ensures.room.0 c.if-is_full.false) in
    λ _. rw (← ap (λ (w : Whole _). w.system) c.self.view_is) (calls_so _ c.args.m c.in-Some.driver.now at c.self.invariant c.args.choice.now _ c.has_few.ensures room c.act.ensures.does)

pub returns-clause-opened : goal.returns-clause-opened
returns-clause-opened g c =
    let at = found c.self.inside.drivers.items c.args.m.0 c.in-Some.driver.now c.in-Some.ensures.item.3.0 c.in-Some.ensures.value in
    let room = rw (← ap (λ (w : Whole _). w.system) c.self.view_is) at (c.is_full.ensures.room.0 c.if-is_full.false) in
    rw (← ap (λ (w : Whole _). w.system) c.self.view_is) (opened_so _ c.args.m c.in-Some.driver.now at c.self.invariant c.args.choice.now _ c.has_few.ensures room c.act.ensures.does)

pub returns-clause-whole : goal.returns-clause-whole
returns-clause-whole g c =
    let at = found c.self.inside.drivers.items c.args.m.0 c.in-Some.driver.now c.in-Some.ensures.item.3.0 c.in-Some.ensures.value in
    let room = rw (← ap (λ (w : Whole _). w.system) c.self.view_is) at (c.is_full.ensures.room.0 c.if-is_full.false) in
    rw (← ap (λ (w : Whole _). w.system) c.self.view_is) (whole_so _ c.args.m c.in-Some.driver.now at c.self.invariant c.args.choice.now _ c.has_few.ensures room c.act.ensures.does)

pub returns-clause-fixed : goal.returns-clause-fixed
returns-clause-fixed g c =
    let at = found c.self.inside.drivers.items c.args.m.0 c.in-Some.driver.now c.in-Some.ensures.item.3.0 c.in-Some.ensures.value in
    let room = rw (← ap (λ (w : Whole _). w.system) c.self.view_is) at (c.is_full.ensures.room.0 c.if-is_full.false) in
    λ _. rw (← c.self.view_is) (fixed_so _ c.args.m c.in-Some.driver.now at c.self.invariant c.args.choice.now _ c.has_few.ensures room c.act.ensures.does c.history.ensures.listing)

pub returns-clause-steady : goal.returns-clause-steady
returns-clause-steady g c =
    let at = found c.self.inside.drivers.items c.args.m.0 c.in-Some.driver.now c.in-Some.ensures.item.3.0 c.in-Some.ensures.value in
    let room = rw (← ap (λ (w : Whole _). w.system) c.self.view_is) at (c.is_full.ensures.room.0 c.if-is_full.false) in
    rw (← ap (λ (w : Whole _). w.system) c.self.view_is)
    (λ steady. act_steady _ c.args.m c.args.choice.now _ steady (acts_so _ c.args.m c.in-Some.driver.now at c.self.invariant c.args.choice.now _ c.has_few.ensures room c.act.ensures.does))

pub returns-clause-headline : goal.returns-clause-headline
returns-clause-headline g c =
    let at = found c.self.inside.drivers.items c.args.m.0 c.in-Some.driver.now c.in-Some.ensures.item.3.0 c.in-Some.ensures.value in
    let room = rw (← ap (λ (w : Whole _). w.system) c.self.view_is) at (c.is_full.ensures.room.0 c.if-is_full.false) in
    headline_so _ c.args.m c.in-Some.driver.now at c.self.invariant c.args.choice.now _ c.has_few.ensures room c.act.ensures.does

pub returns-clause-awake : goal.returns-clause-awake
returns-clause-awake g c =
    let at = found c.self.inside.drivers.items c.args.m.0 c.in-Some.driver.now c.in-Some.ensures.item.3.0 c.in-Some.ensures.value in
    let room = rw (← ap (λ (w : Whole _). w.system) c.self.view_is) at (c.is_full.ensures.room.0 c.if-is_full.false) in
    awake_so _ c.args.m c.in-Some.driver.now at c.self.invariant c.args.choice.now _ c.has_few.ensures room c.act.ensures.does

pub returns-then-is_full-clause-room : goal.returns-then-is_full-clause-room
returns-then-is_full-clause-room g c =
    (λ none. absurd (let no : false ≡ true = none in cc), λ free. (let empty = c.is_full.ensures.room.1 free in sym empty ∙ c.if-is_full.true))

pub returns-then-is_full-clause-kept : goal.returns-then-is_full-clause-kept
returns-then-is_full-clause-kept g c = λ kept whole. (let free = c.is_full.ensures.kept kept whole in sym free ∙ c.if-is_full.true)

pub returns-in_default-clause-acts : goal.returns-in_default-clause-acts
returns-in_default-clause-acts g c = λ _.
    acts_none (record { book = c.self.inside.book; rings = c.self.inside.queues; machines = c.self.inside.drivers.items }) c.args.m c.args.choice.now _ (ap (λ (w : Whole _). w.system) c.self.view_is) c.has_few.ensures
    (λ within. (let bad : false ≡ true = c.in_default.ensures.variant.1 (omega arith) in cc))

pub returns-in_default-clause-fixed : goal.returns-in_default-clause-fixed
returns-in_default-clause-fixed g c = λ _.
    fixed_none (record { book = c.self.inside.book; rings = c.self.inside.queues; machines = c.self.inside.drivers.items }) c.args.m c.args.choice.now.word _ c.self.view_is c.history.ensures.listing
    (λ within. (let bad : false ≡ true = c.in_default.ensures.variant.1 (omega arith) in cc))

pub returns-in_default-clause-steady : goal.returns-in_default-clause-steady
returns-in_default-clause-steady g c = λ steady. subst (λ (w : Whole _). AllSteady w.system) (sym c.self.view_is) steady

pub returns-in_default-clause-headline : goal.returns-in_default-clause-headline
returns-in_default-clause-headline g c = core_headline _ c.self.invariant
