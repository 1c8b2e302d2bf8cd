use Rattle.std.proofs.Common.{◌≡◌, true, refl, sym, ap, ◌∙◌, subst, List, arith, length, rules}
use Rattle.std.proofs.lemmas.List.{take_all, take_more}
use Rattle.gmp_base.specs.declared.number.MNo.{MNo}
use Rattle.gmp_acts.specs.declared.choice.Choice.{Choice}
use Rattle.gmp_acts.specs.Acts.{ActsAll}
use Rattle.gmp_core.specs.Whole.{GrantsAll, Whole}
use Rattle.gmp_core.proofs.Moves.{all_and_one, grants_and_one, opened_on}
use Rattle.gmp_core.proofs.Served.{served}
use Rattle.gmp_core.proofs.engine.Core.run.Goals as goal

pub loop-i-init : goal.loop-i-init
loop-i-init g c = record { acts = refl; calls = refl; steady = λ steady. steady; stock = refl; opened = record { run = refl; limits = refl; bodies = refl; capacities = refl }; whole = λ whole. whole }

pub loop-i-preserved : goal.loop-i-preserved
loop-i-preserved g c =
    let so_far = c.loop-i.invariant in
    let made : c.act.result ≡ true = search rules in
    record {
      acts = rw (take_more c.args.moves.now c.loop-i.i c.index-moves-i.result c.loop-i-test.true, ← c.index-moves-i.is) (all_and_one _ c.index-moves-i.result _ _ _ so_far.acts (c.act.ensures.acts made));
      calls = rw (take_more c.args.moves.now c.loop-i.i c.index-moves-i.result c.loop-i-test.true, ← c.index-moves-i.is) (grants_and_one _ c.index-moves-i.result _ _ _ so_far.calls (c.act.ensures.acts made) (c.act.ensures.calls made) (c.act.ensures.claims made) (c.act.ensures.fixed made));
      steady = λ steady. c.act.ensures.steady (so_far.steady steady);
      stock = c.act.ensures.stock ∙ so_far.stock;
      opened = opened_on _ _ _ so_far.opened c.act.ensures.opened;
      whole = λ whole. c.act.ensures.whole (so_far.whole whole);
    }

pub returns-clause-acts : goal.returns-clause-acts
returns-clause-acts g c =
    subst (λ (l : List (MNo × Choice)). ActsAll c.args.self.now.system l c.loop-i.self.system)
    (take_all c.loop-i.i c.args.moves.now c.loop-i-test.false ∙ sym (take_all (length c.args.moves.now) c.args.moves.now (omega arith))) c.loop-i.invariant.acts

pub returns-clause-calls : goal.returns-clause-calls
returns-clause-calls g c =
    subst (λ (l : List (MNo × Choice)). GrantsAll c.args.self.now l c.loop-i.self)
    (take_all c.loop-i.i c.args.moves.now c.loop-i-test.false ∙ sym (take_all (length c.args.moves.now) c.args.moves.now (omega arith))) c.loop-i.invariant.calls

pub returns-then-not-act-clause-steady : goal.returns-then-not-act-clause-steady
returns-then-not-act-clause-steady g c = λ steady. c.act.ensures.steady (c.loop-i.invariant.steady steady)

pub returns-then-not-act-clause-served : goal.returns-then-not-act-clause-served
returns-then-not-act-clause-served g c = λ m r count. served _ c.args.self.now m r _ count _ c.self.invariant (ap (λ (w : Whole _). w.system) c.self.view_is)

pub returns-clause-served : goal.returns-clause-served
returns-clause-served g c = λ m r count. served _ c.args.self.now m r _ count _ c.self.invariant (ap (λ (w : Whole _). w.system) c.self.view_is)
