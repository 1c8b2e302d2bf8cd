use Rattle.std.proofs.Common.{◌≡◌, ◌<◌, None, true, false, refl, sym, subst}
use Rattle.gmp_acts.specs.Acts.{Acts}
use Rattle.gmp_acts.specs.System.{System}
use Rattle.gmp_core.specs.Stage.{machines_of, parked}
use Rattle.gmp_core.specs.Whole.{IsKept, IsWhole}
use Rattle.gmp_core.proofs.Dealt.{fixed_same}
use Rattle.gmp_chance.specs.Drawn.{Table}
use Rattle.gmp_chance.proofs.Wakeful.{own_turn}
use Rattle.gmp_chance.proofs.drawn.Drawn.advance.Goals as goal

pub returns-clause-plays : goal.returns-clause-plays
returns-clause-plays g c =
    let before = c.self.inside.core in
    let dealt = c.choose.new.core in
    let system : dealt.system ≡ before.system = c.choose.ensures.system in
    let made : c.act.result ≡ true =
    c.act.ensures.kept (subst (λ (k : System). IsKept k.book.limits) (sym system) c.self.invariant.0.kept) (subst IsWhole (sym system) c.self.invariant.0.whole) in
    rw (← c.self.view_is) (record {
      lasts = λ over. over.outcome (subst (λ (t : Table _ _ _). t.core.system.book.state.outcome ≡ None) (sym c.self.view_is) c.requires.lasts);
      m = c.args.m;
      next = own_turn before.system c.args.m
          (subst (λ (t : Table _ _ _). c.args.m.0 < machines_of t.core.system) (sym c.self.view_is) c.requires.there)
          (subst (λ (t : Table _ _ _). parked t.core.system c.args.m.0 ≡ false) (sym c.self.view_is) c.requires.awake);
      choice = c.choose.new.choice;
      settled = c.choose.ensures.settled;
      deals = rw c.act.ensures.stock c.choose.ensures.deals;
      acts = subst (λ (k : System). Acts k c.args.m c.choose.new.choice c.act.new.self.system) system (c.act.ensures.acts made);
      fixed = fixed_same dealt before c.act.new.self c.args.m c.choose.new.choice.word system c.choose.ensures.shelf (c.act.ensures.fixed made);
      turn = refl;
    })
