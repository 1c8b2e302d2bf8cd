use Rattle.std.proofs.Common.{◌≡◌, true, refl, sym, subst}
use Rattle.gmp_acts.specs.Acts.{Acts}
use Rattle.gmp_acts.specs.System.{System}
use Rattle.gmp_core.specs.Whole.{IsKept, IsWhole}
use Rattle.gmp_core.specs.Stage.{HasTurn, IsOver, Stage}
use Rattle.gmp_core.proofs.Dealt.{fixed_same}
use Rattle.gmp_core.proofs.playing.Player.advance.Goals as goal

pub returns-clause-plays : goal.returns-clause-plays
returns-clause-plays g c =
    let before = c.self.inside.core in
    let dealt = c.choose.new.core in
    let system : dealt.system ≡ before.system = c.choose.ensures.system in
    let made : c.act.result ≡ true =
    c.act.ensures.kept (subst (λ (k : System). IsKept k.book.limits) (sym system) c.self.invariant.kept) (subst IsWhole (sym system) c.self.invariant.whole) in
    rw (← c.self.view_is) (record {
      lasts = subst (λ (s : Stage _ _). ¬ (IsOver s.core.system)) (sym c.self.view_is) c.requires.lasts;
      m = c.args.m;
      next = subst (λ (s : Stage _ _). HasTurn s.core.system s.turn c.args.m) (sym c.self.view_is) c.requires.next;
      choice = c.choose.new.choice;
      settled = c.choose.ensures.settled;
      deals = rw c.act.ensures.stock c.choose.ensures.deals;
      acts = subst (λ (k : System). Acts k c.args.m c.choose.new.choice c.act.new.self.system) system (c.act.ensures.acts made);
      fixed = fixed_same dealt before c.act.new.self c.args.m c.choose.new.choice.word system c.choose.ensures.shelf (c.act.ensures.fixed made);
      turn = refl;
    })
